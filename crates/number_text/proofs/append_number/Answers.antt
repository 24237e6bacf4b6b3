-- `number_text::append_number` meets its contract. Assumes nothing.
use native.Mathlib.Omega.{arith}
use Rattle.number_text.proofs.Spelled.{appended-number}
use Rattle.number_text.proofs.append_number.Goals as goal

pub returns : goal.returns
returns c =
    record {
      appended = appended-number c.spell-i.new.s c.args.n c.spell-i.result c.append-middle.ensures c.spell-i.auto.s
          c.spell-i.ensures.0 c.spell-i.ensures.1 (omega (arith, c.append-middle.ensures.size, c.append-middle.ensures.end)) c.copy.ensures;
      upper_bound = omega (arith, c.append-middle.ensures.end);
    }
