-- `turn_check::SetBitsIterator::next` meets its contract. Assumes nothing.
use mathlib.Core.Path.{ap, ◌∙◌}
use native.Mathlib.Omega.{arith}
use lib.ListN.{length}
use Rattle.bits.specs.Bits.{set_bits}
use Rattle.bits.proofs.Laws.{bits_none}
use Rattle.turn_check.proofs.Laws.{bits-split}
use Rattle.turn_check.proofs.SetBitsIterator.next.Goals as goal

pub returns-then-self-eq0-clause-steps : goal.returns-then-self-eq0-clause-steps
returns-then-self-eq0-clause-steps c = let none = ap set_bits c.if-self-eq0.true ∙ bits_none in (none, none)

pub returns-clause-steps : goal.returns-clause-steps
returns-clause-steps c =
    bits-split c.args.self.now.0 c.without_lowest-self.result (omega arith) (omega arith) c.lowest-j.ensures.0 c.without_lowest-self.ensures

pub returns-clause-goes : goal.returns-clause-goes
returns-clause-goes c =
    let split = bits-split c.args.self.now.0 c.without_lowest-self.result (omega arith) (omega arith) c.lowest-j.ensures.0
    c.without_lowest-self.ensures in
    record { on = λ f. (tt, tt, omega (arith, ap length split)); keeps = tt; rests = λ f. tt }
