-- `u64::load` meets its contract. Assumes nothing.
use Rattle.std.proofs.Common.{arith}
use Rattle.words.proofs.Parts.{number-parts}
use Rattle.words.proofs.U64Word.load.Goals as goal

pub returns : goal.returns
returns c =
    omega (
      arith,
      number-parts 256 4 4 c.args.s.now c.args.at (omega arith),
      c.from-low.ensures,
      c.from-high.ensures,
      c.load.ensures,
      c.load-2.ensures,
    )
