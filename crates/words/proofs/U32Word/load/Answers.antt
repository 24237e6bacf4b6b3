-- `u32::load` meets its contract. Assumes nothing.
use Rattle.std.proofs.Common.{arith}
use Rattle.words.proofs.Parts.{number4}
use Rattle.words.proofs.U32Word.load.Goals as goal

pub returns : goal.returns
returns c =
    omega (arith, number4 256 c.args.s.now c.args.at c.requires, c.from.ensures, c.from-2.ensures, c.from-3.ensures, c.from-4.ensures)
