-- `turn_block::turned_minor` meets its contract. Assumes nothing.
use Rattle.std.proofs.Common.{◌∙◌, arith}
use Rattle.turn_block.proofs.Laws.{turned-min}
use Rattle.turn_block.proofs.turned_minor.Goals as goal

pub returns : goal.returns
returns c = (c.min.ensures ∙ turned-min c.args.minor, omega arith)
