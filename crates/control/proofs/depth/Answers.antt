-- `control::depth` meets its contract. Assumes nothing.
use mathlib.Core.Path.{◌∙◌, sym}
use Rattle.control.proofs.Laws.{depth-at}
use Rattle.control.proofs.depth.Goals as goal

pub returns : goal.returns
returns c = c.from.ensures ∙ sym (depth-at c.args.control.now)
