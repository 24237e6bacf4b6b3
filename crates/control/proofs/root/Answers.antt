-- `control::root` meets its contract. Assumes nothing.
use mathlib.Core.Path.{◌∙◌, sym}
use Rattle.control.proofs.Laws.{root-at}
use Rattle.control.proofs.root.Goals as goal

pub returns : goal.returns
returns c = c.load.ensures ∙ sym (root-at c.args.control.now)
