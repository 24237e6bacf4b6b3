-- `control::new_root` meets its contract. Assumes nothing.
use mathlib.Core.Path.{◌∙◌, sym}
use Rattle.control.proofs.Laws.{new-root-at}
use Rattle.control.proofs.new_root.Goals as goal

pub returns : goal.returns
returns c = c.load.ensures ∙ sym (new-root-at c.args.control.now)
