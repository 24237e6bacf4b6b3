-- `control::turn_mask` meets its contract. Assumes nothing.
use mathlib.Core.Path.{◌∙◌, sym}
use Rattle.control.proofs.Laws.{turn-mask-at}
use Rattle.control.proofs.turn_mask.Goals as goal

pub returns : goal.returns
returns c = c.load.ensures ∙ sym (turn-mask-at c.args.control.now)
