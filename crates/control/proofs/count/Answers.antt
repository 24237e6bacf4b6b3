-- `control::count` meets its contract. Assumes nothing.
use mathlib.Core.Path.{◌∙◌, sym}
use Rattle.control.proofs.Laws.{count_at_lem}
use Rattle.control.proofs.count.Goals as goal

pub returns : goal.returns
returns c = c.from.ensures ∙ sym (count_at_lem c.args.control.now)
