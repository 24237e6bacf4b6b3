-- `format::mark_of` meets its contract. Assumes nothing.
use mathlib.Core.Path.{sym, ap, ◌∙◌}
use Rattle.control.specs.Control.{mark_of}
use Rattle.control.proofs.Laws.{mark-bytes, other-mark-bytes}
use Rattle.format.proofs.Laws.{other-mark}
use Rattle.format.proofs.mark_of.Goals as goal

pub returns-then-family-eq0 : goal.returns-then-family-eq0
returns-then-family-eq0 c = c.load.ensures ∙ mark-bytes ∙ ap mark_of (sym c.if-family-eq0.true)

pub returns : goal.returns
returns c = c.load-2.ensures ∙ other-mark-bytes ∙ other-mark _ c.if-family-eq0.false
