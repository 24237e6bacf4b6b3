-- `forwarding::lines_read` meets its contract. Assumes nothing.
use mathlib.Core.Path.{sym, ap, ◌∙◌}
use mathlib.Core.Bool.{Bool, cond}
use Rattle.forwarding.proofs.lines_read.Goals as goal

pub returns-then-open-clause-value : goal.returns-then-open-clause-value
returns-then-open-clause-value c = ap (λ (b : Bool). cond b 0 64) (sym c.if-open.true ∙ c.is_open-open.ensures)

pub returns-else-open-clause-value : goal.returns-else-open-clause-value
returns-else-open-clause-value c = ap (λ (b : Bool). cond b 0 64) (sym c.if-open.false ∙ c.is_open-open.ensures)
