-- `control::other_open` meets its contract. Assumes nothing.
use mathlib.Core.Bool.{not}
use Rattle.std.proofs.Common.{ℕ, ap, ◌∙◌}
use borrow.Author.Tests.{ne_eqb}
use lib.Dec.{eqb}
use Rattle.control.proofs.Laws.{none_open, one-open}
use Rattle.control.proofs.other_open.Goals as goal

pub returns-then-control-eq1 : goal.returns-then-control-eq1
returns-then-control-eq1 c =
    ap (λ (x : ℕ). not (eqb x c.args.p)) c.load.ensures
    ∙ (one-open c.args.control.now c.args.p c.if-control-eq1.true).1

pub returns-else-control-eq1 : goal.returns-else-control-eq1
returns-else-control-eq1 c = ne_eqb _ 1 c.if-control-eq1.false ∙ (none_open c.args.control.now c.args.p c.if-control-eq1.false).1
