-- `shadow::any_owner` meets its contract. Assumes nothing.
use mathlib.Core.Path.{◌≡◌, refl, sym, ◌∙◌}
use native.Mathlib.Omega.{arith}
use lib.ListN.{length}
use Rattle.shadow.proofs.Steps.{any-turn, any-end}
use borrow.Author.Rules.{rules}
use mathlib.Core.Bool.{true, false}
use borrow.Author.Tests.{eq-eqb, ne_eqb}
use Rattle.shadow.proofs.any_owner.Goals as goal

pub loop-s-init : goal.loop-s-init
loop-s-init c = refl

pub returns-then-owners-s-ne0 : goal.returns-then-owners-s-ne0
returns-then-owners-s-ne0 c =
    let size : length c.args.owners ≡ 10 = search rules in
    sym (c.loop-s.invariant ∙ any-turn c.args.owners c.args.n c.loop-s.s false (omega arith) (omega arith)
    (ne_eqb _ _ c.if-owners-s-ne0.true))

pub loop-s-preserved : goal.loop-s-preserved
loop-s-preserved c =
    let size : length c.args.owners ≡ 10 = search rules in
    c.loop-s.invariant ∙ any-turn c.args.owners c.args.n c.loop-s.s true (omega arith) (omega arith)
    (eq-eqb _ _ c.if-owners-s-ne0.false)

pub returns : goal.returns
returns c = sym (c.loop-s.invariant ∙ any-end c.args.owners c.args.n c.loop-s.s c.loop-s-test.false)
