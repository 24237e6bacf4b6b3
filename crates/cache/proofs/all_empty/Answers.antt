-- `cache::all_empty` meets its contract. Assumes nothing.
use mathlib.Core.Path.{◌≡◌, sym, ap, ◌∙◌}
use mathlib.Core.Bool.{Bool, true, false, ◌||◌, not}
use Prim.Native.Nat.{ℕ, ◌+◌, ◌-◌}
use native.Mathlib.Nat.{sub-zero}
use lib.Dec.{eqb}
use borrow.Author.Tests.{eq-eqb, ne_eqb}
use Rattle.cache.specs.Cache.{owner, from, any_owner}
use Rattle.cache.proofs.Levels.{empty-turn, empty-end}
use Rattle.cache.proofs.all_empty.Goals as goal

pub loop-s-init : goal.loop-s-init
loop-s-init c = rw sub-zero

pub returns-then-owner-ne0 : goal.returns-then-owner-ne0
returns-then-owner-ne0 c =
    let turn : (b : Bool) → eqb c.owner.result 0 ≡ b → any_owner (from (owner c.args.cache.now) 0 c.args.n) ≡ (not b || any_owner (from (owner c.args.cache.now) (c.loop-s.s + 1) (c.args.n - (c.loop-s.s + 1)))) = λ b e. c.loop-s.invariant
    ∙ empty-turn c.args.cache.now c.args.n c.loop-s.s b c.loop-s-test.true
    (ap (λ (o : ℕ). eqb o 0) (sym c.owner.ensures) ∙ e) in
    sym (ap not (turn false (ne_eqb c.owner.result 0 c.if-owner-ne0.true)))

pub loop-s-preserved : goal.loop-s-preserved
loop-s-preserved c =
    let turn : (b : Bool) → eqb c.owner.result 0 ≡ b → any_owner (from (owner c.args.cache.now) 0 c.args.n) ≡ (not b || any_owner (from (owner c.args.cache.now) (c.loop-s.s + 1) (c.args.n - (c.loop-s.s + 1)))) = λ b e. c.loop-s.invariant
    ∙ empty-turn c.args.cache.now c.args.n c.loop-s.s b c.loop-s-test.true
    (ap (λ (o : ℕ). eqb o 0) (sym c.owner.ensures) ∙ e) in
    turn true (eq-eqb c.owner.result 0 c.if-owner-ne0.false)

pub returns : goal.returns
returns c = sym (ap not (c.loop-s.invariant ∙ empty-end c.args.cache.now c.args.n c.loop-s.s c.loop-s-test.false))
