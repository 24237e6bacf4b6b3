-- `shadow::missing_top` meets its contract. Assumes nothing.
use mathlib.Core.Bool.{Bool, true, false, cond, ◌&&◌, and-false, and-true}
use borrow.Author.Tests.{eq-eqb, ne_eqb}
use Rattle.std.specs.Bool.{then_some}
use Rattle.std.specs.Prelude.{None, Some}
use Rattle.std.proofs.Common.{◌≡◌, ℕ, refl, take, le_refl, sym, ap, ap₂, ◌∙◌, arith}
use Rattle.memory_map.specs.Map.{slots}
use Rattle.slot_map.proofs.Laws.{slot-within}
use Rattle.cache.specs.Cache.{any_owner}
use Rattle.shadow.proofs.Steps.{top-missing}
use Rattle.shadow.proofs.missing_top.Goals as goal

some-if : (b : Bool) (t : ℕ) → then_some b t ≡ cond b (Some t) None
some-if true t = refl
some-if false t = refl

pub bounds-owners-top : goal.bounds-owners-top
unfolding slots
bounds-owners-top c = omega (arith, c.slot_of-top.ensures, slot-within c.args.h c.args.h 0 (le_refl c.args.h))

pub offset_bounds-owners-top : goal.offset_bounds-owners-top
unfolding slots
offset_bounds-owners-top c = omega (arith, c.slot_of-top.ensures, slot-within c.args.h c.args.h 0 (le_refl c.args.h))

pub returns-then-owners-top-ne0 : goal.returns-then-owners-top-ne0
returns-then-owners-top-ne0 c =
    let any = any_owner (take (slots c.args.h) c.args.owners) in
    top-missing c.args.h c.slot_of-top.result c.args.owners false c.slot_of-top.ensures
    (ap (λ (b : Bool). any && b) (ne_eqb _ _ c.if-owners-top-ne0.true) ∙ and-false any)

pub any_owner-requires : goal.any_owner-requires
unfolding slots
any_owner-requires c = omega arith

pub returns : goal.returns
returns c =
    let any : any_owner (take (slots c.args.h) c.args.owners) ≡ c.any_owner.result = ap (λ (n : ℕ). any_owner (take n c.args.owners)) (sym c.slots.ensures) ∙ sym c.any_owner.ensures in
    c.then_some.ensures ∙ some-if c.any_owner.result c.slot_of-top.result
    ∙ top-missing c.args.h c.slot_of-top.result c.args.owners c.any_owner.result c.slot_of-top.ensures
    (ap₂ ◌&&◌ any (eq-eqb _ _ c.if-owners-top-ne0.false) ∙ and-true c.any_owner.result)
