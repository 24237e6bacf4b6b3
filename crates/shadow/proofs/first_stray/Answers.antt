-- `shadow::first_stray` meets its contract. Assumes nothing.
use mathlib.Core.Bool.{true, false}
use Rattle.std.proofs.Common.{◌≡◌, length, refl, sym, ◌∙◌, rules, arith}
use Rattle.memory_map.specs.Map.{slots}
use Rattle.cache.proofs.Owners.{place-empty, place-filled}
use Rattle.shadow.proofs.Steps.{stray-turn, stray-end}
use Rattle.shadow.proofs.first_stray.Goals as goal
use Rattle.shadow.proofs.first_stray.Goals.{else-o-ne0-via-then-o-ne0+else-not-belongs, else-o-ne0-via-else-o-ne0}

pub loop-s-init : goal.loop-s-init
loop-s-init c = refl

pub offset_bounds-owners-s : goal.offset_bounds-owners-s
unfolding slots
offset_bounds-owners-s c = omega arith

pub bounds-owners-s : goal.bounds-owners-s
unfolding slots
bounds-owners-s c = omega arith

pub returns-then-not-belongs : goal.returns-then-not-belongs
unfolding slots
returns-then-not-belongs c =
    let size : length c.args.owners ≡ 10 = search rules in
    sym (c.loop-s.invariant ∙ stray-turn c.args.h c.args.owners (slots c.args.h) c.loop-s.s false (omega arith) (omega arith)
    (place-filled _ _ c.if-o-ne0.true ∙ sym c.belongs.ensures ∙ c.if-not-belongs.true))

pub loop-s-preserved : goal.loop-s-preserved
unfolding slots
loop-s-preserved c =
    let size : length c.args.owners ≡ 10 = search rules in
    c.loop-s.invariant ∙ stray-turn c.args.h c.args.owners (slots c.args.h) c.loop-s.s true (omega arith) (omega arith)
    (elim c.else-o-ne0.branch [
      | else-o-ne0-via-then-o-ne0+else-not-belongs w ↦ place-filled _ _ w.if-o-ne0.true ∙ sym w.belongs.ensures ∙ w.if-not-belongs.false
      | else-o-ne0-via-else-o-ne0 w ↦ place-empty _ _ w.if-o-ne0.false
    ])

pub returns : goal.returns
returns c = sym (c.loop-s.invariant ∙ stray-end c.args.h c.args.owners (slots c.args.h) c.loop-s.s (omega arith))
