-- `cache::formed` meets its contract. Assumes nothing.
use mathlib.Core.Path.{◌≡◌, sym, ap, ◌∙◌}
use mathlib.Core.Bool.{Bool, true, false, ◌&&◌, ◌||◌, not}
use mathlib.Core.List.{List}
use Prim.Native.Nat.{ℕ, ◌+◌, ◌-◌, ◌*◌, ◌≤◌}
use native.Mathlib.Nat.{le_refl}
use native.Mathlib.Omega.{arith}
use lib.Dec.{eqb}
use lib.ListN.{length}
use borrow.Author.Tests.{eq-eqb, ne_eqb}
use Rattle.memory_map.specs.Map.{slots}
use Rattle.slot_map.specs.Slots.{cache_length}
use Rattle.slot_map.proofs.Laws.{slot-within}
use Rattle.cache.specs.Cache.{owner, from, cache_owners, any_owner, formed}
use Rattle.cache.specs.Fits.{all_fit}
use Rattle.cache.proofs.Laws.{slot-room}
use Rattle.cache.proofs.Levels.{levels, topped, by_level, level-turn, level-end}
use Rattle.cache.proofs.formed.Goals as goal

-- room for the slots of a level
room : (h : ℕ) (c : List ℕ) → length c ≡ cache_length h → 73 * (4 + 2 * h) ≤ length c
unfolding cache_length slots
room h c e = omega arith

pub slots_fit-requires : goal.slots_fit-requires
slots_fit-requires c = omega (arith, room c.args.h c.args.cache.now c.requires.1.1)

pub returns-then-not-slots_fit : goal.returns-then-not-slots_fit
returns-then-not-slots_fit c =
    let low : (b : Bool) → c.slots_fit.result ≡ b → formed c.args.h c.args.cache.now ≡ (b && (levels c.args.h c.args.cache.now 0 c.args.h && topped c.args.h c.args.cache.now)) = λ b e. by_level c.args.h c.args.cache.now
    ∙ ap (λ (t : Bool). t && (levels c.args.h c.args.cache.now 0 c.args.h && topped c.args.h c.args.cache.now))
    (ap (λ (n : ℕ). all_fit 0 n c.args.cache.now 0 4) (sym c.nodes.ensures) ∙ sym c.slots_fit.ensures ∙ e) in
    sym (low false c.if-not-slots_fit.true)

pub loop-l-init : goal.loop-l-init
loop-l-init c =
    let low : (b : Bool) → c.slots_fit.result ≡ b → formed c.args.h c.args.cache.now ≡ (b && (levels c.args.h c.args.cache.now 0 c.args.h && topped c.args.h c.args.cache.now)) = λ b e. by_level c.args.h c.args.cache.now
    ∙ ap (λ (t : Bool). t && (levels c.args.h c.args.cache.now 0 c.args.h && topped c.args.h c.args.cache.now))
    (ap (λ (n : ℕ). all_fit 0 n c.args.cache.now 0 4) (sym c.nodes.ensures) ∙ sym c.slots_fit.ensures ∙ e) in
    let all : c.args.h ≡ c.args.h + 1 - 1 = omega arith in
    low true c.if-not-slots_fit.false
    ∙ ap (λ (j : ℕ). levels c.args.h c.args.cache.now 0 j && topped c.args.h c.args.cache.now) all

pub slots_fit-requires-in-loop-l : goal.slots_fit-requires-in-loop-l
slots_fit-requires-in-loop-l c = omega (arith, room c.args.h c.args.cache.now c.requires.1.1)

pub returns-then-not-slots_fit-2 : goal.returns-then-not-slots_fit-2
returns-then-not-slots_fit-2 c =
    let turn : (b : Bool) → c.slots_fit-in-loop-l.result ≡ b → formed c.args.h c.args.cache.now ≡ ((b && levels c.args.h c.args.cache.now (c.loop-l.l + 1 - 1) (c.args.h + 1 - (c.loop-l.l + 1))) && topped c.args.h c.args.cache.now) = λ b e. let l = c.loop-l.l in
    c.loop-l.invariant
    ∙ ap (λ (t : Bool). t && topped c.args.h c.args.cache.now)
    (level-turn c.args.h c.args.cache.now c.loop-l.l b (omega arith) (omega arith)
    (sym e ∙ c.slots_fit-in-loop-l.ensures ∙ ap (λ (n : ℕ). all_fit l n c.args.cache.now (2 + 2 * l) 2) c.nodes-in-loop-l.ensures)) in
    sym (turn false c.if-not-slots_fit-2.true)

pub loop-l-preserved : goal.loop-l-preserved
loop-l-preserved c =
    let turn : (b : Bool) → c.slots_fit-in-loop-l.result ≡ b → formed c.args.h c.args.cache.now ≡ ((b && levels c.args.h c.args.cache.now (c.loop-l.l + 1 - 1) (c.args.h + 1 - (c.loop-l.l + 1))) && topped c.args.h c.args.cache.now) = λ b e. let l = c.loop-l.l in
    c.loop-l.invariant
    ∙ ap (λ (t : Bool). t && topped c.args.h c.args.cache.now)
    (level-turn c.args.h c.args.cache.now c.loop-l.l b (omega arith) (omega arith)
    (sym e ∙ c.slots_fit-in-loop-l.ensures ∙ ap (λ (n : ℕ). all_fit l n c.args.cache.now (2 + 2 * l) 2) c.nodes-in-loop-l.ensures)) in
    turn true c.if-not-slots_fit-2.false

pub owner-requires : goal.owner-requires
owner-requires c =
    slot-room c.args.h c.slot_of.result c.args.cache.now c.requires.1.1
    (omega (arith, c.slot_of.ensures, slot-within c.args.h c.args.h 0 (le_refl c.args.h)))

pub returns-then-owner-ne0 : goal.returns-then-owner-ne0
returns-then-owner-ne0 c =
    let left : (b : Bool) → eqb c.owner.result 0 ≡ b → formed c.args.h c.args.cache.now ≡ (not b || not (any_owner (cache_owners c.args.h c.args.cache.now))) = λ b e. c.loop-l.invariant
    ∙ ap (λ (t : Bool). t && topped c.args.h c.args.cache.now)
    (level-end c.args.h c.args.cache.now c.loop-l.l (omega arith))
    ∙ ap (λ (t : Bool). not t || not (any_owner (cache_owners c.args.h c.args.cache.now)))
    (ap (λ (o : ℕ). eqb o 0) (ap (owner c.args.cache.now) (sym c.slot_of.ensures) ∙ sym c.owner.ensures) ∙ e) in
    sym (left false (ne_eqb c.owner.result 0 c.if-owner-ne0.true))

pub all_empty-requires : goal.all_empty-requires
unfolding slots
all_empty-requires c = rw c.slots.ensures (room c.args.h c.args.cache.now c.requires.1.1)

pub returns : goal.returns
returns c =
    let left : (b : Bool) → eqb c.owner.result 0 ≡ b → formed c.args.h c.args.cache.now ≡ (not b || not (any_owner (cache_owners c.args.h c.args.cache.now))) = λ b e. c.loop-l.invariant
    ∙ ap (λ (t : Bool). t && topped c.args.h c.args.cache.now)
    (level-end c.args.h c.args.cache.now c.loop-l.l (omega arith))
    ∙ ap (λ (t : Bool). not t || not (any_owner (cache_owners c.args.h c.args.cache.now)))
    (ap (λ (o : ℕ). eqb o 0) (ap (owner c.args.cache.now) (sym c.slot_of.ensures) ∙ sym c.owner.ensures) ∙ e) in
    c.all_empty.ensures ∙ ap (λ (n : ℕ). not (any_owner (from (owner c.args.cache.now) 0 n))) c.slots.ensures
    ∙ sym (left true (eq-eqb c.owner.result 0 c.if-owner-ne0.false))
