-- The turns of the loops over owners, and how their functions end. Assumes nothing.
use mathlib.Core.Path.{◌≡◌, sym, ap, ap₂, ◌∙◌, subst, fun_ext}
use mathlib.Core.Bool.{Bool, false, ◌&&◌, ◌||◌, not, cond}
use mathlib.Core.List.{List, [], ◌∷◌, ◌++◌}
use Prim.Native.Nat.{ℕ, zero, suc, ◌+◌, ◌*◌, ◌<◌, ◌≤◌}
use native.Mathlib.Nat.{add-zero, zero-add, mul-suc, mul-le-mul_left, le_refl}
use native.Mathlib.Numerals.{add-one}
use native.Mathlib.Omega.{arith}
use lib.Dec.{eqb}
use lib.ListN.{length, take, drop, get_or, set}
use lib.Seq.{take-suc-set, get_or-take}
use Rattle.words.specs.Bytes.{from_le, part}
use Rattle.memory_map.specs.Map.{slots, cell_of}
use Rattle.memory_map.specs.Map.Item.{shadow}
use Rattle.memory_map.proofs.Laws.{shadow-after}
use Rattle.slot_map.specs.Slots.{belongs}
use Rattle.slot_map.proofs.Laws.{slot-within}
use Rattle.cache.specs.Cache.{from, top_slot, stray, any_owner, missing_top, shadow_owner}
use Rattle.std.specs.Option.{option_or, MatchOption}
use Rattle.std.specs.Prelude.{Option, None, Some}
use Rattle.cache.proofs.Owners.{rest, none}

-- a step that is left stays within
pub step-within : (first step s n len : ℕ) → s < n → first + step * n ≤ len → first + step * s + step ≤ len
step-within first step s n len p q = omega (arith, mul-suc step s, mul-le-mul_left step p)

from-snoc : (f : ℕ → ℕ) (s n : ℕ) → from f s (suc n) ≡ from f s n ++ (f (s + n) ∷ [])
unfolding from
from-snoc f s zero = rw add-zero
from-snoc f s (suc n) =
    ap (λ (l : List ℕ). f s ∷ l) (from-snoc f (suc s) n ∙ ap (λ (k : ℕ). from f (suc s) n ++ (f k ∷ [])) (omega arith))

-- one more owner stored behind others
pub owners-next : (f : ℕ → ℕ) (os : List ℕ) (s o : ℕ) → s < length os → take s os ≡ from f 0 s → o ≡ f s
    → take (s + 1) (set os s o) ≡ from f 0 (s + 1)
owners-next f os s o h e p =
    rw (add-one s) (take-suc-set os s o h
    ∙ ap₂ {C = List ℕ} (λ (l : List ℕ) (x : ℕ). l ++ (x ∷ [])) e (p ∙ ap f (sym (zero-add s))) ∙ sym (from-snoc f 0 s))

pub stray-turn : (h : ℕ) (os : List ℕ) (n s : ℕ) (b : Bool) → s < n → n ≤ length os
    → (eqb (get_or os s 0) 0 || belongs h s (get_or os s 0)) ≡ b
    → stray h s (drop s (take n os)) ≡ cond b (stray h (s + 1) (drop (s + 1) (take n os))) (Some s)
unfolding stray
stray-turn h os n s b p q e =
    rw (rest os n s p q, add-one s) (ap (λ (t : Bool). cond t (stray h (suc s) (drop (suc s) (take n os))) (Some s)) e)

pub stray-end : (h : ℕ) (os : List ℕ) (n s : ℕ) → n ≤ s → stray h s (drop s (take n os)) ≡ None
unfolding stray
stray-end h os n s p = rw (none os n s p)

pub any-turn : (os : List ℕ) (n s : ℕ) (b : Bool) → s < n → n ≤ length os → eqb (get_or os s 0) 0 ≡ b
    → any_owner (drop s (take n os)) ≡ (not b || any_owner (drop (s + 1) (take n os)))
unfolding any_owner
any-turn os n s b p q e =
    rw (rest os n s p q, add-one s) (ap (λ (t : Bool). not t || any_owner (drop (suc s) (take n os))) e)

pub any-end : (os : List ℕ) (n s : ℕ) → n ≤ s → any_owner (drop s (take n os)) ≡ false
unfolding any_owner
any-end os n s p = rw (none os n s p)

-- the top's slot, where it is empty and another is filled
pub top-missing : (h t : ℕ) (os : List ℕ) (b : Bool) → t ≡ top_slot h
    → (any_owner (take (slots h) os) && eqb (get_or os t 0) 0) ≡ b → cond b (Some t) None ≡ missing_top h (take (slots h) os)
unfolding missing_top
top-missing h t os b at p =
    let within : t < slots h = rw at (slot-within h h 0 (le_refl h)) in
    sym
    (ap (λ (k : ℕ). cond (any_owner (take (slots h) os) && eqb (get_or (take (slots h) os) k 0) 0) (Some k) None) (sym at)
    ∙ ap (λ (o : ℕ). cond (any_owner (take (slots h) os) && eqb o 0) (Some t) None) (get_or-take (slots h) os t 0 within)
    ∙ ap (λ (y : Bool). cond y (Some t) None) p)

-- what a search found, else what P tells of another
pub found-or : (found r other : Option ℕ) (P : Type 0) → MatchOption found P (λ s. r ≡ Some s) → (P → r ≡ other) → r ≡ option_or found other
found-or None r other P m told = told m
found-or (Some s) r other P m told = m

-- owners read by f are those that g gives
pub owners-are : (f g : ℕ → ℕ) (h n : ℕ) (os : List ℕ) → n ≡ slots h → ((s : ℕ) → f s ≡ g s)
    → take n os ≡ from f 0 n → take (slots h) os ≡ from g 0 (slots h)
owners-are f g h n os e same p =
    subst (λ (k : ℕ). take k os ≡ from g 0 k) e (p ∙ ap (λ (k : ℕ → ℕ). from k 0 n) (fun_ext same))

-- a slot's shadow, as they lie one step after the other
pub shadow-step : (h : ℕ) (a : List ℕ) (n s : ℕ) → n ≡ cell_of h (shadow 0) → from_le (part a (72 * n + 72 * s) 8) ≡ shadow_owner h a s
unfolding shadow_owner
shadow-step h a n s e =
    let same : 72 * n + 72 * s ≡ 72 * cell_of h (shadow s) = omega (arith, shadow-after h s) in
    ap (λ (k : ℕ). from_le (part a k 8)) same
