-- Laws of the counter block that a turn leaves, and of the written lines. Assumes nothing.
use mathlib.Core.Path.{◌≡◌, refl, sym, ap, ◌∙◌, subst}
use mathlib.Core.Logic.{◌⊎◌, inl, inr}
use mathlib.Core.Bool.{Bool, cond}
use mathlib.Core.List.{List, [], ◌∷◌, map, Memᴰ}
use Prim.Native.Nat.{ℕ, suc, ◌+◌, ◌*◌, ◌/◌, ◌%◌, ◌^◌, ◌<◌, min}
use native.Mathlib.Omega.{arith}
use borrow.Author.Tests.{eq-eqb, ne_eqb}
use lib.Dec.{lit<}
use lib.ListN.{length, get_or, length-map, get_or-map}
use Rattle.words.specs.Bytes.{number}
use Rattle.words.proofs.Digits.{Below, below-nil, below-cons, digits-exact, get_d-digits}
use Rattle.words.proofs.Order.{eq-or-not}
use Rattle.bits.specs.Bits.{set_from, set_bits, with_bits}
use Rattle.bits.proofs.Climbs.{Climbs}
use Rattle.bits.proofs.Laws.{set_twice, set-twice-one, bits-climb, bits-with, with-lt, bit-stands, bit-stood}
use Rattle.counter.specs.Counter.{major, minors, minor, written_from, written, turned_minor, turned}
use Rattle.counter.proofs.Laws.{length-minors, length-counter_block, below-counter_block, major-counter_block, minors-counter_block}

-- ---- a minor turned

pub turned_none : (s : ℕ) → s ≡ 0 → turned_minor s ≡ 0
unfolding turned_minor
turned_none s e = ap (λ (b : Bool). cond b 0 1) (eq-eqb s 0 e)

pub turned-some : (s : ℕ) → (s ≡ 0 → ⊥) → turned_minor s ≡ 1
unfolding turned_minor
turned-some s p = ap (λ (b : Bool). cond b 0 1) (ne_eqb s 0 p)

pub turned_lt : (s : ℕ) → turned_minor s < 2
turned_lt s = go (eq-or-not s 0)
  where
    go : (s ≡ 0) ⊎ (s ≡ 0 → ⊥) → turned_minor s < 2
    go (inl e) = omega (arith, turned_none s e)
    go (inr p) = omega (arith, turned-some s p)

pub turned-min : (s : ℕ) → min s 1 ≡ turned_minor s
turned-min s = go (eq-or-not s 0)
  where
    go : (s ≡ 0) ⊎ (s ≡ 0 → ⊥) → min s 1 ≡ turned_minor s
    go (inl e) = omega (arith, turned_none s e)
    go (inr p) = omega (arith, turned-some s p)

-- ---- 64 of them

pub length-turned-minors : (ss : List ℕ) → length (map turned_minor ss) ≡ length ss
length-turned-minors ss = length-map ss turned_minor

pub below-turned-minors : (ss : List ℕ) → Below 2 (map turned_minor ss)
below-turned-minors [] = below-nil (lit< tt)
below-turned-minors (s ∷ ss) = below-cons (turned_lt s) (below-turned-minors ss)

pub get_d-turned : (ss : List ℕ) (i : ℕ) → get_or (map turned_minor ss) i 0 ≡ turned_minor (get_or ss i 0)
get_d-turned ss i = ap (get_or (map turned_minor ss) i) (sym (turned_none 0 refl)) ∙ get_or-map turned_minor ss i 0

-- ---- the block after a turn

pub length-turned : (b : List ℕ) → length (turned b) ≡ 64
unfolding turned
length-turned b = length-counter_block (suc (major b)) (map turned_minor (minors b))

pub below-turned : (b : List ℕ) → Below 256 (turned b)
unfolding turned
below-turned b = below-counter_block (suc (major b)) (map turned_minor (minors b))

pub major-turned : (b : List ℕ) → suc (major b) < 2 ^ 64 → major (turned b) ≡ suc (major b)
unfolding turned
major-turned b h = major-counter_block (suc (major b)) (map turned_minor (minors b)) h

pub minors-turned : (b : List ℕ) → minors (turned b) ≡ map turned_minor (minors b)
unfolding turned
minors-turned b =
    minors-counter_block (suc (major b)) (map turned_minor (minors b)) (length-turned-minors (minors b) ∙ length-minors b)
    (record { at = λ i. omega (arith, (below-turned-minors (minors b)).at i) })

pub minor-turned : (b : List ℕ) (j : ℕ) → minor (turned b) j ≡ turned_minor (minor b j)
minor-turned b j = ap (λ (l : List ℕ). get_or l j 0) (minors-turned b) ∙ get_d-turned (minors b) j

-- ---- the written lines

pub written_none : (j s : ℕ) (ss : List ℕ) → s ≡ 0 → written_from j (s ∷ ss) ≡ written_from (suc j) ss
unfolding written_from
written_none j s ss e = rw (eq-eqb s 0 e)

pub written-some : (j s : ℕ) (ss : List ℕ) → (s ≡ 0 → ⊥) → written_from j (s ∷ ss) ≡ j ∷ written_from (suc j) ss
unfolding written_from
written-some j s ss p = rw (ne_eqb s 0 p)

-- a turn leaves them as they are
written-again : (j : ℕ) (ss : List ℕ) → written_from j (map turned_minor ss) ≡ written_from j ss
unfolding written_from
written-again j [] = refl
written-again j (s ∷ ss) = go (eq-or-not s 0) (written-again (suc j) ss)
  where
    later : List ℕ
    later = map turned_minor ss

    go : (s ≡ 0) ⊎ (s ≡ 0 → ⊥) → written_from (suc j) later ≡ written_from (suc j) ss
        → written_from j (turned_minor s ∷ later) ≡ written_from j (s ∷ ss)
    go (inl e) rest = written_none j (turned_minor s) later (turned_none s e) ∙ rest ∙ sym (written_none j s ss e)
    go (inr p) rest =
        written-some j (turned_minor s) later (λ z. omega (arith, turned-some s p)) ∙ ap (λ (l : List ℕ). j ∷ l) rest
        ∙ sym (written-some j s ss p)

pub written-turned : (b : List ℕ) → written (turned b) ≡ written b
written-turned b = ap (written_from 0) (minors-turned b) ∙ written-again 0 (minors b)

-- they are the set bits of a number
bits-written : (j : ℕ) (ss : List ℕ) → set_from j (length ss) (number 2 (map turned_minor ss)) ≡ written_from j ss
unfolding set_from number written_from
bits-written j [] = refl
bits-written j (s ∷ ss) = go (eq-or-not s 0) (bits-written (suc j) ss)
  where
    x : ℕ
    x = number 2 (map turned_minor ss)

    go : (s ≡ 0) ⊎ (s ≡ 0 → ⊥) → set_from (suc j) (length ss) x ≡ written_from (suc j) ss
        → set_from j (suc (length ss)) (turned_minor s + 2 * x) ≡ written_from j (s ∷ ss)
    go (inl e) rest =
        let low : turned_minor s + 2 * x ≡ x * 2 = omega (arith, turned_none s e) in
        ap (set_from j (suc (length ss))) low ∙ set_twice j (length ss) x ∙ rest ∙ sym (written_none j s ss e)
    go (inr p) rest =
        let low : turned_minor s + 2 * x ≡ x * 2 + 1 = omega (arith, turned-some s p) in
        ap (set_from j (suc (length ss))) low ∙ set-twice-one j (length ss) x ∙ ap (λ (l : List ℕ). j ∷ l) rest ∙ sym (written-some j s ss p)

-- the mask of 64 minors
abbrev pub mask_of : List ℕ → ℕ
mask_of ss = number 2 (map turned_minor ss)

module _ (ss : List ℕ) (count : length ss ≡ 64) where
  pub mask-written : set_bits (mask_of ss) ≡ written_from 0 ss
  mask-written = ap (λ (n : ℕ). set_from 0 n (mask_of ss)) (sym count) ∙ bits-written 0 ss

  mask-bit : (j : ℕ) → j < 64 → mask_of ss / 2 ^ j % 2 ≡ turned_minor (get_or ss j 0)
  mask-bit j h =
      sym (get_d-digits 2 64 (mask_of ss) j h)
      ∙ ap (λ (l : List ℕ). get_or l j 0) (digits-exact 2 64 (map turned_minor ss) (length-turned-minors ss ∙ count) (below-turned-minors ss))
      ∙ get_d-turned ss j

pub written-climb : (b : List ℕ) → Climbs 64 0 (written b)
written-climb b = subst (Climbs 64 0) (mask-written (minors b) (length-minors b)) (bits-climb (mask_of (minors b)))

pub written-bits : (b : List ℕ) → set_bits (with_bits (written b)) ≡ written b
written-bits b = bits-with (written-climb b)

pub written-lt : (b : List ℕ) → with_bits (written b) < 2 ^ 64
written-lt b = with-lt (written-climb b)

pub written_stands : (b : List ℕ) (j : ℕ) → j < 64 → (minor b j ≡ 0 → ⊥) → Memᴰ j (written b)
written_stands b j h p =
    let count = length-minors b in
    subst (Memᴰ j) (mask-written (minors b) count)
    (bit-stands (mask_of (minors b)) j h (mask-bit (minors b) count j h ∙ turned-some (minor b j) p))

pub written-stood : (b : List ℕ) (j : ℕ) → Memᴰ j (written b) → (j < 64) × (minor b j ≡ 0 → ⊥)
written-stood b j m =
    let count = length-minors b in
    let bit = bit-stood (mask_of (minors b)) j (subst (Memᴰ j) (sym (mask-written (minors b) count)) m) in
    (bit.0, λ e. omega (arith, bit.1, mask-bit (minors b) count j bit.0, turned_none (minor b j) e))
