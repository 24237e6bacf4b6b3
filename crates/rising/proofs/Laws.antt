-- Laws of four numbers in rising sequence: they are the same numbers, they rise, and they are four words one after the other.
-- Assumes nothing.
use mathlib.Core.Path.{◌≡◌, refl, sym, ap, ◌∙◌, subst₂}
use mathlib.Core.Logic.{◌⊎◌, inl, inr}
use mathlib.Core.Bool.{Bool, cond}
use mathlib.Core.List.{List, [], ◌∷◌}
use Prim.Native.Nat.{ℕ, ◌+◌, ◌<◌, ◌≤◌, zero-le, min, max}
use native.Mathlib.Nat.{add_comm}
use native.Mathlib.Omega.{arith}
use borrow.Author.Tests.{lt-ltb, le-ltb}
use lib.ListN.{length}
use Rattle.words.specs.Bytes.{to_le, put, bytes_of}
use Rattle.words.proofs.Order.{lt-or-ge}
use Rattle.words.proofs.Parts.{put_all}
use Rattle.words.proofs.Words.{length-bytes, bytes_one, put_word}
use Rattle.rising.specs.Rising.{smaller, larger, merged, rising}
use Rattle.rising.proofs.Occurrences.{bit, occurrences}
use Rattle.rising.proofs.Sequences.{Rises}

-- ---- an exchange

-- s and l are a and b, the smaller first
record Exchange (a b s l : ℕ) : Type 0 where
  low : (s ≤ a) × (s ≤ b)
  high : (a ≤ l) × (b ≤ l)
  most : (x : ℕ) → x ≤ a → x ≤ b → x ≤ s
  least : (x : ℕ) → a ≤ x → b ≤ x → l ≤ x
  same : (x : ℕ) → bit x s + bit x l ≡ bit x a + bit x b

in-sequence : (a b : ℕ) → a ≤ b → Exchange a b a b
in-sequence a b p =
    record {
      low = (omega arith, p);
      high = (p, omega arith);
      most = λ x q r. q;
      least = λ x q r. r;
      same = λ x. refl;
    }

turned : {a b s l : ℕ} → Exchange a b s l → Exchange b a s l
turned {a} {b} e =
    record {
      low = (e.low.1, e.low.0);
      high = (e.high.1, e.high.0);
      most = λ x q r. e.most x r q;
      least = λ x q r. e.least x r q;
      same = λ x. e.same x ∙ add_comm (bit x a) (bit x b);
    }

module _ {a b : ℕ} where
  pub smaller-first : a < b → a ≡ smaller a b
  unfolding smaller
  smaller-first p = ap (λ (t : Bool). cond t a b) (sym (lt-ltb a b p))

  pub smaller-second : b ≤ a → b ≡ smaller a b
  unfolding smaller
  smaller-second p = ap (λ (t : Bool). cond t a b) (sym (le-ltb a b p))

  pub larger-second : a < b → b ≡ larger a b
  unfolding larger
  larger-second p = ap (λ (t : Bool). cond t b a) (sym (lt-ltb a b p))

  pub larger-first : b ≤ a → a ≡ larger a b
  unfolding larger
  larger-first p = ap (λ (t : Bool). cond t b a) (sym (le-ltb a b p))

exchange : (a b : ℕ) → Exchange a b (smaller a b) (larger a b)
exchange a b = go (lt-or-ge a b)
  where
    go : (a < b) ⊎ (b ≤ a) → Exchange a b (smaller a b) (larger a b)
    go (inl p) = subst₂ (Exchange a b) (smaller-first p) (larger-second p) (in-sequence a b (omega arith))
    go (inr p) = subst₂ (Exchange a b) (smaller-second p) (larger-first p) (turned (in-sequence b a p))

-- ---- four numbers

module _ (a b c d : ℕ) where
  merged-occurs : (x : ℕ) → occurrences x (merged a b c d) ≡ bit x a + bit x b + bit x c + bit x d
  unfolding occurrences merged
  merged-occurs x =
      omega (arith, (exchange a c).same x, (exchange b d).same x, (exchange (larger a c) (smaller b d)).same x)

  merged-rises : (m : ℕ) → a ≤ b → c ≤ d → b ≤ m → d ≤ m → Rises 0 (merged a b c d) m
  unfolding merged
  merged-rises m p q r s =
      let first = exchange a c in
      let last = exchange b d in
      let inner = exchange (larger a c) (smaller b d) in (
        zero-le,
        (
          inner.most _ (omega (arith, first.low, first.high)) (last.most _ (omega (arith, first.low)) (omega (arith, first.low))),
          (
            omega (arith, inner.low, inner.high),
            (
              inner.least _ (first.least _ (omega (arith, last.high)) (omega (arith, last.high)))
                  (omega (arith, last.low, last.high)),
              last.least m r s,
            ),
          ),
        ),
      )

module _ (a b c d : ℕ) where
  pub rising-occurs : (x : ℕ) → occurrences x (rising a b c d) ≡ occurrences x (a ∷ b ∷ c ∷ d ∷ [])
  unfolding occurrences rising
  rising-occurs x =
      omega (
        arith,
        merged-occurs (smaller a b) (larger a b) (smaller c d) (larger c d) x,
        (exchange a b).same x,
        (exchange c d).same x,
      )

  pub rising-four : length (rising a b c d) ≡ 4
  unfolding rising merged
  rising-four = refl

  pub rising-rises : (m : ℕ) → a ≤ m → b ≤ m → c ≤ m → d ≤ m → Rises 0 (rising a b c d) m
  unfolding rising
  rising-rises m p q r s =
      let first = exchange a b in
      let last = exchange c d in
      merged-rises (smaller a b) (larger a b) (smaller c d) (larger c d) m (omega (arith, first.low, first.high))
      (omega (arith, last.low, last.high)) (first.least m p q) (last.least m r s)

-- ---- four words one after the other

pub stored : (o₀ o₁ o₂ o₃ o₄ : List ℕ) (v w x y : ℕ) → length o₀ ≡ 32 → o₁ ≡ put o₀ 0 (to_le 8 v) → o₂ ≡ put o₁ 8 (to_le 8 w)
    → o₃ ≡ put o₂ 16 (to_le 8 x) → o₄ ≡ put o₃ 24 (to_le 8 y) → o₄ ≡ bytes_of 8 (v ∷ w ∷ x ∷ y ∷ [])
stored o₀ o₁ o₂ o₃ o₄ v w x y room a b c d =
    let first : o₁ ≡ put o₀ 0 (bytes_of 8 (v ∷ [])) = a ∙ ap (put o₀ 0) (bytes_one 8 v) in
    let second : o₂ ≡ put o₀ 0 (bytes_of 8 (v ∷ w ∷ [])) =
    b ∙ ap (λ (o : List ℕ). put o 8 (to_le 8 w)) first ∙ put_word 8 o₀ 0 (v ∷ []) w (omega arith) in
    let third : o₃ ≡ put o₀ 0 (bytes_of 8 (v ∷ w ∷ x ∷ [])) =
    c ∙ ap (λ (o : List ℕ). put o 16 (to_le 8 x)) second ∙ put_word 8 o₀ 0 (v ∷ w ∷ []) x (omega arith) in
    d ∙ ap (λ (o : List ℕ). put o 24 (to_le 8 y)) third ∙ put_word 8 o₀ 0 (v ∷ w ∷ x ∷ []) y (omega arith)
    ∙ put_all o₀ (bytes_of 8 (v ∷ w ∷ x ∷ y ∷ [])) (length-bytes 8 (v ∷ w ∷ x ∷ y ∷ []) ∙ sym room)

-- `u64::min` and `u64::max` are the definitions' two
pub min-smaller : (a b : ℕ) → min a b ≡ smaller a b
min-smaller a b = go (lt-or-ge a b)
  where
    go : (a < b) ⊎ (b ≤ a) → min a b ≡ smaller a b
    go (inl p) = omega (arith, smaller-first p)
    go (inr p) = omega (arith, smaller-second p)

pub max-larger : (a b : ℕ) → max a b ≡ larger a b
max-larger a b = go (lt-or-ge a b)
  where
    go : (a < b) ⊎ (b ≤ a) → max a b ≡ larger a b
    go (inl p) = omega (arith, larger-second p)
    go (inr p) = omega (arith, larger-first p)

pub merged-of : (a b c d : ℕ) {low high v w x y : ℕ} → low ≡ max a c → high ≡ min b d → v ≡ min a c → w ≡ min low high
    → x ≡ max low high → y ≡ max b d → v ∷ w ∷ x ∷ y ∷ [] ≡ merged a b c d
unfolding merged
merged-of a b c d e f v w x y = rw (v, w, x, y, e, f) (simp (min-smaller, max-larger))

pub rising-of : (a b c d : ℕ) {v w x y : ℕ} → v ≡ min a b → w ≡ max a b → x ≡ min c d → y ≡ max c d
    → merged v w x y ≡ rising a b c d
unfolding rising
rising-of a b c d v w x y = rw (v, w, x, y) (simp (min-smaller, max-larger))
