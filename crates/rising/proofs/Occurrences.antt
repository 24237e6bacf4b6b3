-- How often a number stands in a list. Assumes nothing.
use mathlib.Core.Path.{◌≡◌, refl, sym, ap, ◌∙◌}
use mathlib.Core.Logic.{◌⊎◌, inl, inr}
use mathlib.Core.Bool.{Bool, true, false, cond, false≢true}
use mathlib.Core.List.{List, [], ◌∷◌}
use Prim.Native.Nat.{ℕ, zero, suc, ◌+◌, ◌<◌, ◌≤◌}
use native.Mathlib.Omega.{arith}
use borrow.Author.Tests.{eq-eqb, ne_eqb}
use lib.Dec.{eqb}
use Rattle.words.proofs.Order.{eq-or-not}

unfoldable pub bit : ℕ → ℕ → ℕ
bit x y = cond (eqb x y) 1 0

unfoldable pub occurrences : ℕ → List ℕ → ℕ
occurrences x [] = 0
occurrences x (y ∷ ys) = bit x y + occurrences x ys

pub occurs-none : (x : ℕ) → occurrences x [] ≡ 0
unfolding occurrences
occurs-none x = refl

pub occurs-same : (x y : ℕ) (ys : List ℕ) → y ≡ x → occurrences x (y ∷ ys) ≡ suc (occurrences x ys)
unfolding occurrences bit
occurs-same x y ys e = ap (λ (b : Bool). cond b 1 0 + occurrences x ys) (eq-eqb x y (sym e)) ∙ omega arith

pub occurs-other : (x y : ℕ) (ys : List ℕ) → (y ≡ x → ⊥) → occurrences x (y ∷ ys) ≡ occurrences x ys
unfolding occurrences bit
occurs-other x y ys e = ap (λ (b : Bool). cond b 1 0 + occurrences x ys) (ne_eqb x y (λ z. e (sym z))) ∙ omega arith

-- of the numbers g s, g (s + 1), .., n of them, those at which f holds
module _ (f : ℕ → Bool) (g : ℕ → ℕ) (picked : ℕ → ℕ → List ℕ) (nil : (s : ℕ) → picked s 0 ≡ [])
    (more : (s n : ℕ) → picked s (suc n) ≡ cond (f s) (g s ∷ picked (suc s) n) (picked (suc s) n)) (x : ℕ) where
  -- x is none of them
  pub none : (s n : ℕ) → ((t : ℕ) → s ≤ t → t < s + n → f t ≡ true → g t ≡ x → ⊥) → occurrences x (picked s n) ≡ 0
  none s zero nay = ap (occurrences x) (nil s) ∙ occurs-none x
  none s (suc n) nay =
      ap (occurrences x) (more s n) ∙ go (f s) refl (none (suc s) n (λ t p q. nay t (omega arith) (omega arith)))
    where
      go : (b : Bool) → f s ≡ b → occurrences x (picked (suc s) n) ≡ 0
          → occurrences x (cond b (g s ∷ picked (suc s) n) (picked (suc s) n)) ≡ 0
      go true e rest = occurs-other x (g s) (picked (suc s) n) (nay s (omega arith) (omega arith) e) ∙ rest
      go false e rest = rest

  -- x is the one at k, and no other
  pub once : (k : ℕ) → f k ≡ true → g k ≡ x → (s n : ℕ) → s ≤ k → k < s + n
      → ((t : ℕ) → s ≤ t → t < s + n → f t ≡ true → g t ≡ x → t ≡ k) → occurrences x (picked s n) ≡ 1
  once k e v s zero p q only = absurd (omega arith)
  once k e v s (suc n) p q only =
      ap (occurrences x) (more s n)
      ∙ go (eq-or-not s k) (f s) refl
      (λ z. once k e v (suc s) n (omega arith) (omega arith) (λ t a b. only t (omega arith) (omega arith)))
    where
      rest : List ℕ
      rest = picked (suc s) n

      go : (s ≡ k) ⊎ (s ≡ k → ⊥) → (b : Bool) → f s ≡ b → ((s ≡ k → ⊥) → occurrences x (picked (suc s) n) ≡ 1)
          → occurrences x (cond b (g s ∷ rest) rest) ≡ 1
      go (inl z) true a later =
          occurs-same x (g s) rest (ap g z ∙ v)
          ∙ ap suc (none (suc s) n (λ t c d w y. omega (arith, only t (omega arith) (omega arith) w y)))
      go (inl z) false a later = absurd (false≢true (sym a ∙ ap f z ∙ e))
      go (inr z) true a later = occurs-other x (g s) rest (λ w. z (only s (omega arith) (omega arith) a w)) ∙ later z
      go (inr z) false a later = later z
