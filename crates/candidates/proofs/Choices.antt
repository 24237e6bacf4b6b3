-- What the choice comes to: all patterns of four candidates, and laws of a candidate that fits. Assumes nothing.
use mathlib.Core.Path.{◌≡◌, refl, sym, ap, ◌∙◌, subst}
use mathlib.Core.Logic.{◌⊎◌, inl, inr}
use mathlib.Core.Bool.{Bool, true, false, false≢true, and-eq-true_iff}
use mathlib.Core.List.{List, [], ◌∷◌, map}
use Prim.Native.Nat.{ℕ, zero, suc, ◌+◌, ◌≤◌, ◌<◌}
use native.Mathlib.Nat.{le_refl}
use native.Mathlib.Omega.{arith}
use borrow.Author.Tests.{le-leb, leb-true}
use lib.Dec.{leb}
use Rattle.words.proofs.Order.{eq-or-not}
use Rattle.candidates.specs.declared.Choice.{Choice}
use Rattle.candidates.specs.declared.Choice.TheVariants.{None, Only, Several}
use Rattle.candidates.specs.Candidates.{cell_fits, candidate, each, also, chosen, choice}

-- ---- all patterns of four candidates from 5 on: which of them fit

abbrev fits_each : List Bool → Choice
fits_each = chosen None 5

patterns :
    map fits_each (
    (false ∷ false ∷ false ∷ false ∷ [])
    ∷ (true ∷ false ∷ false ∷ false ∷ [])
    ∷ (false ∷ true ∷ false ∷ false ∷ [])
    ∷ (false ∷ false ∷ true ∷ false ∷ [])
    ∷ (false ∷ false ∷ false ∷ true ∷ [])
    ∷ (true ∷ true ∷ false ∷ false ∷ [])
    ∷ (true ∷ false ∷ true ∷ false ∷ [])
    ∷ (true ∷ false ∷ false ∷ true ∷ [])
    ∷ (false ∷ true ∷ true ∷ false ∷ [])
    ∷ (false ∷ true ∷ false ∷ true ∷ [])
    ∷ (false ∷ false ∷ true ∷ true ∷ [])
    ∷ (true ∷ true ∷ true ∷ false ∷ [])
    ∷ (true ∷ true ∷ false ∷ true ∷ [])
    ∷ (true ∷ false ∷ true ∷ true ∷ [])
    ∷ (false ∷ true ∷ true ∷ true ∷ [])
    ∷ (true ∷ true ∷ true ∷ true ∷ [])
    ∷ [])
    ≡ None ∷ Only 5 ∷ Only 6 ∷ Only 7 ∷ Only 8
    ∷ Several ∷ Several ∷ Several ∷ Several ∷ Several ∷ Several
    ∷ Several ∷ Several ∷ Several ∷ Several ∷ Several ∷ []
unfolding chosen also
patterns = refl

-- ---- what holds of the only one

unfoldable pub OnlyIs : (ℕ → Type 0) → Choice → Type 0
OnlyIs P None = Unit {0}
OnlyIs P (Only v) = P v
OnlyIs P Several = Unit {0}

also-is : (P : ℕ → Type 0) (x : Choice) (v : ℕ) (b : Bool) → OnlyIs P x → (b ≡ true → P v) → OnlyIs P (also x v b)
unfolding also OnlyIs
also-is P x v false p q = p
also-is P None v true p q = q refl
also-is P (Only u) v true p q = tt
also-is P Several v true p q = tt

-- ---- the choice among n candidates from v on, where f tells which of them fit

module _ (f : ℕ → Bool) where
  abbrev from : Choice → ℕ → ℕ → Choice
  from x v n = chosen x v (each f v n)

  -- the first of them
  first : {b : Bool} (x : Choice) (v n : ℕ) → f v ≡ b → from x v (suc n) ≡ from (also x v b) (suc v) n
  unfolding each chosen
  first x v n e = ap (λ (b : Bool). from (also x v b) (suc v) n) e

  several-stays : (n v : ℕ) → from Several v n ≡ Several
  unfolding each chosen also
  several-stays zero v = refl
  several-stays (suc n) v = go (f v) (several-stays n (suc v))
    where
      go : (b : Bool) → from Several (suc v) n ≡ Several → from (also Several v b) (suc v) n ≡ Several
      go true e = e
      go false e = e

  -- one more fits behind one that does
  second : (n v u c : ℕ) → v ≤ c → c < v + n → f c ≡ true → from (Only u) v n ≡ Several
  unfolding also
  second zero v u c p q e = absurd (omega arith)
  second (suc n) v u c p q e = go (eq-or-not v c) (f v) refl (λ r. second n (suc v) u c r (omega arith) e)
    where
      go : (v ≡ c) ⊎ (v ≡ c → ⊥) → (b : Bool) → f v ≡ b → (suc v ≤ c → from (Only u) (suc v) n ≡ Several)
          → from (Only u) v (suc n) ≡ Several
      go z true w rest = first (Only u) v n w ∙ several-stays n (suc v)
      go (inl z) false w rest = absurd (false≢true (sym w ∙ ap f z ∙ e))
      go (inr z) false w rest = first (Only u) v n w ∙ rest (omega (arith, z))

  -- none behind one that fits, or another
  pub record Another (v n c : ℕ) : Type 0 where
    pub minor : ℕ
    pub low : v ≤ minor
    pub high : minor < v + n
    pub other : minor ≡ c → ⊥
    pub fits : f minor ≡ true

  behind : (n v u : ℕ) → u < v → (from (Only u) v n ≡ Only u) ⊎ ((from (Only u) v n ≡ Several) × Another v n u)
  unfolding each chosen also
  behind zero v u p = inl refl
  behind (suc n) v u p = go (f v) refl (behind n (suc v) u (omega arith))
    where
      later : Another (suc v) n u → Another v (suc n) u
      later a = record { minor = a.minor; low = omega (arith, a.low); high = omega (arith, a.high); other = a.other; fits = a.fits }

      go : (b : Bool) → f v ≡ b → (from (Only u) (suc v) n ≡ Only u) ⊎ ((from (Only u) (suc v) n ≡ Several) × Another (suc v) n u)
          → (from (Only u) v (suc n) ≡ Only u) ⊎ ((from (Only u) v (suc n) ≡ Several) × Another v (suc n) u)
      go true w rest =
          inr (
            first (Only u) v n w ∙ several-stays n (suc v),
            record { minor = v; low = le_refl v; high = omega arith; other = λ z. omega arith; fits = w },
          )
      go false w (inl e) = inl (first (Only u) v n w ∙ e)
      go false w (inr e) = inr (first (Only u) v n w ∙ e.0, later e.1)

  -- where c fits, the choice is c alone, or there is another that fits
  pub one-or-several : (n v c : ℕ) → v ≤ c → c < v + n → f c ≡ true
      → (from None v n ≡ Only c) ⊎ ((from None v n ≡ Several) × Another v n c)
  unfolding also
  one-or-several zero v c p q e = absurd (omega arith)
  one-or-several (suc n) v c p q e = go (eq-or-not v c) (f v) refl (λ r. one-or-several n (suc v) c r (omega arith) e)
    where
      Goal : Type 0
      Goal = (from None v (suc n) ≡ Only c) ⊎ ((from None v (suc n) ≡ Several) × Another v (suc n) c)

      wider : Another (suc v) n c → Another v (suc n) c
      wider a = record { minor = a.minor; low = omega (arith, a.low); high = omega (arith, a.high); other = a.other; fits = a.fits }

      here : v ≡ c → f v ≡ true → (from (Only v) (suc v) n ≡ Only v) ⊎ ((from (Only v) (suc v) n ≡ Several) × Another (suc v) n v) → Goal
      here z w (inl d) = inl (first None v n w ∙ d ∙ ap Only z)
      here z w (inr d) = inr (first None v n w ∙ d.0, wider (subst (Another (suc v) n) z d.1))

      later : f v ≡ false → (from None (suc v) n ≡ Only c) ⊎ ((from None (suc v) n ≡ Several) × Another (suc v) n c) → Goal
      later w (inl d) = inl (first None v n w ∙ d)
      later w (inr d) = inr (first None v n w ∙ d.0, wider d.1)

      go : (v ≡ c) ⊎ (v ≡ c → ⊥) → (b : Bool) → f v ≡ b
          → (suc v ≤ c → (from None (suc v) n ≡ Only c) ⊎ ((from None (suc v) n ≡ Several) × Another (suc v) n c)) → Goal
      go (inl z) true w rest = here z w (behind n (suc v) v (omega arith))
      go (inl z) false w rest = absurd (false≢true (sym w ∙ ap f z ∙ e))
      go (inr z) true w rest =
          inr (
            first None v n w ∙ second n (suc v) v c (omega (arith, z)) (omega arith) e,
            record { minor = v; low = le_refl v; high = omega arith; other = z; fits = w },
          )
      go (inr z) false w rest = later w (rest (omega (arith, z)))

  -- what holds of each that fits holds of the only one
  only-holds : (P : ℕ → Type 0) (n v : ℕ) (x : Choice) → OnlyIs P x → ((w : ℕ) → v ≤ w → w < v + n → f w ≡ true → P w)
      → OnlyIs P (from x v n)
  unfolding each chosen
  only-holds P zero v x p all = p
  only-holds P (suc n) v x p all =
      only-holds P n (suc v) (also x v (f v)) (also-is P x v (f v) p (λ e. all v (le_refl v) (omega arith) e))
      (λ w q r e. all w (omega arith) (omega arith) e)

-- ---- of a line whose stored minor is s

module _ (keys cell : List ℕ) (line ma : ℕ) where
  abbrev fits-as : ℕ → Bool
  fits-as = candidate keys cell line ma

  candidate-small : (v : ℕ) → fits-as v ≡ true → v < 128
  unfolding candidate
  candidate-small v e = omega (arith, leb-true v 127 ((and-eq-true_iff (leb v 127) (cell_fits keys cell line ma v)).0 e).0)

  -- the only one is near, and a minor
  pub choice-near : (s : ℕ) → OnlyIs (λ v. (s ≤ v) × (v ≤ s + 3) × (v < 128)) (choice keys cell line ma s)
  unfolding choice OnlyIs
  choice-near s =
      only-holds fits-as (λ v. (s ≤ v) × (v ≤ s + 3) × (v < 128)) 4 s None tt (λ w p q e. (p, omega arith, candidate-small w e))

  -- another candidate than c that fits
  pub record Rival (s c : ℕ) : Type 0 where
    pub minor : ℕ
    pub low : s ≤ minor
    pub high : minor ≤ s + 3
    pub other : minor ≡ c → ⊥
    pub fits : fits-as minor ≡ true

  -- where c is a candidate that fits, the choice is c, unless it has a rival
  pub choice-fits : (s c : ℕ) → s ≤ c → c ≤ s + 3 → c ≤ 127 → cell_fits keys cell line ma c ≡ true
      → (choice keys cell line ma s ≡ Only c) ⊎ ((choice keys cell line ma s ≡ Several) × Rival s c)
  unfolding choice candidate
  choice-fits s c p q r e = go (one-or-several fits-as 4 s c p (omega arith) ((and-eq-true_iff (leb c 127) _).1 (le-leb c 127 r, e)))
    where
      go : (chosen None s (each fits-as s 4) ≡ Only c) ⊎ ((chosen None s (each fits-as s 4) ≡ Several) × Another fits-as s 4 c)
          → (choice keys cell line ma s ≡ Only c) ⊎ ((choice keys cell line ma s ≡ Several) × Rival s c)
      go (inl d) = inl d
      go (inr d) =
          let a = d.1 in
          inr (d.0, record { minor = a.minor; low = a.low; high = omega (arith, a.high); other = a.other; fits = a.fits })
