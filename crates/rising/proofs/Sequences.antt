-- Rising sequences, and when one is another with a largest number behind it. Assumes nothing.
use mathlib.Core.Path.{◌≡◌, refl, sym, ap₂, ◌∙◌}
use mathlib.Core.Logic.{◌⊎◌, inl, inr}
use mathlib.Core.List.{List, [], ◌∷◌, ◌++◌}
use Prim.Native.Nat.{ℕ, suc, ◌<◌, ◌≤◌}
use native.Mathlib.Omega.{arith}
use lib.ListN.{replicate}
use Rattle.words.proofs.Order.{lt-or-ge, lt-eq-gt, eq-or-not}
use Rattle.rising.proofs.Occurrences.{occurrences, occurs-none, occurs-same, occurs-other}

-- rising from lo to hi
abbrev pub Rises : ℕ → List ℕ → ℕ → Type 0
Rises lo [] hi = lo ≤ hi
Rises lo (x ∷ xs) hi = (lo ≤ x) × Rises x xs hi

rises-le : (lo : ℕ) (xs : List ℕ) (hi : ℕ) → Rises lo xs hi → lo ≤ hi
rises-le lo [] hi r = r
rises-le lo (x ∷ xs) hi r = omega (arith, r.0, rises-le x xs hi r.1)

pub rises-lower : (a lo : ℕ) (xs : List ℕ) (hi : ℕ) → a ≤ lo → Rises lo xs hi → Rises a xs hi
rises-lower a lo [] hi p r = omega (arith, p, r)
rises-lower a lo (x ∷ xs) hi p r = (omega (arith, p, r.0), r.1)

below_all : (x lo : ℕ) (xs : List ℕ) (hi : ℕ) → x < lo → Rises lo xs hi → occurrences x xs ≡ 0
below_all x lo [] hi p r = occurs-none x
below_all x lo (y ∷ ys) hi p r =
    occurs-other x y ys (λ e. omega (arith, p, r.0, e)) ∙ below_all x y ys hi (omega (arith, p, r.0)) r.1

-- ys is xs, and m after it
pub record Padded (m : ℕ) (xs ys : List ℕ) : Type 0 where
  pub count : ℕ
  pub same : ys ≡ xs ++ replicate count m

one_more : {y : ℕ} {ys : List ℕ} (m : ℕ) → y ≡ m → Padded m [] ys → Padded m [] (y ∷ ys)
one_more m e rest = record { count = suc rest.count; same = ap₂ {C = List ℕ} (λ (z : ℕ) (zs : List ℕ). z ∷ zs) e rest.same }

-- sequences that rise and have the same numbers below m, where m is the most that stands in ys, and more than stands in xs
pub padded : (m hi : ℕ) → hi < m → (a b : ℕ) (xs ys : List ℕ) → Rises a xs hi → Rises b ys m
    → ((x : ℕ) → x < m → occurrences x xs ≡ occurrences x ys) → Padded m xs ys
padded m hi p a b [] [] r s same = record { count = 0; same = refl }
padded m hi p a b [] (y ∷ ys) r s same =
    go (lt-or-ge y m) (λ q. padded m hi p a y [] ys r s.1 (λ x l. same x l ∙ occurs-other x y ys (λ z. omega (arith, z, l, q))))
  where
    go : (y < m) ⊎ (m ≤ y) → (m ≤ y → Padded m [] ys) → Padded m [] (y ∷ ys)
    go (inl q) rest = absurd (omega (arith, same y q, occurs-none y, occurs-same y y ys refl))
    go (inr q) rest = one_more m (omega (arith, q, rises-le y ys m s.1)) (rest q)
padded m hi p a b (x ∷ xs) [] r s same =
    absurd (omega (arith, same x (omega (arith, p, rises-le x xs hi r.1)), occurs-none x, occurs-same x x xs refl))
padded m hi p a b (x ∷ xs) (y ∷ ys) r s same =
    go (lt-eq-gt x y) (λ e. padded m hi p x y xs ys r.1 s.1 (λ z l. cancel e z l (eq-or-not x z)))
  where
    low : x < m
    low = omega (arith, p, rises-le x xs hi r.1)

    cancel : x ≡ y → (z : ℕ) → z < m → (x ≡ z) ⊎ (x ≡ z → ⊥) → occurrences z xs ≡ occurrences z ys
    cancel e z l (inl w) = omega (arith, same z l, occurs-same z x xs w, occurs-same z y ys (sym e ∙ w))
    cancel e z l (inr w) = sym (occurs-other z x xs w) ∙ same z l ∙ occurs-other z y ys (λ u. w (e ∙ u))

    go : (x < y) ⊎ ((x ≡ y) ⊎ (y < x)) → (x ≡ y → Padded m xs ys) → Padded m (x ∷ xs) (y ∷ ys)
    go (inl q) rest = absurd (omega (arith, same x low, occurs-same x x xs refl, below_all x y (y ∷ ys) m q (omega arith, s.1)))
    go (inr (inl e)) rest =
        let next = rest e in
        record { count = next.count; same = ap₂ {C = List ℕ} (λ (z : ℕ) (zs : List ℕ). z ∷ zs) (sym e) next.same }
    go (inr (inr q)) rest =
        absurd (omega (
          arith,
          same y (omega (arith, q, low)),
          occurs-same y y ys refl,
          below_all y x (x ∷ xs) hi q (omega arith, r.1),
        ))
