-- Zero bytes as digits: those below 1. Assumes nothing.
use mathlib.Core.Path.{◌≡◌, refl, ap, ◌∙◌}
use mathlib.Core.List.{List, [], ◌∷◌}
use Prim.Native.Nat.{ℕ, ◌*◌, ◌<◌}
use native.Mathlib.Nat.{mul-zero}
use native.Mathlib.Omega.{arith}
use lib.Dec.{lit<}
use lib.ListN.{replicate}
use Rattle.words.specs.Bytes.{number}
use Rattle.words.proofs.Digits.{Below, below-head, below-tail, below-replicate}

pub below-zeros : (n : ℕ) → Below 1 (replicate n 0)
below-zeros n = below-replicate n (lit< tt)

pub number-zeros : (b : ℕ) (ds : List ℕ) → Below 1 ds → number b ds ≡ 0
unfolding number
number-zeros b [] z = refl
number-zeros b (d ∷ ds) z =
    let low : d < 1 = below-head z in
    let high : b * number b ds ≡ 0 = ap (λ (k : ℕ). b * k) (number-zeros b ds (below-tail z)) ∙ mul-zero b in
    omega arith
