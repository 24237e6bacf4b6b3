-- Bytes in runs and counted up, for the literal inputs of evaluated examples. Assumes nothing.
use Prim.Native.Nat.{ℕ, zero, suc}
use mathlib.Core.List.{List, [], ◌∷◌, ◌++◌}
use lib.ListN.{replicate}

-- so many zeros, then these bytes
unfoldable pub sparse : List (ℕ × List ℕ) → List ℕ
sparse [] = []
sparse (x ∷ xs) = replicate x.0 0 ++ (x.1 ++ sparse xs)

-- n, n + 1, .., so many of them
unfoldable pub up_to : ℕ → ℕ → List ℕ
up_to zero n = []
up_to (suc i) n = n ∷ up_to i (suc n)
