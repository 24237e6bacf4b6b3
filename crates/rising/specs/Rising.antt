-- Four numbers in rising sequence, by five exchanges. Assumes nothing.
use Rattle.std.specs.Prelude.{ℕ, cond, List, [], ◌∷◌, ltb}

unfoldable pub smaller : ℕ → ℕ → ℕ
smaller a b = cond (ltb a b) a b

unfoldable pub larger : ℕ → ℕ → ℕ
larger a b = cond (ltb a b) b a

-- two rising pairs in one rising sequence
unfoldable pub merged : ℕ → ℕ → ℕ → ℕ → List ℕ
merged a b c d =
    smaller a c ∷ smaller (larger a c) (smaller b d) ∷ larger (larger a c) (smaller b d) ∷ larger b d ∷ []

-- four numbers in rising sequence
unfoldable pub rising : ℕ → ℕ → ℕ → ℕ → List ℕ
rising a b c d = merged (smaller a b) (larger a b) (smaller c d) (larger c d)
