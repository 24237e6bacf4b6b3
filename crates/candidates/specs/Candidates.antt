-- The candidates for a line's minor in a module without phase bytes (family 1), and the choice among them. Assumes nothing.
use Rattle.std.specs.Prelude.{ℕ, zero, suc, Bool, true, false, ◌&&◌, List, [], ◌∷◌, leb, eqb}
use Rattle.side.specs.Side.{side_fits}
use Rattle.candidates.specs.declared.Choice.{Choice}
use Rattle.candidates.specs.declared.Choice.TheVariants.{None, Only, Several}

unfoldable pub all_zero : List ℕ → Bool
all_zero [] = true
all_zero (b ∷ bs) = eqb b 0 && all_zero bs

-- whether a line's cell, 72 bytes, fits a minor under a major: for 0 all its bytes are zero, else its tag is right
unfoldable pub cell_fits : List ℕ → List ℕ → ℕ → ℕ → ℕ → Bool
cell_fits keys cell line ma zero = all_zero cell
cell_fits keys cell line ma (suc v) = side_fits 1 keys cell line ma (suc v)

-- no minor past 127 is a candidate
unfoldable pub candidate : List ℕ → List ℕ → ℕ → ℕ → ℕ → Bool
candidate keys cell line ma v = leb v 127 && cell_fits keys cell line ma v

-- f at v, v + 1, .., n of them
unfoldable pub each : (ℕ → Bool) → ℕ → ℕ → List Bool
each f v zero = []
each f v (suc n) = f v ∷ each f (suc v) n

-- the choice among earlier candidates, and one more, v, that fits or does not
unfoldable pub also : Choice → ℕ → Bool → Choice
also x v false = x
also None v true = Only v
also (Only u) v true = Several
also Several v true = Several

-- the choice among candidates from v on, by which of them fit
unfoldable pub chosen : Choice → ℕ → List Bool → Choice
chosen x v [] = x
chosen x v (b ∷ bs) = chosen (also x v b) (suc v) bs

-- the choice for a line whose stored minor is s: among it and the next three
unfoldable pub choice : List ℕ → List ℕ → ℕ → ℕ → ℕ → Choice
choice keys cell line ma s = chosen None s (each (candidate keys cell line ma) s 4)
