-- Whether a cell fits a minor, by the state of its hash before the minor: for the contracts of the steps. Assumes nothing.
use Rattle.std.specs.Prelude.{ℕ, zero, suc, Bool, List, eqb}
use Rattle.words.specs.Bytes.{from_le, part}
use Rattle.tag.specs.States.{hash_from}
use Rattle.candidates.specs.Candidates.{all_zero}

unfoldable pub hash_fits : List ℕ → List ℕ → ℕ → Bool
hash_fits state cell zero = all_zero cell
hash_fits state cell (suc v) = eqb (from_le (part cell 64 8)) (hash_from state (suc v))
