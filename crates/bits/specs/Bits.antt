-- The set bits of a number, and the number that has given bits set. Assumes nothing.
use Rattle.std.specs.Prelude.{ℕ, zero, suc, ◌+◌, ◌/◌, ◌%◌, ◌^◌, cond, List, [], ◌∷◌, eqb}

-- of n bits of x, the lowest of which is bit j, those that are set, lowest first
unfoldable pub set_from : ℕ → ℕ → ℕ → List ℕ
set_from j zero x = []
set_from j (suc n) x = let above = set_from (suc j) n (x / 2) in cond (eqb (x % 2) 1) (j ∷ above) above

-- those of a 64-bit number
abbrev pub set_bits : ℕ → List ℕ
set_bits x = set_from 0 64 x

-- the number that has these bits set
unfoldable pub with_bits : List ℕ → ℕ
with_bits [] = 0
with_bits (j ∷ js) = 2 ^ j + with_bits js
