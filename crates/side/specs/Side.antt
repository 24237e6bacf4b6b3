-- The side bytes of a data cell: made for a counter, and held against a cell. Assumes nothing.
use Rattle.std.specs.Prelude.{ℕ, zero, suc, Bool, List, ◌∷◌, eqb, take}
use Rattle.words.specs.Bytes.{from_le, to_le, part}
use Rattle.counter.specs.Counter.{phase_of}
use Rattle.tag.specs.Tag.{data_hash}

-- those of a content at a counter, by the module's family: the phase, then the data tag, the first 7 bytes of the hash; or a data tag
-- that is the whole hash
unfoldable pub side_bytes : ℕ → List ℕ → List ℕ → ℕ → ℕ → ℕ → List ℕ
side_bytes zero keys b line ma mi = phase_of mi ∷ to_le 7 (data_hash keys b line ma mi)
side_bytes (suc f) keys b line ma mi = to_le 8 (data_hash keys b line ma mi)

-- whether a cell, 72 bytes, has those of its content at a counter
unfoldable pub side_fits : ℕ → List ℕ → List ℕ → ℕ → ℕ → ℕ → Bool
side_fits f keys cell line ma mi = eqb (from_le (part cell 64 8)) (from_le (side_bytes f keys (take 64 cell) line ma mi))
