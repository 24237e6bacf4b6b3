-- What the functions of the fresh tree ask of their buffers, and how far the array is written. Assumes nothing.
use Rattle.std.specs.Prelude.{◌≡◌, List, ◌++◌, ℕ, ◌*◌, ◌-◌, ◌≤◌, length, take, replicate}
use Rattle.memory_map.specs.Map.{cells, array_length}
use Rattle.calls.specs.Format.{fresh_array}

-- a depth from 1 to 3, keys, and an array of the depth's length
pub record Sized (h : ℕ) (keys a : List ℕ) : Type 0 where
  pub deep : 1 ≤ h
  pub flat : h ≤ 3
  pub keys_length : length keys ≡ 48
  pub array : length a ≡ array_length h

-- the first n cells of a formatted array, then zeros
unfoldable pub fresh_front : List ℕ → ℕ → ℕ → List ℕ
fresh_front keys h n = take (72 * n) (fresh_array keys h) ++ replicate (72 * (cells h - n)) 0
