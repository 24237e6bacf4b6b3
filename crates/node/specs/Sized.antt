-- What the functions that take a depth, an array and a cache ask of them. Assumes nothing.
use Rattle.std.specs.Prelude.{◌≡◌, List, ℕ, ◌≤◌, length}
use Rattle.memory_map.specs.Map.{array_length}
use Rattle.slot_map.specs.Slots.{cache_length}

-- a depth from 1 to 3, and buffers of its lengths
pub record Sized (h : ℕ) (a c : List ℕ) : Type 0 where
  pub deep : 1 ≤ h
  pub flat : h ≤ 3
  pub array : length a ≡ array_length h
  pub cache : length c ≡ cache_length h
