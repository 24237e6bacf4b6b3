-- The slots of the cache: its length, and which slot a counter block or node may take.
-- Assumes nothing.
use Rattle.std.specs.Prelude.{ℕ, zero, suc, ◌+◌, ◌-◌, ◌*◌, ◌/◌, ◌%◌, Bool, false, ◌&&◌, cond, ltb, eqb}
use Rattle.memory_map.specs.Map.{nodes, slots}

-- a slot is owner, dirty and content
unfoldable pub cache_length : ℕ → ℕ
cache_length h = 73 * slots h

-- the slot that node i of level l may take: counter blocks by i mod 4, nodes by i mod 2
unfoldable pub slot_of : ℕ → ℕ → ℕ
slot_of zero i = i % 4
slot_of (suc l) i = 4 + 2 * l + i % 2

-- the level whose nodes slot s may hold
unfoldable pub level_of : ℕ → ℕ
level_of s = cond (ltb s 4) 0 (suc ((s - 4) / 2))

-- an owner is an index + 1; it belongs to slot s where that is a node of the map that may take s
unfoldable pub belongs : ℕ → ℕ → ℕ → Bool
belongs h s zero = false
belongs h s (suc i) = ltb i (nodes h (level_of s)) && eqb (slot_of (level_of s) i) s
