-- The map of a module of depth h: which cell holds what.
-- Assumes nothing.
use Rattle.std.specs.Prelude.{ℕ, zero, suc, ◌+◌, ◌-◌, ◌*◌, ◌/◌, ◌%◌, ◌^◌, ◌<◌, ◌≤◌}

-- Lines and pages

unfoldable pub pages : ℕ → ℕ
pages h = 8 ^ h

unfoldable pub lines : ℕ → ℕ
lines h = 64 * pages h

abbrev pub page_of : ℕ → ℕ
page_of n = n / 64

abbrev pub place_of : ℕ → ℕ
place_of n = n % 64

-- Cells, in sequence

-- the nodes of level l: the counter blocks are level 0, the top is level h
unfoldable pub nodes : ℕ → ℕ → ℕ
nodes h l = 8 ^ (h - l)

-- the node of level l on the path of page p
abbrev pub on_path : ℕ → ℕ → ℕ
on_path p l = p / 8 ^ l

-- the first cell of level l
unfoldable pub level_start : ℕ → ℕ → ℕ
level_start h zero = lines h
level_start h (suc l) = level_start h l + nodes h l

-- the cache slots, each of which has a shadow cell
unfoldable pub slots : ℕ → ℕ
slots h = 4 + 2 * h

unfoldable pub shadow_start : ℕ → ℕ
shadow_start h = level_start h (suc h)

unfoldable pub shadow_cells : ℕ → ℕ
shadow_cells h = slots h

unfoldable pub cells : ℕ → ℕ
cells h = shadow_start h + shadow_cells h

-- a cell is 64 bytes of content and 8 side bytes
unfoldable pub array_length : ℕ → ℕ
array_length h = 72 * cells h

-- what a cell holds: a line's data, the node i of level l, or the shadow of slot s
pub data Item : Type 0 where
  line : ℕ → Item
  node : ℕ → ℕ → Item
  shadow : ℕ → Item

unfoldable pub cell_of : ℕ → Item → ℕ
cell_of h (line n) = n
cell_of h (node l i) = level_start h l + i
cell_of h (shadow s) = shadow_start h + s

-- what a module of depth h has
unfoldable pub InMap : ℕ → Item → Type 0
InMap h (line n) = n < lines h
InMap h (node l i) = (l ≤ h) × (i < nodes h l)
InMap h (shadow s) = s < slots h
