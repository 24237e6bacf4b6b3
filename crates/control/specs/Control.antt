-- The persistent control record (the paper's keep): mark, depth, root, the queue of a pending batch, and the section of an open page. The
-- mark tells the module's family: 0 has a phase byte beside each line, 1 has none.
-- Assumes nothing.
use Rattle.std.specs.Prelude.{ℕ, zero, suc, ◌+◌, ◌*◌, Bool, true, ◌&&◌, ◌||◌, not, cond, List, [], ◌∷◌, ◌++◌, ltb, leb, eqb, get_or, replicate}
use Rattle.words.specs.Bytes.{from_le, to_le, part}
use Rattle.memory_map.specs.Map.{pages, cells}

abbrev pub control_length : ℕ
control_length = 681

-- the mark of each family: `PIGK` and `PIGN`, as numbers
unfoldable pub mark_of : ℕ → ℕ
mark_of zero = 0x4b474950
mark_of (suc f) = 0x4e474950

-- The fields, and where they are

abbrev pub depth_at : ℕ
depth_at = 5

abbrev pub root_at : ℕ
root_at = 7

-- the count, and the new root after it
abbrev pub count_at : ℕ
count_at = 15

unfoldable pub mark : List ℕ → ℕ
mark k = from_le (part k 0 4)

unfoldable pub family : List ℕ → ℕ
family k = cond (eqb (mark k) (mark_of 1)) 1 0

unfoldable pub depth : List ℕ → ℕ
depth k = get_or k depth_at 0

unfoldable pub root : List ℕ → ℕ
root k = from_le (part k root_at 8)

-- the pending cells, 0 where nothing is pending
unfoldable pub count : List ℕ → ℕ
count k = get_or k count_at 0

unfoldable pub new_root : List ℕ → ℕ
new_root k = from_le (part k (count_at + 1) 8)

-- a cell to be stored: its number and its 72 bytes
pub record Cell : Type 0 where
  pub number : ℕ
  pub bytes : List ℕ

-- a place: a cell number, 8 bytes, then the cell
unfoldable pub queued : List ℕ → ℕ → Cell
queued s at = record { number = from_le (part s at 8); bytes = part s (at + 8) 72 }

-- n places of s, one after the other from index at
unfoldable pub places : List ℕ → ℕ → ℕ → List Cell
places s at zero = []
places s at (suc n) = queued s at ∷ places s (at + 80) n

-- where queue place j starts
abbrev pub place_at : ℕ → ℕ
place_at j = 24 + 80 * j

unfoldable pub queue : List ℕ → List Cell
queue k = places k (place_at 0) (count k)

-- The section of a turn after the queue: count 0 or 1; with count 1 a page, which is open, and the mask of its lines still to turn

abbrev pub turn_at : ℕ
turn_at = 664

unfoldable pub turn_count : List ℕ → ℕ
turn_count k = get_or k turn_at 0

unfoldable pub turn_page : List ℕ → ℕ
turn_page k = from_le (part k (turn_at + 1) 8)

unfoldable pub turn_mask : List ℕ → ℕ
turn_mask k = from_le (part k (turn_at + 9) 8)

-- the section's bytes
abbrev pub turn_bytes : ℕ → ℕ → ℕ → List ℕ
turn_bytes n p mask = n ∷ to_le 8 p ++ to_le 8 mask

-- page p is open; another page is
unfoldable pub is_open : List ℕ → ℕ → Bool
is_open k p = eqb (turn_count k) 1 && eqb (turn_page k) p

unfoldable pub other_open : List ℕ → ℕ → Bool
other_open k p = eqb (turn_count k) 1 && not (eqb (turn_page k) p)

-- Validity: mark, counts and depth are right, no pending cell number is past the map, and an open page is in the map and has a line to turn

-- each cell number is below a bound
unfoldable pub in_map : ℕ → List Cell → Bool
in_map n [] = true
in_map n (c ∷ cs) = ltb c.number n && in_map n cs

-- the mark is that of a family
unfoldable pub valid_mark : List ℕ → Bool
valid_mark k = eqb (mark k) (mark_of (family k))

unfoldable pub valid_head : List ℕ → Bool
valid_head k =
    valid_mark k && eqb (get_or k 4 0) 1 && eqb (get_or k 6 0) 1
    && leb 1 (depth k) && leb (depth k) 3 && leb (count k) 8

unfoldable pub valid_turn : List ℕ → Bool
valid_turn k = eqb (turn_count k) 0 || (eqb (turn_count k) 1 && ltb (turn_page k) (pages (depth k)) && ltb 0 (turn_mask k))

unfoldable pub valid : List ℕ → Bool
valid k = valid_head k && in_map (cells (depth k)) (queue k) && valid_turn k

abbrev pub pending : List ℕ → Bool
pending k = ltb 0 (count k)

-- what format leaves
unfoldable pub fresh_control : ℕ → ℕ → ℕ → List ℕ
fresh_control h f r = to_le 4 (mark_of f) ++ (1 ∷ h ∷ 1 ∷ []) ++ to_le 8 r ++ replicate 666 0
