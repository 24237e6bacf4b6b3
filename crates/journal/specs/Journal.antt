-- A batch of cells and its stores: the queue places, the commit, the cells, the root, count 0.
-- Assumes nothing.
use Rattle.std.specs.Prelude.{ℕ, suc, ◌*◌, Bool, cond, ◌≡◌, List, [], ◌∷◌, ◌++◌, map, ltb, length, take}
use Rattle.words.specs.Bytes.{to_le, put}
use Rattle.control.specs.Control.{Cell, root_at, count_at, place_at, turn_at, queue, new_root, pending}

-- one store, whole or not at all
pub data Store : Type 0 where
  stage : ℕ → Cell → Store
  commit : ℕ → ℕ → Store
  commit_turn : ℕ → ℕ → List ℕ → Store
  cell : Cell → Store
  root : ℕ → Store
  clear : Store

-- what keeps its content without power: the array and the control record
pub record Media : Type 0 where
  pub array : List ℕ
  pub control : List ℕ

abbrev pub media : List ℕ → List ℕ → Media
media a k = record { array = a; control = k }

-- queue place j; the count with the new root; the same with the section of a turn; a cell; the root; count 0
unfoldable pub store : Media → Store → Media
store m (stage j c) = media m.array (put m.control (place_at j) (to_le 8 c.number ++ c.bytes))
store m (commit n r) = media m.array (put m.control count_at (n ∷ to_le 8 r))
store m (commit_turn n r s) = media m.array (put (put m.control turn_at s) count_at (n ∷ to_le 8 r))
store m (cell c) = media (put m.array (72 * c.number) c.bytes) m.control
store m (root r) = media m.array (put m.control root_at (to_le 8 r))
store m clear = media m.array (put m.control count_at (0 ∷ []))

unfoldable pub store_all : Media → List Store → Media
store_all m [] = m
store_all m (x ∷ xs) = store_all (store m x) xs

-- The stores of a batch

unfoldable pub stages : ℕ → List Cell → List Store
stages j [] = []
stages j (c ∷ cs) = stage j c ∷ stages (suc j) cs

-- the stores after the commit: the cells, the root and count 0
unfoldable pub finish : List Cell → ℕ → List Store
finish cs r = map cell cs ++ (root r ∷ clear ∷ [])

-- those of staged cells: the commit and what is after it
abbrev pub committing : List Cell → ℕ → List Store
committing cs r = commit (length cs) r ∷ finish cs r

-- 2m + 3 stores for a batch of m cells, none for an empty one
unfoldable pub batch_stores : List Cell → ℕ → List Store
batch_stores [] r = []
batch_stores (c ∷ cs) r = stages 0 (c ∷ cs) ++ committing (c ∷ cs) r

-- those of a batch of a turn, which is never empty: the commit also sets the section s
abbrev pub committing_turn : List Cell → ℕ → List ℕ → List Store
committing_turn cs r s = commit_turn (length cs) r s ∷ finish cs r

unfoldable pub turn_stores : List Cell → ℕ → List ℕ → List Store
turn_stores cs r s = stages 0 cs ++ committing_turn cs r s

-- the stores that a pending batch still wants: m + 2
unfoldable pub pending_stores : List ℕ → List Store
pending_stores k = cond (pending k) (finish (queue k) (new_root k)) []

-- The allowance: the stores made are the leading part that it allows

abbrev pub made : ℕ → List Store → List Store
made allowance xs = take allowance xs

abbrev pub is_cut : ℕ → List Store → Bool
is_cut allowance xs = ltb allowance (length xs)

-- what a call leaves of m, and the number that it tells, where it is to make the stores xs
pub record Stored (allowance : ℕ) (xs : List Store) (m after : Media) (told : ℕ) : Type 0 where
  pub left : after ≡ store_all m (made allowance xs)
  pub number : told ≡ length (made allowance xs)
