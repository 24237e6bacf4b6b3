-- Turning a page: each written line is encrypted afresh under the next major and minor 1, a line in a batch.
-- Assumes nothing.
use Rattle.std.specs.Prelude.{ℕ, zero, suc, ◌+◌, ◌-◌, ◌*◌, ◌^◌, ◌&&◌, not, cond, List, [], ◌∷◌, ◌++◌, leb, eqb, length}
use Rattle.bits.specs.Bits.{set_bits, with_bits}
use Rattle.memory_map.specs.Map.{pages}
use Rattle.slot_map.specs.Slots.{slot_of}
use Rattle.counter.specs.Counter.{major, written, turned}
use Rattle.answer.specs.declared.Answer.TheVariants.{Done}
use Rattle.control.specs.Control.{Cell, family, depth, root, turn_mask, turn_bytes, is_open, other_open, pending}
use Rattle.cache.specs.Cache.{content, formed}
use Rattle.std.specs.Prelude.{Option, None, Some}
use Rattle.journal.specs.Journal.{Store, turn_stores}
use Rattle.calls.specs.Path.{node_cell, Loaded, loaded, differs, load_path, renew_path, renewed_root}
use Rattle.calls.specs.Call.{Module, Called, judged, opening_tests, refuse, storing}
use Rattle.calls.specs.Read.{line_minor, side_ok, line_text}
use Rattle.calls.specs.Write.{line_cell}

-- 2 3 21 4 5 6 22 23 30
unfoldable pub turn_refusal : List ℕ → ℕ → Module → ℕ
turn_refusal keys p m = judged
    (opening_tests keys m
    ++ ((leb (pages (depth m.control)) p, 6) ∷ (pending m.control, 22) ∷ (not (formed (depth m.control) m.cache), 23)
    ∷ (other_open m.control p, 30) ∷ []))

-- Lines

-- the line at a place of page p
abbrev pub line_at : ℕ → ℕ → ℕ
line_at p j = 64 * p + j

-- the page's counter block, once its path is loaded
abbrev pub block_of : List ℕ → ℕ → List ℕ
block_of c p = content c (slot_of 0 p)

-- the places still to turn, lowest first: of an open page those of the mask, else the written ones
unfoldable pub turn_places : List ℕ → List ℕ → ℕ → List ℕ
turn_places k c p = cond (is_open k p) (set_bits (turn_mask k)) (written (block_of c p))

-- the first of these lines that has minor 0 or wrong side bytes, in a module of family f
unfoldable pub bad_line : ℕ → List ℕ → List ℕ → List ℕ → ℕ → List ℕ → Option ℕ
bad_line f keys a c p [] = None
bad_line f keys a c p (j ∷ js) =
    let n = line_at p j in cond (not (eqb (line_minor c n) 0) && side_ok f keys a c n) (bad_line f keys a c p js) (Some n)

-- Batches

-- a batch of a turn: its cells, and what its commit sets: the new root and the section
pub record Batch : Type 0 where
  pub cells : List Cell
  pub root : ℕ
  pub section : List ℕ

-- the line at place j encrypted afresh
abbrev pub turned_cell : ℕ → List ℕ → List ℕ → List ℕ → ℕ → ℕ → Cell
turned_cell f keys a c p j = line_cell f keys (line_at p j) (line_text keys a c (line_at p j)) (suc (major (block_of c p))) 1

-- the section while these places of page p are left
abbrev pub left_bytes : ℕ → List ℕ → List ℕ
left_bytes p js = turn_bytes 1 p (with_bits js)

-- the new block, and the root over it
abbrev pub new_block_cell : ℕ → List ℕ → ℕ → Cell
new_block_cell h c p = node_cell h 0 p (turned (block_of c p))

abbrev pub turned_root : ℕ → List ℕ → List ℕ → ℕ → ℕ
turned_root h keys c p = renewed_root h keys c p (turned (block_of c p))

-- the last batch: the new block, then the line that is left, if there is one; its commit ends the turn
abbrev pub last_batch : ℕ → List ℕ → List ℕ → ℕ → List Cell → List Cell → Batch
last_batch h keys c p front line =
    record { cells = front ++ (new_block_cell h c p ∷ line); root = turned_root h keys c p; section = turn_bytes 0 0 0 }

-- the batches that turn these places, each a line; the first starts with the cells front; r is the root until the last
unfoldable pub batches_of : ℕ → ℕ → List ℕ → List ℕ → List ℕ → ℕ → ℕ → List Cell → List ℕ → List Batch
batches_of h f keys a c p r front [] = last_batch h keys c p front [] ∷ []
batches_of h f keys a c p r front (j ∷ []) = last_batch h keys c p front (turned_cell f keys a c p j ∷ []) ∷ []
batches_of h f keys a c p r front (j ∷ i ∷ js) =
    record { cells = front ++ (turned_cell f keys a c p j ∷ []); root = r; section = left_bytes p (i ∷ js) }
    ∷ batches_of h f keys a c p r [] (i ∷ js)

-- the first batch starts with the cells x of the missing path; that of a turn with two lines or more, if it is not a resumed one, goes on
-- with the counter block as it is
unfoldable pub turn_front : ℕ → List ℕ → List ℕ → ℕ → List Cell → List Cell
turn_front h k c p x =
    x ++ cond (not (is_open k p) && leb 2 (length (turn_places k c p))) (node_cell h 0 p (block_of c p) ∷ []) []

unfoldable pub turn_batches : List ℕ → ℕ → Module → List ℕ → List Cell → List Batch
turn_batches keys p m c x =
    let h = depth m.control in
    batches_of h (family m.control) keys m.array c p (root m.control) (turn_front h m.control c p x) (turn_places m.control c p)

-- their stores
unfoldable pub stores_for : List Batch → List Store
stores_for [] = []
stores_for (b ∷ bs) = turn_stores b.cells b.root b.section ++ stores_for bs

-- The call

unfoldable pub turned_cache : ℕ → List ℕ → List ℕ → ℕ → List ℕ
turned_cache h keys c p = renew_path keys c p (turned (block_of c p)) 0 h

unfoldable pub turn_checked : List ℕ → ℕ → ℕ → Module → List ℕ → List Cell → Option ℕ → Called
turn_checked keys p allowance m c x (Some n) = refuse m 25 n 0
turn_checked keys p allowance m c x None =
    let xs = stores_for (turn_batches keys p m c x) in
    storing allowance m xs (Done (length xs) 0) (turned_cache (depth m.control) keys c p)

unfoldable pub turn_loaded : List ℕ → ℕ → ℕ → Module → List ℕ → List Cell → Called
turn_loaded keys p allowance m c x =
    cond (eqb (major (block_of c p)) (2 ^ 64 - 1)) (refuse m 31 0 0)
    (turn_checked keys p allowance m c x (bad_line (family m.control) keys m.array c p (turn_places m.control c p)))

unfoldable pub turn_path : List ℕ → ℕ → ℕ → Module → Loaded → Called
turn_path keys p allowance m (differs l i) = refuse m 24 l i
turn_path keys p allowance m (loaded c x) = turn_loaded keys p allowance m c x

-- the path of a page, in a module
abbrev pub page_path : List ℕ → ℕ → Module → Loaded
page_path keys p m = load_path (depth m.control) keys m.array (root m.control) p m.cache

unfoldable pub turn_judged : ℕ → List ℕ → ℕ → ℕ → Module → Called
turn_judged zero keys p allowance m = turn_path keys p allowance m (page_path keys p m)
turn_judged (suc n) keys p allowance m = refuse m (suc n) 0 0

abbrev pub turn : List ℕ → ℕ → ℕ → Module → Called
turn keys p allowance m = turn_judged (turn_refusal keys p m) keys p allowance m

-- A turn is finished by the commit of its last batch: the stores before that are those of the batches before it, and the cells of the last

unfoldable pub before_last : List Batch → ℕ
before_last [] = 0
before_last (b ∷ []) = length b.cells
before_last (b ∷ d ∷ bs) = length (turn_stores b.cells b.root b.section) + before_last (d ∷ bs)

unfoldable pub before_finished : List ℕ → ℕ → Module → Loaded → ℕ
before_finished keys p m (differs l i) = 0
before_finished keys p m (loaded c x) = before_last (turn_batches keys p m c x)
