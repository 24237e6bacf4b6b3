-- Writing a line.
-- Assumes nothing.
use Rattle.std.specs.Prelude.{ℕ, zero, suc, Bool, cond, List, [], ◌∷◌, ◌++◌, eqb, length}
use Rattle.memory_map.specs.Map.{page_of, place_of}
use Rattle.counter.specs.Counter.{major, with_minor, lag}
use Rattle.pad.specs.Pad.{pad, xor_bytes}
use Rattle.side.specs.Side.{side_bytes}
use Rattle.answer.specs.declared.Answer.TheVariants.{Done}
use Rattle.control.specs.Control.{family, depth, Cell}
use Rattle.journal.specs.Journal.{Store, batch_stores}
use Rattle.calls.specs.Path.{node_cell, Loaded, loaded, differs, renew_path, renewed_root}
use Rattle.calls.specs.Call.{Module, Called, access_refusal, refuse, storing, path_of}
use Rattle.calls.specs.Read.{page_block, line_minor}

abbrev pub new_minor : List ℕ → ℕ → ℕ
new_minor c line = suc (line_minor c line)

-- the counter block with the line's minor raised by one
unfoldable pub new_block : List ℕ → ℕ → List ℕ
new_block c line = with_minor (page_block c line) (place_of line) (new_minor c line)

-- the block joins the batch where the new minor is a multiple of 4, and its slot is then clean
abbrev pub stop_loss : List ℕ → ℕ → Bool
stop_loss c line = eqb (lag (new_minor c line)) 0

-- the data cell of a text at a counter, in a module of family f
unfoldable pub line_cell : ℕ → List ℕ → ℕ → List ℕ → ℕ → ℕ → Cell
line_cell f keys line text ma mi =
    let b = xor_bytes text (pad keys line ma mi) in record { number = line; bytes = b ++ side_bytes f keys b line ma mi }

abbrev pub data_cell : ℕ → List ℕ → ℕ → List ℕ → List ℕ → Cell
data_cell f keys line text c = line_cell f keys line text (major (page_block c line)) (new_minor c line)

-- x is the batch of the loaded path
unfoldable pub write_batch : ℕ → ℕ → List ℕ → ℕ → List ℕ → List ℕ → List Cell → List Cell
write_batch h f keys line text c x =
    x ++ cond (stop_loss c line) (node_cell h 0 (page_of line) (new_block c line) ∷ []) [] ++ (data_cell f keys line text c ∷ [])

unfoldable pub write_stores : ℕ → ℕ → List ℕ → ℕ → List ℕ → List ℕ → List Cell → List Store
write_stores h f keys line text c x =
    batch_stores (write_batch h f keys line text c x) (renewed_root h keys c (page_of line) (new_block c line))

unfoldable pub written_cache : ℕ → List ℕ → ℕ → List ℕ → List ℕ
written_cache h keys line c = renew_path keys c (page_of line) (new_block c line) (cond (stop_loss c line) 0 1) h

unfoldable pub write_loaded : List ℕ → ℕ → List ℕ → ℕ → Module → List ℕ → List Cell → Called
write_loaded keys line text allowance m c x =
    let h = depth m.control in
    let xs = write_stores h (family m.control) keys line text c x in
    cond (eqb (line_minor c line) 127) (refuse m 26 0 0)
    (storing allowance m xs (Done (length xs) 0) (written_cache h keys line c))

unfoldable pub write_path : List ℕ → ℕ → List ℕ → ℕ → Module → Loaded → Called
write_path keys line text allowance m (differs l i) = refuse m 24 l i
write_path keys line text allowance m (loaded c x) = write_loaded keys line text allowance m c x

unfoldable pub write_judged : ℕ → List ℕ → ℕ → List ℕ → ℕ → Module → Called
write_judged zero keys line text allowance m = write_path keys line text allowance m (path_of keys line m)
write_judged (suc n) keys line text allowance m = refuse m (suc n) 0 0

abbrev pub write : List ℕ → ℕ → List ℕ → ℕ → Module → Called
write keys line text allowance m = write_judged (access_refusal keys line text m) keys line text allowance m
