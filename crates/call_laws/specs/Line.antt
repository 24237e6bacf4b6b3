-- The cells of a write, by the counter that its line gets: for laws and for the contracts of its steps. Assumes nothing.
use Rattle.std.specs.Prelude.{ℕ, suc, cond, List, [], ◌∷◌, ◌++◌, eqb}
use Rattle.memory_map.specs.Map.{page_of}
use Rattle.counter.specs.Counter.{lag}
use Rattle.control.specs.Control.{Cell}
use Rattle.calls.specs.Path.{node_cell}
use Rattle.calls.specs.Write.{line_cell}
use Rattle.call_laws.specs.Walk.{path_cells}

-- the block b, of page p, joins the batch where its new minor is a multiple of 4
unfoldable pub block_cells : ℕ → ℕ → ℕ → List ℕ → List Cell
block_cells h p mi b = cond (eqb (lag mi) 0) (node_cell h 0 p b ∷ []) []

-- the batch, in a module of family f: the path's cells, the block, the data cell
unfoldable pub line_cells : ℕ → ℕ → List ℕ → List ℕ → ℕ → List ℕ → ℕ → ℕ → List ℕ → List Cell
line_cells h f keys c line text ma mi b =
    path_cells h c (page_of line) (suc h) ++ block_cells h (page_of line) mi b ++ (line_cell f keys line text ma mi ∷ [])
