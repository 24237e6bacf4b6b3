-- A line encrypted afresh by the counter that it has, for the contracts of a turn's steps. Assumes nothing.
use Rattle.std.specs.Prelude.{ℕ, suc, List, get_or}
use Rattle.pad.specs.Pad.{pad, xor_bytes}
use Rattle.control.specs.Control.{Cell}
use Rattle.cache.specs.Cache.{cell_content}
use Rattle.calls.specs.Write.{line_cell}
use Rattle.calls.specs.Turn.{line_at}

-- line n, from its major and minor to the next major and minor 1, in a module of family f
unfoldable pub fresh_cell : ℕ → List ℕ → List ℕ → ℕ → ℕ → ℕ → Cell
fresh_cell f keys a n ma mi = line_cell f keys n (xor_bytes (cell_content a n) (pad keys n ma mi)) (suc ma) 1

-- the line at place j of page p, whose minors are ms
abbrev pub fresh_line : ℕ → List ℕ → List ℕ → ℕ → ℕ → List ℕ → ℕ → Cell
fresh_line f keys a p ma ms j = fresh_cell f keys a (line_at p j) ma (get_or ms j 0)
