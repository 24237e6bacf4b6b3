-- The first of a page's lines that does not fit its counter, by the page's major and minors. Assumes nothing.
use Rattle.std.specs.Prelude.{ℕ, Bool, ◌&&◌, not, cond, List, [], ◌∷◌, eqb, get_or}
use Rattle.side.specs.Side.{side_fits}
use Rattle.cache.specs.Cache.{cell_bytes}
use Rattle.std.specs.Prelude.{Option, None, Some}
use Rattle.calls.specs.Turn.{line_at}

-- whether a line is written, and its data cell has the side bytes of its counter, in a module of family f
abbrev pub line_fits : ℕ → List ℕ → List ℕ → ℕ → ℕ → ℕ → Bool
line_fits f keys a n ma mi = not (eqb mi 0) && side_fits f keys (cell_bytes a n) n ma mi

-- of page p, with its major and its minors, the lines at these places
unfoldable pub first_bad : ℕ → List ℕ → List ℕ → ℕ → ℕ → List ℕ → List ℕ → Option ℕ
first_bad f keys a p ma ms [] = None
first_bad f keys a p ma ms (j ∷ js) =
    let n = line_at p j in cond (line_fits f keys a n ma (get_or ms j 0)) (first_bad f keys a p ma ms js) (Some n)
