-- P1 to P14 of the paper, each as what the definitions compute and what the paper says. Assumes nothing.
use Rattle.std.specs.Prelude.{ℕ, List, [], ◌∷◌, get_or, replicate}
use Rattle.counter.specs.Counter.{forward, with_minor}
use Rattle.memory_map.specs.Map.{cell_of}
use Rattle.memory_map.specs.Map.Item.{line, node, shadow}
use Rattle.calls.specs.Recovery.{Step, to, bad, by_phase}

-- the refusal of a step, 0 where there is none
unfoldable pub refusal_of : Step → ℕ
refusal_of (to v) = 0
refusal_of (bad k) = k

-- that of a minor and a phase, and the minor brought forward
abbrev pub brought : ℕ → ℕ → List ℕ
brought s p = refusal_of (by_phase s p) ∷ forward s p ∷ []

-- 64 zero bytes with 127 as minor 1
abbrev pub block : List ℕ
block = with_minor (replicate 64 0) 1 127

pub record Row : Type 0 where
  pub computed : List ℕ
  pub said : List ℕ

-- P1 to P8: minor and phase; P9 to P13: cells of depth 1; P14: bytes 8 and 9 of a counter block
unfoldable pub table : List Row
table =
    record { computed = brought 4 2; said = 0 ∷ 6 ∷ [] }
    ∷ record { computed = brought 0 3; said = 0 ∷ 3 ∷ [] }
    ∷ record { computed = brought 5 1; said = 0 ∷ 5 ∷ [] }
    ∷ record { computed = brought 6 1; said = 0 ∷ 9 ∷ [] }
    ∷ record { computed = brought 124 3; said = 0 ∷ 127 ∷ [] }
    ∷ record { computed = brought 127 3; said = 0 ∷ 127 ∷ [] }
    ∷ record { computed = brought 125 0; said = 32 ∷ 128 ∷ [] }
    ∷ record { computed = brought 126 1; said = 32 ∷ 129 ∷ [] }
    ∷ record { computed = cell_of 1 (line 511) ∷ []; said = 511 ∷ [] }
    ∷ record { computed = cell_of 1 (node 0 0) ∷ []; said = 512 ∷ [] }
    ∷ record { computed = cell_of 1 (node 1 0) ∷ []; said = 520 ∷ [] }
    ∷ record { computed = cell_of 1 (shadow 0) ∷ []; said = 521 ∷ [] }
    ∷ record { computed = cell_of 1 (shadow 4) ∷ []; said = 525 ∷ [] }
    ∷ record { computed = get_or block 8 0 ∷ get_or block 9 0 ∷ []; said = 0x80 ∷ 0x3f ∷ [] }
    ∷ []

unfoldable pub computed_column : List Row → List (List ℕ)
computed_column [] = []
computed_column (r ∷ rs) = r.computed ∷ computed_column rs

unfoldable pub said_column : List Row → List (List ℕ)
said_column [] = []
said_column (r ∷ rs) = r.said ∷ said_column rs
