-- `memory_map::cells` meets its contract. Assumes nothing.
use mathlib.Core.Path.{◌∙◌, ap₂}
use Prim.Native.Nat.{◌+◌}
use native.Mathlib.Nat.{add_comm}
use native.Mathlib.Omega.{arith}
use Rattle.memory_map.specs.Map.{shadow_cells, level_start}
use Rattle.memory_map.proofs.Laws.{all-cells, start_small, shadow-small}
use Rattle.memory_map.proofs.cells.Goals as goal

pub overflow_add-result : goal.overflow_add-result
overflow_add-result c =
    omega (
      arith,
      start_small c.level_start.ensures c.requires.1 (omega arith),
      shadow-small c.shadow_cells.ensures
          (omega (arith, c.requires.1)),
    )

pub returns : goal.returns
returns c = ap₂ ◌+◌ c.shadow_cells.ensures c.level_start.ensures ∙ add_comm (shadow_cells c.args.h) (level_start c.args.h (c.args.h + 1)) ∙ all-cells c.args.h
