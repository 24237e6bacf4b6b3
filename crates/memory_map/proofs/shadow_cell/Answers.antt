-- `memory_map::shadow_cell` meets its contract. Assumes nothing.
use mathlib.Core.Path.{refl, ◌∙◌, ap}
use Prim.Native.Nat.{ℕ, ◌+◌}
use native.Mathlib.Omega.{arith}
use Rattle.memory_map.specs.Map.{InMap}
use Rattle.memory_map.proofs.Laws.{start_small, slots_small, shadow-cell}
use Rattle.memory_map.proofs.shadow_cell.Goals as goal

pub overflow_add-result : goal.overflow_add-result
unfolding InMap
overflow_add-result c = omega (arith, start_small c.level_start.ensures c.requires.1.0 (omega arith), slots_small {h = c.args.h} refl c.requires.1.0, c.requires.1.1)

pub returns : goal.returns
returns c = ap (λ (n : ℕ). n + c.args.s) c.level_start.ensures ∙ shadow-cell c.args.h c.args.s
