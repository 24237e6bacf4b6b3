-- `memory_map::array_length` meets its contract. Assumes nothing.
use mathlib.Core.Path.{ap}
use Prim.Native.Nat.{ℕ, ◌*◌}
use native.Mathlib.Omega.{arith}
use Rattle.memory_map.specs.Map.{array_length}
use Rattle.memory_map.proofs.Laws.{cells-small}
use Rattle.memory_map.proofs.array_length.Goals as goal

pub overflow_mul-result : goal.overflow_mul-result
overflow_mul-result c = omega (arith, c.cells.ensures, cells-small c.args.h c.requires.1)

pub returns : goal.returns
unfolding array_length
returns c = ap (λ (n : ℕ). 72 * n) c.cells.ensures
