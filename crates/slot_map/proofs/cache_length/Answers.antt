-- `slot_map::cache_length` meets its contract. Assumes nothing.
use mathlib.Core.Path.{ap}
use Prim.Native.Nat.{ℕ, ◌*◌}
use native.Mathlib.Omega.{arith}
use Rattle.memory_map.specs.Map.{slots}
use Rattle.slot_map.specs.Slots.{cache_length}
use Rattle.slot_map.proofs.cache_length.Goals as goal

pub overflow_mul-result : goal.overflow_mul-result
unfolding slots
overflow_mul-result c = omega (arith, c.slots.ensures)

pub returns : goal.returns
unfolding cache_length
returns c = ap (λ (n : ℕ). 73 * n) c.slots.ensures
