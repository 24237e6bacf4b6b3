-- `memory_map::shadow_cells` meets its contract. Assumes nothing.
use Rattle.memory_map.specs.Map.{shadow_cells}
use Rattle.memory_map.proofs.shadow_cells.Goals as goal

pub returns : goal.returns
unfolding shadow_cells
returns c = c.slots.ensures
