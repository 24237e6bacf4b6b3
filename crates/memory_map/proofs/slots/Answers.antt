-- `memory_map::slots` meets its contract. Assumes nothing.
use mathlib.Core.Path.{refl}
use Rattle.memory_map.specs.Map.{slots}
use Rattle.memory_map.proofs.slots.Goals as goal

pub returns : goal.returns
unfolding slots
returns c = refl
