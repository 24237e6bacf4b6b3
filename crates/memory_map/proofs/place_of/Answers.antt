-- `memory_map::place_of` meets its contract. Assumes nothing.
use mathlib.Core.Path.{refl}
use Rattle.bits.proofs.Shifts.{mask-remainder}
use Rattle.memory_map.proofs.place_of.Goals as goal

pub returns : goal.returns
returns c = mask-remainder 6 64 refl c.args.line
