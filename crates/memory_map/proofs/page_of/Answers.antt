-- `memory_map::page_of` meets its contract. Assumes nothing.
use mathlib.Core.Path.{refl}
use Rattle.bits.proofs.Shifts.{shift-quotient}
use Rattle.memory_map.proofs.page_of.Goals as goal

pub returns : goal.returns
returns c = shift-quotient 6 64 refl c.args.line
