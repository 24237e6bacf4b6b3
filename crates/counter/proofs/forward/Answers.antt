-- `counter::forward` is the stored minor brought forward to the phase. Assumes nothing.
use mathlib.Core.Path.{refl}
use Rattle.counter.specs.Counter.{forward}
use Rattle.counter.proofs.forward.Goals as goal

pub returns : goal.returns
unfolding forward
returns c = refl
