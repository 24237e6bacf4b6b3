-- `cache::dirty` meets its contract. Assumes nothing.
use mathlib.Core.Path.{refl}
use Rattle.cache.specs.Cache.{dirty}
use Rattle.cache.proofs.dirty.Goals as goal

pub returns : goal.returns
unfolding dirty
returns c = refl
