-- `cache::owner` meets its contract. Assumes nothing.
use Rattle.cache.specs.Cache.{owner}
use Rattle.cache.proofs.owner.Goals as goal

pub returns : goal.returns
unfolding owner
returns c = c.load.ensures
