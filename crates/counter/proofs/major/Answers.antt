-- `counter::major` is the number in the block's first eight bytes. Assumes nothing.
use Rattle.counter.specs.Counter.{major}
use Rattle.counter.proofs.major.Goals as goal

pub returns : goal.returns
unfolding major
returns c = c.load.ensures
