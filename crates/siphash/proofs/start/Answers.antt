-- `siphash::start` meets its contract: the four words are those of `initial`.
-- Assumes nothing.
use Rattle.std.proofs.Common.{refl}
use Rattle.siphash.specs.SipHash.{initial}
use Rattle.siphash.proofs.start.Goals as goal

pub returns : goal.returns
unfolding initial
returns c = refl
