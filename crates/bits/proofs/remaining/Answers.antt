-- `bits::remaining` meets its contract. Assumes nothing.
use Rattle.bits.proofs.Laws.{count_bits}
use Rattle.bits.proofs.remaining.Goals as goal

pub returns : goal.returns
returns c = count_bits c.args.mask c.ranges.mask.fits
