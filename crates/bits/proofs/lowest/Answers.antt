-- `bits::lowest` meets its contract. Assumes nothing.
use Rattle.std.proofs.Common.{arith}
use Rattle.bits.proofs.Laws.{lowest-bit, lowest-lt}
use Rattle.bits.proofs.lowest.Goals as goal

pub returns : goal.returns
returns c =
    let place = lowest-bit c.args.mask c.requires c.ranges.mask.fits in
    (place, omega (arith, place, lowest-lt c.args.mask c.requires c.ranges.mask.fits))
