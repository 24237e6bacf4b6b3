-- `bits::without_lowest` meets its contract. Assumes nothing.
use Rattle.bits.proofs.Laws.{cleared-bit}
use Rattle.bits.proofs.without_lowest.Goals as goal

pub returns : goal.returns
returns c = cleared-bit c.args.mask c.requires
