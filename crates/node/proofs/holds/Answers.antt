-- `node::holds` meets its contract. Assumes nothing.
use Rattle.node.proofs.Laws.{holds-is}
use Rattle.node.proofs.holds.Goals as goal

pub returns : goal.returns
returns c = holds-is c.args.cache.now c.args.l c.args.i c.slot_of.ensures c.owner.ensures
