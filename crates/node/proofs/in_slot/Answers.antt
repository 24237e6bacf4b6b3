-- `node::in_slot` meets its contract. Assumes nothing.
use Rattle.node.proofs.Laws.{slot-part}
use Rattle.node.proofs.in_slot.Goals as goal

pub returns : goal.returns
returns c = slot-part c.args.cache.now c.args.s
