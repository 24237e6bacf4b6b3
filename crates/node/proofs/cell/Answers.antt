-- `node::cell` meets its contract. Assumes nothing.
use Rattle.node.proofs.Laws.{whole_part}
use Rattle.node.proofs.cell.Goals as goal

pub returns : goal.returns
returns c = whole_part c.args.array.now c.args.n
