-- `node::in_cell` meets its contract. Assumes nothing.
use Rattle.std.proofs.Common.{take, ap, ◌∙◌, arith, length-take, length-drop}
use Rattle.node.proofs.Laws.{front_part}
use Rattle.node.proofs.in_cell.Goals as goal

pub slice_bounds-result-end : goal.slice_bounds-result-end
slice_bounds-result-end c = rw c.cell.ensures (simp (length-take, length-drop) (omega arith))

pub returns : goal.returns
returns c = ap (take 64) c.cell.ensures ∙ front_part c.args.array.now c.args.n
