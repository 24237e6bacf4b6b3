-- `line_batch::put_block` meets its contract. Assumes nothing.
use mathlib.Core.Path.{ap, subst, ◌∙◌}
use Prim.Native.Nat.{ℕ, zero-le}
use Rattle.memory_map.specs.Map.{InMap}
use Rattle.memory_map.specs.Map.Item.{node}
use Rattle.memory_map.proofs.Laws.{path-bottom, path-node}
use Rattle.control.specs.Control.{Cell}
use Rattle.batch.specs.Batch.{staged}
use Rattle.line_batch.proofs.Laws.{block-cell}
use Rattle.line_batch.proofs.put_block.Goals as goal

pub node_cell-cell-requires : goal.node_cell-cell-requires
node_cell-cell-requires c = (
  c.requires.0,
  (
    c.requires.1.0,
    subst (λ (i : ℕ). InMap c.args.h (node 0 i)) (path-bottom c.args.p)
        (path-node c.args.h c.args.p 0 c.requires.1.1.0 zero-le),
  ),
)

pub returns : goal.returns
returns c =
    c.put_cell.ensures
    ∙ ap (λ (x : Cell). staged c.args.allowance c.args.n x c.args.control.now)
    (block-cell c.args.h c.args.p c.args.block.now c.node_cell-cell.result c.node_cell-cell.ensures)
