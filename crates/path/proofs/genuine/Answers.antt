-- `path::genuine` meets its contract. Assumes nothing.
use mathlib.Core.Path.{◌≡◌, ap, ◌∙◌}
use lib.ListN.{length}
use Rattle.memory_map.specs.Map.{InMap, cell_of}
use Rattle.memory_map.specs.Map.Item.{node}
use Rattle.cache.specs.Cache.{cell_content}
use Rattle.cache.proofs.Laws.{cell-length}
use Rattle.node.proofs.Laws.{cell_room}
use Rattle.path.proofs.Laws.{path-inside}
use Rattle.path.proofs.genuine.Goals as goal

pub node_cell-requires : goal.node_cell-requires
node_cell-requires c =
    let inside : InMap c.args.h (node c.args.l c.on_path-i.result) = path-inside c.requires.1.1.0 c.requires.1.1.1 c.on_path-i.ensures in
    (c.requires.1.0.deep, (c.requires.1.0.flat, inside))

pub in_cell-content-requires : goal.in_cell-content-requires
in_cell-content-requires c =
    let inside : InMap c.args.h (node c.args.l c.on_path-i.result) = path-inside c.requires.1.1.0 c.requires.1.1.1 c.on_path-i.ensures in
    rw c.node_cell.ensures (cell_room _ c.args.array.now _ _ c.requires.1.0.array inside)

pub node_tag-requires : goal.node_tag-requires
node_tag-requires c =
    let inside : InMap c.args.h (node c.args.l c.on_path-i.result) = path-inside c.requires.1.1.0 c.requires.1.1.1 c.on_path-i.ensures in
    let found : c.in_cell-content.result.now ≡ cell_content c.args.array.now (cell_of c.args.h (node c.args.l c.on_path-i.result)) = c.in_cell-content.ensures ∙ ap (cell_content c.args.array.now) c.node_cell.ensures in
    (c.requires.0, ap length found ∙ cell-length c.args.h c.args.array.now _ c.requires.1.0.array inside)
