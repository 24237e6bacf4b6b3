-- `node::current` meets its contract. Assumes nothing.
use mathlib.Core.Path.{sym, ap, ◌∙◌}
use Rattle.cache.specs.Cache.{content, cell_content}
use Rattle.memory_map.proofs.Laws.{in-map-node}
use Rattle.slot_map.proofs.Laws.{slot-within}
use Rattle.cache.proofs.Laws.{current-cached, current-missing, slot-room}
use Rattle.node.proofs.Laws.{slotted, cell_room}
use Rattle.node.proofs.current.Goals as goal

pub holds-requires : goal.holds-requires
holds-requires c =
    let n = slotted _ c.args.cache.now c.args.l c.args.i c.requires.0.flat c.requires.0.cache c.requires.1 in
    (n.level, (n.word, n.slot))

pub slot_of-requires : goal.slot_of-requires
slot_of-requires c =
    (slotted _ c.args.cache.now c.args.l c.args.i c.requires.0.flat c.requires.0.cache
    c.requires.1).level

pub in_slot-requires : goal.in_slot-requires
in_slot-requires c =
    let level = (in-map-node _ c.args.l c.args.i c.requires.1).0 in
    rw c.slot_of.ensures (slot-room _ _ c.args.cache.now c.requires.0.cache (slot-within _ _ _ level))

pub returns-then-holds : goal.returns-then-holds
returns-then-holds c =
    c.in_slot.ensures ∙ ap (content c.args.cache.now) c.slot_of.ensures
    ∙ sym (current-cached c.args.h c.args.array.now c.args.cache.now c.args.l c.args.i (sym c.holds.ensures ∙ c.if-holds.true))

pub node_cell-requires : goal.node_cell-requires
node_cell-requires c = (c.requires.0.deep, (c.requires.0.flat, c.requires.1))

pub in_cell-requires : goal.in_cell-requires
in_cell-requires c = rw c.node_cell.ensures (cell_room _ c.args.array.now _ _ c.requires.0.array c.requires.1)

pub returns : goal.returns
returns c =
    c.in_cell.ensures ∙ ap (cell_content c.args.array.now) c.node_cell.ensures
    ∙ sym (current-missing c.args.h c.args.array.now c.args.cache.now c.args.l c.args.i (sym c.holds.ensures ∙ c.if-holds.false))
