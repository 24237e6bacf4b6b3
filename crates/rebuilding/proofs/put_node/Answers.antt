-- `rebuilding::put_node` meets its contract. Assumes nothing.
use mathlib.Core.Path.{ap, ◌∙◌}
use native.Mathlib.Omega.{arith}
use borrow.Author.Rules.{rules}
use lib.ListN.{length}
use Rattle.memory_map.proofs.Laws.{index-small}
use Rattle.slot_map.specs.Slots.{level_of}
use Rattle.cache.proofs.Laws.{slot-room}
use Rattle.call_laws.proofs.Tags.{tags-length}
use Rattle.rebuilding.proofs.Nodes.{level-some, level-below, node-put}
use Rattle.rebuilding.proofs.put_node.Goals as goal

pub overflow_sub-l : goal.overflow_sub-l
overflow_sub-l c = omega (arith, level-some c.args.s c.requires.1.1.0 c.level_of-l.ensures)

pub child_tags-requires : goal.child_tags-requires
child_tags-requires c =
    let up = level-below c.args.h c.args.s c.args.i c.requires.1.1.0 c.requires.1.1.1.1 c.level_of-l.ensures in
    (c.requires.0, (c.requires.1.0, (up, search rules)))

pub overflow_add-i : goal.overflow_add-i
overflow_add-i c = omega (arith, index-small c.args.h (level_of c.args.s) c.args.i c.requires.1.1.1.1 c.requires.1.0.flat)

pub put_slot-requires : goal.put_slot-requires
put_slot-requires c = (
  slot-room c.args.h c.args.s c.args.image.now c.requires.1.0.cache c.requires.1.1.1.0,
  ap length c.child_tags.ensures ∙ tags-length _ _ _ _ 8,
)

pub returns : goal.returns
returns c =
    node-put c.args.h c.args.keys.now c.args.array.now c.args.image.now c.args.s c.args.i c.level_of-l.ensures
    c.child_tags.ensures c.put_slot.ensures
