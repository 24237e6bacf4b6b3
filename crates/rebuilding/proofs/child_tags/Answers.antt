-- `rebuilding::child_tags` stores the tags of the eight children, one by one. Assumes nothing.
use mathlib.Core.Path.{◌≡◌, ap, ◌∙◌}
use Prim.Native.Nat.{◌+◌, ◌*◌, ◌<◌}
use native.Mathlib.Omega.{arith}
use lib.ListN.{length}
use Rattle.memory_map.specs.Map.{InMap}
use Rattle.memory_map.specs.Map.Item.{node}
use Rattle.memory_map.proofs.Laws.{child-node, index-small}
use Rattle.node.proofs.Laws.{current-length}
use Rattle.rebuilding.proofs.Nodes.{tagged-none, tagged-next, tagged-all}
use Rattle.rebuilding.proofs.child_tags.Goals as goal

pub loop-k-init : goal.loop-k-init
loop-k-init c = tagged-none c.args.keys.now c.args.l _ c.args.i c.args.out.now c.requires.1.1.1

pub overflow_mul-child : goal.overflow_mul-child
overflow_mul-child c =
    let small : c.args.i < 512 = index-small c.args.h (c.args.l + 1) c.args.i c.requires.1.1.0 c.requires.1.0.flat in
    omega (arith, small)

pub overflow_add-child : goal.overflow_add-child
overflow_add-child c =
    let small : c.args.i < 512 = index-small c.args.h (c.args.l + 1) c.args.i c.requires.1.1.0 c.requires.1.0.flat in
    omega (arith, small)

pub current-content-requires : goal.current-content-requires
current-content-requires c =
    let inside : InMap c.args.h (node c.args.l (8 * c.args.i + c.loop-k.k)) = child-node c.args.h c.args.l c.args.i c.requires.1.1.0 _ (omega arith) in
    (c.requires.1.0, inside)

pub node_tag-tag-requires : goal.node_tag-tag-requires
node_tag-tag-requires c =
    let inside : InMap c.args.h (node c.args.l (8 * c.args.i + c.loop-k.k)) = child-node c.args.h c.args.l c.args.i c.requires.1.1.0 _ (omega arith) in
    (c.requires.0, ap length c.current-content.ensures ∙ current-length c.args.l _ c.requires.1.0 inside)

pub loop-k-preserved : goal.loop-k-preserved
loop-k-preserved c =
    tagged-next c.args.keys.now c.args.l _ c.args.i c.args.out.now c.requires.1.1.1 c.loop-k.invariant
    c.loop-k-test.true c.current-content.ensures c.node_tag-tag.ensures c.store.ensures c.store.auto.s

pub returns : goal.returns
returns c =
    let all : c.loop-k.k ≡ 8 = omega arith in
    tagged-all c.args.keys.now c.args.l _ c.args.i c.args.out.now c.requires.1.1.1 c.loop-k.invariant all
