-- `fresh_tree::put_node` stores the tags of the eight children, one by one. Assumes nothing.
use mathlib.Core.Path.{◌≡◌, ap, ◌∙◌}
use Prim.Native.Nat.{ℕ, ◌+◌, ◌*◌, ◌≤◌, ◌<◌}
use native.Mathlib.Omega.{arith}
use lib.ListN.{length}
use Rattle.words.specs.Bytes.{put}
use Rattle.memory_map.specs.Map.{InMap, cell_of}
use Rattle.memory_map.specs.Map.Item.{node}
use Rattle.memory_map.proofs.Laws.{cell-small, in-map-node, child-node, index-small}
use Rattle.cache.specs.Cache.{cell_content}
use Rattle.cache.proofs.Laws.{cell-length}
use Rattle.node.proofs.Laws.{cell_room}
use Rattle.calls.specs.Path.{tags_from}
use Rattle.fresh_tree.proofs.Fronts.{lying, tagged-none, tagged-next}
use Rattle.fresh_tree.proofs.put_node.Goals as goal

pub overflow_add-l : goal.overflow_add-l
overflow_add-l c = omega (arith, (in-map-node c.args.h (c.args.l + 1) c.args.i c.requires.1).0, c.requires.0.flat)

pub overflow_mul-at : goal.overflow_mul-at
overflow_mul-at c = omega (arith, cell-small _ c.node_cell-at.ensures c.requires.1 c.requires.0.flat)

pub loop-k-init : goal.loop-k-init
loop-k-init c = tagged-none c.args.h c.args.l c.args.i c.requires.1 c.args.keys.now c.args.array.now c.requires.0.array

pub overflow_mul-child : goal.overflow_mul-child
overflow_mul-child c =
    let few : c.args.i < 512 = index-small c.args.h (c.args.l + 1) c.args.i c.requires.1 c.requires.0.flat in
    omega (arith, few)

pub overflow_add-child : goal.overflow_add-child
overflow_add-child c =
    let few : c.args.i < 512 = index-small c.args.h (c.args.l + 1) c.args.i c.requires.1 c.requires.0.flat in
    omega (arith, few)

pub node_cell-requires : goal.node_cell-requires
node_cell-requires c =
    let inside : (j : ℕ) → j < 8 * c.args.i + 8 → InMap c.args.h (node c.args.l j) = child-node c.args.h c.args.l c.args.i c.requires.1 in
    (c.requires.0.deep, (c.requires.0.flat, inside _ (omega arith)))

pub in_cell-content-requires : goal.in_cell-content-requires
in_cell-content-requires c =
    let inside : (j : ℕ) → j < 8 * c.args.i + 8 → InMap c.args.h (node c.args.l j) = child-node c.args.h c.args.l c.args.i c.requires.1 in
    rw c.node_cell.ensures (cell_room _ c.loop-k.array _ _ c.loop-k.invariant.full (inside _ (omega arith)))

pub node_tag-tag-requires : goal.node_tag-tag-requires
node_tag-tag-requires c =
    let inside : (j : ℕ) → j < 8 * c.args.i + 8 → InMap c.args.h (node c.args.l j) = child-node c.args.h c.args.l c.args.i c.requires.1 in (
      c.requires.0.keys_length,
      ap length (c.in_cell-content.ensures ∙ ap (cell_content c.loop-k.array) c.node_cell.ensures)
          ∙ cell-length c.args.h c.loop-k.array _ c.loop-k.invariant.full (inside _ (omega arith)),
    )

pub overflow_add-at : goal.overflow_add-at
overflow_add-at c =
    let room : 72 * c.node_cell-at.result + 72 ≤ length c.loop-k.array = rw c.node_cell-at.ensures
    (cell_room c.args.h c.loop-k.array (c.args.l + 1) c.args.i c.loop-k.invariant.full c.requires.1) in
    omega (arith, room)

pub store-requires : goal.store-requires
store-requires c =
    let room : 72 * c.node_cell-at.result + 72 ≤ length c.loop-k.array = rw c.node_cell-at.ensures
    (cell_room c.args.h c.loop-k.array (c.args.l + 1) c.args.i c.loop-k.invariant.full c.requires.1) in
    omega (arith, room)

pub loop-k-preserved : goal.loop-k-preserved
loop-k-preserved c =
    tagged-next c.args.h c.args.l c.args.i c.requires.1 c.args.keys.now c.args.array.now c.requires.0.array
    c.loop-k.invariant (omega arith) c.node_cell-at.ensures c.node_cell.ensures c.in_cell-content.ensures
    c.node_tag-tag.ensures c.store.ensures c.store.auto.s

pub returns : goal.returns
returns c =
    let all : c.loop-k.k ≡ 8 = omega arith in
    c.loop-k.invariant.bytes
    ∙ ap (λ (n : ℕ). put c.args.array.now (72 * cell_of c.args.h (node (c.args.l + 1) c.args.i))
    (tags_from c.args.keys.now c.args.l (lying c.args.h c.args.array.now c.args.l) (8 * c.args.i) n)) all
