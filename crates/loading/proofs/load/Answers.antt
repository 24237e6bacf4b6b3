-- `loading::load` meets its contract. Assumes nothing.
use mathlib.Core.Path.{◌≡◌, sym, ap, ◌∙◌}
use mathlib.Core.Bool.{Bool, true, false}
use Prim.Native.Nat.{◌-◌}
use native.Mathlib.Omega.{arith}
use lib.ListN.{length}
use Rattle.memory_map.specs.Map.{on_path, InMap}
use Rattle.memory_map.specs.Map.Item.{node}
use Rattle.cache.specs.Cache.{holds, cell_content}
use Rattle.cache.proofs.Laws.{cell-length}
use Rattle.node.proofs.Laws.{Slotted, slotted, cell_room}
use Rattle.path.proofs.Laws.{path-inside}
use Rattle.loading.proofs.Laws.{loading-held, loading-more, loading-all}
use Rattle.loading.proofs.load.Goals as goal

pub holds-requires : goal.holds-requires
holds-requires c =
    let inside : InMap c.args.h (node (c.loop-n.n - 1) c.on_path-i.result) = path-inside c.requires.1 (omega arith) c.on_path-i.ensures in
    let found : Slotted c.args.h (c.loop-n.n - 1) c.on_path-i.result c.loop-n.cache = slotted _ _ _ _ c.requires.0.flat (c.loop-n.invariant.size ∙ c.requires.0.cache) inside in
    let n = found in (n.level, (n.word, n.slot))

pub node_cell-requires : goal.node_cell-requires
node_cell-requires c =
    let inside : InMap c.args.h (node (c.loop-n.n - 1) c.on_path-i.result) = path-inside c.requires.1 (omega arith) c.on_path-i.ensures in
    (c.requires.0.deep, (c.requires.0.flat, inside))

pub in_cell-content-requires : goal.in_cell-content-requires
in_cell-content-requires c =
    let inside : InMap c.args.h (node (c.loop-n.n - 1) c.on_path-i.result) = path-inside c.requires.1 (omega arith) c.on_path-i.ensures in
    omega (arith, c.node_cell.ensures, cell_room _ c.args.array.now _ _ c.requires.0.array inside)

pub overflow_add-i : goal.overflow_add-i
overflow_add-i c =
    let inside : InMap c.args.h (node (c.loop-n.n - 1) c.on_path-i.result) = path-inside c.requires.1 (omega arith) c.on_path-i.ensures in
    let found : Slotted c.args.h (c.loop-n.n - 1) c.on_path-i.result c.loop-n.cache = slotted _ _ _ _ c.requires.0.flat (c.loop-n.invariant.size ∙ c.requires.0.cache) inside in
    omega (arith, found.word)

pub put_slot-requires : goal.put_slot-requires
put_slot-requires c =
    let inside : InMap c.args.h (node (c.loop-n.n - 1) c.on_path-i.result) = path-inside c.requires.1 (omega arith) c.on_path-i.ensures in
    let found : Slotted c.args.h (c.loop-n.n - 1) c.on_path-i.result c.loop-n.cache = slotted _ _ _ _ c.requires.0.flat (c.loop-n.invariant.size ∙ c.requires.0.cache) inside in (
      omega (arith, c.slot_of.ensures, found.slot),
      ap length (c.in_cell-content.ensures ∙ ap (cell_content c.args.array.now) c.node_cell.ensures)
          ∙ cell-length c.args.h c.args.array.now _ c.requires.0.array inside,
    )

pub loop-n-preserved-then-not-holds : goal.loop-n-preserved-then-not-holds
loop-n-preserved-then-not-holds c =
    let held : (b : Bool) → c.holds.result ≡ b → holds c.loop-n.cache (c.loop-n.n - 1) (on_path c.args.p (c.loop-n.n - 1)) ≡ b = λ b e. ap (holds c.loop-n.cache (c.loop-n.n - 1))
    (sym c.on_path-i.ensures) ∙ sym c.holds.ensures ∙ e in
    loading-more c.args.h c.args.array.now c.args.p c.args.cache.now c.loop-n.invariant (omega arith)
    (held false c.if-not-holds.true)
    c.put_slot.new.cache c.on_path-i.result c.slot_of.result c.node_cell.result
    c.in_cell-content.result.now c.on_path-i.ensures
    c.slot_of.ensures c.node_cell.ensures c.in_cell-content.ensures c.put_slot.ensures
    c.put_slot.auto.cache

pub loop-n-preserved : goal.loop-n-preserved
loop-n-preserved c =
    let held : (b : Bool) → c.holds.result ≡ b → holds c.loop-n.cache (c.loop-n.n - 1) (on_path c.args.p (c.loop-n.n - 1)) ≡ b = λ b e. ap (holds c.loop-n.cache (c.loop-n.n - 1))
    (sym c.on_path-i.ensures) ∙ sym c.holds.ensures ∙ e in
    loading-held c.args.h c.args.array.now c.args.p c.args.cache.now c.loop-n.invariant (omega arith)
    (held true c.if-not-holds.false)

pub returns : goal.returns
returns c = loading-all c.args.h c.args.array.now c.args.p c.args.cache.now c.loop-n.invariant (omega arith)
