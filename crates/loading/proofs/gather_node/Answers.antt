-- `loading::gather_node` meets its contract. Assumes nothing.
use mathlib.Core.Path.{◌≡◌, sym, ap, ◌∙◌, subst}
use Prim.Native.Nat.{ℕ, ◌+◌, ◌-◌, ◌*◌, ◌<◌, ◌≤◌}
use native.Mathlib.Omega.{arith}
use lib.ListN.{length}
use Rattle.memory_map.specs.Map.{InMap, slots}
use Rattle.memory_map.specs.Map.Item.{node}
use Rattle.memory_map.proofs.Laws.{in-map-node}
use Rattle.slot_map.specs.Slots.{slot_of}
use Rattle.slot_map.proofs.Laws.{slot-within}
use Rattle.cache.specs.Cache.{owner, dirty}
use Rattle.cache.proofs.Laws.{formed-facts, dirty-owner, content-length}
use Rattle.node.proofs.Laws.{Slotted, slotted}
use Rattle.call_laws.specs.Walk.{node_cells}
use Rattle.loading.proofs.Laws.{gathered-clean, gathered-dirty, cells-some, cells-dirty}
use Rattle.loading.proofs.gather_node.Goals as goal

pub slot_of-s-requires : goal.slot_of-s-requires
slot_of-s-requires c =
    let placed : Slotted c.args.h c.args.l c.args.i c.args.cache.now = slotted _ _ _ _ c.requires.le_h.1.0 c.requires.le_h.1.1.0 c.requires.le_h.1.1.1.1 in
    placed.level

pub shadow_cell-shadow-requires : goal.shadow_cell-shadow-requires
unfolding InMap slots
shadow_cell-shadow-requires c =
    let level = (in-map-node c.args.h c.args.l c.args.i c.requires.le_h.1.1.1.1).0 in
    (c.requires.le_h.0, (c.requires.le_h.1.0, omega (arith, c.slot_of-s.ensures, slot-within c.args.h c.args.l c.args.i level)))

pub dirty-requires : goal.dirty-requires
dirty-requires c =
    let placed : Slotted c.args.h c.args.l c.args.i c.args.cache.now = slotted _ _ _ _ c.requires.le_h.1.0 c.requires.le_h.1.1.0 c.requires.le_h.1.1.1.1 in
    let room : 73 * c.slot_of-s.result + 73 ≤ length c.args.cache.now = omega (arith, c.slot_of-s.ensures, placed.slot) in
    room

pub overflow_add-i : goal.overflow_add-i
overflow_add-i c =
    let placed : Slotted c.args.h c.args.l c.args.i c.args.cache.now = slotted _ _ _ _ c.requires.le_h.1.0 c.requires.le_h.1.1.0 c.requires.le_h.1.1.1.1 in
    omega (arith, placed.word)

pub put_shadow-requires : goal.put_shadow-requires
put_shadow-requires c = (
  c.requires.i_value.1.0,
  omega (
    arith,
    c.requires.i_value.1.1,
    cells-some c.args.h c.args.cache.now c.args.l c.args.i c.requires.i_value.0,
  ),
)

pub returns-then-dirty-ne1 : goal.returns-then-dirty-ne1
returns-then-dirty-ne1 c =
    let g = gathered-clean c.args.h c.args.cache.now c.args.l c.args.i c.requires.i_value.0 c.args.allowance
    c.args.control.now c.args.n c.slot_of-s.result c.slot_of-s.ensures
    (λ e. c.if-dirty-ne1.true (c.dirty.ensures ∙ e)) c.put_shadow.new.control c.shadow_cell-shadow.result
    c.shadow_cell-shadow.ensures c.put_shadow.ensures in
    record { control_after = g.cells; value = g.number }

pub owner-requires : goal.owner-requires
owner-requires c =
    let placed : Slotted c.args.h c.args.l c.args.i c.args.cache.now = slotted _ _ _ _ c.requires.le_h.1.0 c.requires.le_h.1.1.0 c.requires.le_h.1.1.1.1 in
    let room : 73 * c.slot_of-s.result + 73 ≤ length c.args.cache.now = omega (arith, c.slot_of-s.ensures, placed.slot) in
    room

pub overflow_sub-former : goal.overflow_sub-former
overflow_sub-former c =
    let former : (0 < c.owner.result) × InMap c.args.h (node c.args.l (c.owner.result - 1)) = let e : c.owner.result ≡ owner c.args.cache.now (slot_of c.args.l c.args.i) = c.owner.ensures
    ∙ ap (owner c.args.cache.now) c.slot_of-s.ensures in
    let d : dirty c.args.cache.now (slot_of c.args.l c.args.i) ≡ 1 =
    ap (dirty c.args.cache.now) (sym c.slot_of-s.ensures) ∙ sym c.dirty.ensures ∙ c.if-dirty-ne1.false in
    subst (λ (o : ℕ). (0 < o) × InMap c.args.h (node c.args.l (o - 1))) (sym e)
    (dirty-owner c.args.h c.args.cache.now c.args.l c.args.i (formed-facts c.args.h c.args.cache.now c.requires.le_h.1.1.1.0)
    (in-map-node c.args.h c.args.l c.args.i c.requires.le_h.1.1.1.1).0 d) in
    former.0

pub in_slot-content-requires : goal.in_slot-content-requires
in_slot-content-requires c =
    let placed : Slotted c.args.h c.args.l c.args.i c.args.cache.now = slotted _ _ _ _ c.requires.le_h.1.0 c.requires.le_h.1.1.0 c.requires.le_h.1.1.1.1 in
    let room : 73 * c.slot_of-s.result + 73 ≤ length c.args.cache.now = omega (arith, c.slot_of-s.ensures, placed.slot) in
    room

pub node_cell-requires : goal.node_cell-requires
node_cell-requires c =
    let former : (0 < c.owner.result) × InMap c.args.h (node c.args.l (c.owner.result - 1)) = let e : c.owner.result ≡ owner c.args.cache.now (slot_of c.args.l c.args.i) = c.owner.ensures
    ∙ ap (owner c.args.cache.now) c.slot_of-s.ensures in
    let d : dirty c.args.cache.now (slot_of c.args.l c.args.i) ≡ 1 =
    ap (dirty c.args.cache.now) (sym c.slot_of-s.ensures) ∙ sym c.dirty.ensures ∙ c.if-dirty-ne1.false in
    subst (λ (o : ℕ). (0 < o) × InMap c.args.h (node c.args.l (o - 1))) (sym e)
    (dirty-owner c.args.h c.args.cache.now c.args.l c.args.i (formed-facts c.args.h c.args.cache.now c.requires.le_h.1.1.1.0)
    (in-map-node c.args.h c.args.l c.args.i c.requires.le_h.1.1.1.1).0 d) in
    (c.requires.le_h.0, (c.requires.le_h.1.0, former.1))

pub put_cell-requires : goal.put_cell-requires
put_cell-requires c =
    let placed : Slotted c.args.h c.args.l c.args.i c.args.cache.now = slotted _ _ _ _ c.requires.le_h.1.0 c.requires.le_h.1.1.0 c.requires.le_h.1.1.1.1 in
    let room : 73 * c.slot_of-s.result + 73 ≤ length c.args.cache.now = omega (arith, c.slot_of-s.ensures, placed.slot) in
    let two : length (node_cells c.args.h c.args.cache.now c.args.l c.args.i) ≡ 2 = cells-dirty c.args.h c.args.cache.now c.args.l c.args.i c.requires.i_value.0 c.slot_of-s.result c.slot_of-s.ensures
    (sym c.dirty.ensures ∙ c.if-dirty-ne1.false) in (
      c.requires.i_value.1.0,
      (
        omega (arith, c.requires.i_value.1.1, two),
        ap length c.in_slot-content.ensures ∙ content-length c.args.cache.now c.slot_of-s.result room,
      ),
    )

pub overflow_add-i-2 : goal.overflow_add-i-2
overflow_add-i-2 c =
    let placed : Slotted c.args.h c.args.l c.args.i c.args.cache.now = slotted _ _ _ _ c.requires.le_h.1.0 c.requires.le_h.1.1.0 c.requires.le_h.1.1.1.1 in
    omega (arith, placed.word)

pub put_shadow-requires-2 : goal.put_shadow-requires-2
put_shadow-requires-2 c =
    let two : length (node_cells c.args.h c.args.cache.now c.args.l c.args.i) ≡ 2 = cells-dirty c.args.h c.args.cache.now c.args.l c.args.i c.requires.i_value.0 c.slot_of-s.result c.slot_of-s.ensures
    (sym c.dirty.ensures ∙ c.if-dirty-ne1.false) in
    (c.put_cell.auto.control ∙ c.requires.i_value.1.0, omega (arith, c.requires.i_value.1.1, two))

pub returns : goal.returns
returns c =
    let g = gathered-dirty c.args.h c.args.cache.now c.args.l c.args.i c.requires.i_value.0 c.args.allowance
    c.args.control.now c.args.n c.slot_of-s.result c.slot_of-s.ensures
    (sym c.dirty.ensures ∙ c.if-dirty-ne1.false) c.put_cell.new.control c.put_shadow-2.new.control
    c.owner.result c.node_cell.result
    c.shadow_cell-shadow.result c.in_slot-content.result.now c.owner.ensures c.in_slot-content.ensures
    c.node_cell.ensures
    c.shadow_cell-shadow.ensures c.put_cell.ensures c.put_shadow-2.ensures in
    record { control_after = g.cells; value = g.number }
