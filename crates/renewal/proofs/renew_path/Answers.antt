-- `renewal::renew_path` meets its contract. Assumes nothing.
use mathlib.Core.Path.{◌≡◌, refl, sym, ap, ◌∙◌}
use Prim.Native.Nat.{◌+◌, zero-le}
use native.Mathlib.Omega.{arith}
use lib.ListN.{length}
use Rattle.memory_map.proofs.Laws.{nodes-small, nodes-bottom}
use Rattle.slot_map.proofs.Laws.{slot-within}
use Rattle.slot_map.specs.Slots.{cache_length}
use Rattle.cache.proofs.Laws.{slot-room}
use Rattle.renewal.specs.Renewed.{renewed_by}
use Rattle.renewal.proofs.Renewing.{renewed-length, renew-first, renew-next}
use Rattle.renewal.proofs.renew_path.Goals as goal

pub overflow_add-p : goal.overflow_add-p
overflow_add-p c = omega (arith, c.requires.le_h.1.1.1.0, nodes-small 0 (sym (nodes-bottom c.args.h)) c.requires.le_h.1.0)

pub put_slot-requires : goal.put_slot-requires
put_slot-requires c = (
  slot-room c.args.h c.slot_of.result c.args.cache.now c.requires.le_h.1.1.0
      (omega (arith, c.slot_of.ensures, slot-within c.args.h 0 c.args.p zero-le)),
  c.requires.le_h.1.1.1.1,
)

pub renew_slot-requires : goal.renew_slot-requires
renew_slot-requires c =
    let renewed : c.loop-l.cache ≡ renewed_by c.args.cache.now c.args.p c.args.block.now c.args.flag c.args.tags c.loop-l.l = c.loop-l.invariant.1 c.args.cache.now c.requires.le_h.1.1.0 c.requires.by_index
    (c.put_slot.ensures
    ∙ renew-first c.args.h c.args.cache.now c.requires.le_h.1.1.0 c.args.p c.args.block.now c.requires.le_h.1.1.1.1 c.args.flag c.args.tags
    c.slot_of.result c.slot_of.ensures) in
    let size : length c.loop-l.cache ≡ cache_length c.args.h = ap length renewed
    ∙ renewed-length c.args.h c.args.cache.now c.requires.le_h.1.1.0 c.args.p c.args.block.now c.requires.le_h.1.1.1.1 c.args.flag c.args.tags
    c.loop-l.l c.loop-l.invariant.0 in (
      slot-room c.args.h c.slot_of-s.result c.loop-l.cache size
          (omega (
            arith,
            c.slot_of-s.ensures,
            slot-within c.args.h (c.loop-l.l + 1) c.on_path.result
                (omega (arith, c.loop-l-test.true)),
          )),
      omega arith,
    )

pub loop-l-preserved : goal.loop-l-preserved
loop-l-preserved c = (
  omega (arith, c.loop-l-test.true),
  λ x sized held e.
      c.renew_slot.ensures
      ∙ renew-next c.args.h x sized c.args.p c.args.block.now c.requires.le_h.1.1.1.1 c.args.flag c.args.tags c.loop-l.l
      (omega (arith, c.loop-l-test.true)) held c.loop-l.cache (c.loop-l.invariant.1 x sized held e)
      c.on_path.result c.slot_of-s.result c.child_place.result _ c.on_path.ensures
      c.slot_of-s.ensures c.child_place.ensures refl,
)

pub returns : goal.returns
returns c =
    let renewed : c.loop-l.cache ≡ renewed_by c.args.cache.now c.args.p c.args.block.now c.args.flag c.args.tags c.loop-l.l = c.loop-l.invariant.1 c.args.cache.now c.requires.le_h.1.1.0 c.requires.by_index
    (c.put_slot.ensures
    ∙ renew-first c.args.h c.args.cache.now c.requires.le_h.1.1.0 c.args.p c.args.block.now c.requires.le_h.1.1.1.1 c.args.flag c.args.tags
    c.slot_of.result c.slot_of.ensures) in
    let all : c.loop-l.l ≡ c.args.h = omega (arith, c.loop-l.invariant.0, c.loop-l-test.false) in
    renewed ∙ ap (renewed_by c.args.cache.now c.args.p c.args.block.now c.args.flag c.args.tags) all
