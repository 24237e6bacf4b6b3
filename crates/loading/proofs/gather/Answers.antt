-- `loading::gather` meets its contract. Assumes nothing.
use mathlib.Core.Path.{sym, ap, ◌∙◌, subst}
use Prim.Native.Nat.{ℕ, ◌+◌, ◌-◌, ◌≤◌}
use native.Mathlib.Omega.{arith}
use lib.ListN.{length}
use Rattle.memory_map.specs.Map.{InMap}
use Rattle.memory_map.specs.Map.Item.{node}
use Rattle.cache.specs.Cache.{holds}
use Rattle.node.proofs.Laws.{Slotted, slotted}
use Rattle.call_laws.specs.Walk.{node_cells}
use Rattle.path.proofs.Laws.{path-inside}
use Rattle.loading.proofs.Laws.{gathering-room, gathering-held, gathering-more, gathering-all}
use Rattle.loading.proofs.gather.Goals as goal

pub holds-requires : goal.holds-requires
holds-requires c =
    let inside : InMap c.args.h (node (c.loop-n.n - 1) c.on_path-i.result) = path-inside c.requires.le_h.1.1.1.1 (omega arith) c.on_path-i.ensures in
    let found : Slotted c.args.h (c.loop-n.n - 1) c.on_path-i.result c.args.cache.now = slotted _ _ _ _ c.requires.le_h.1.0 c.requires.le_h.1.1.0 inside in
    let n = found in (n.level, (n.word, n.slot))

pub gather_node-k-requires : goal.gather_node-k-requires
gather_node-k-requires c =
    let inside : InMap c.args.h (node (c.loop-n.n - 1) c.on_path-i.result) = path-inside c.requires.le_h.1.1.1.1 (omega arith) c.on_path-i.ensures in
    record {
      le_h = (c.requires.le_h.0, (c.requires.le_h.1.0, (c.requires.le_h.1.1.0, (c.requires.le_h.1.1.1.0, inside))));
      i_value = (
        sym c.holds.ensures ∙ c.if-not-holds.true,
        (
          c.loop-n.invariant.1 ∙ c.requires.control_len.0,
          subst (λ (i : ℕ). c.loop-n.k + length
              (node_cells c.args.h c.args.cache.now (c.loop-n.n - 1) i) ≤ 8)
              (sym c.on_path-i.ensures)
              (gathering-room c.args.h c.args.cache.now c.args.p c.args.allowance c.args.control.now
              c.loop-n.invariant.0 (omega arith) c.requires.control_len.1),
        ),
      );
    }

pub loop-n-preserved-then-not-holds : goal.loop-n-preserved-then-not-holds
loop-n-preserved-then-not-holds c = (
  gathering-more c.args.h c.args.cache.now c.args.p c.args.allowance c.args.control.now
      c.loop-n.invariant.0 (omega arith) c.gather_node-k.new.control
      c.gather_node-k.result c.on_path-i.result c.on_path-i.ensures c.gather_node-k.ensures.control_after
      c.gather_node-k.ensures.value,
  c.gather_node-k.auto.control ∙ c.loop-n.invariant.1,
)

pub loop-n-preserved : goal.loop-n-preserved
loop-n-preserved c = (
  gathering-held c.args.h c.args.cache.now c.args.p c.args.allowance c.args.control.now
      c.loop-n.invariant.0 (omega arith)
      (ap (holds c.args.cache.now (c.loop-n.n - 1)) (sym c.on_path-i.ensures) ∙ sym c.holds.ensures
      ∙ c.if-not-holds.false),
  c.loop-n.invariant.1,
)

pub returns : goal.returns
returns c = let r = gathering-all c.args.h c.args.cache.now c.args.p c.args.allowance c.args.control.now c.loop-n.invariant.0 (omega arith) in record { control_after = r.0; value = r.1 }
