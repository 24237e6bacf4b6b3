-- `rebuilding::rebuild_nodes` goes through the slots of the nodes. Assumes nothing.
use mathlib.Core.Path.{◌≡◌, refl, sym, ap, ◌∙◌}
use Prim.Native.Nat.{ℕ, ◌≤◌, ◌<◌}
use native.Mathlib.Omega.{arith}
use borrow.Author.Rules.{rules}
use lib.ListN.{length}
use Rattle.memory_map.specs.Map.{slots}
use Rattle.memory_map.proofs.Laws.{slots_small}
use Rattle.forwarding.proofs.Blocks.{placed-node, filled}
use Rattle.rebuilding.proofs.Nodes.{renewing-next, renewing-empty, renewing-all, nodes_from}
use Rattle.rebuilding.proofs.rebuild_nodes.Goals as goal
use Rattle.rebuilding.proofs.rebuild_nodes.Goals.{then-owner-ne0, else-owner-ne0}

pub loop-s-init : goal.loop-s-init
unfolding slots
loop-s-init c = record { full = c.requires.1.0.cache; rest = refl }

pub offset_bounds-owners-s : goal.offset_bounds-owners-s
offset_bounds-owners-s c =
    let fits : c.slots-s-end.result ≤ length c.args.owners = let size : length c.args.owners ≡ 10 = search rules in
    omega (arith, slots_small c.slots-s-end.ensures c.requires.1.0.flat) in
    omega (arith, fits)

pub bounds-owners-s : goal.bounds-owners-s
bounds-owners-s c = omega (arith, slots_small c.slots-s-end.ensures c.requires.1.0.flat)

pub put_node-requires : goal.put_node-requires
put_node-requires c =
    let within : c.loop-s.s < slots c.args.h = omega (arith, c.slots-s-end.ensures) in
    let inside = placed-node c.args.h c.args.owners c.requires.1.1 c.loop-s.s _ within refl c.if-owner-ne0.true in (
      c.requires.0,
      (
        record { deep = c.requires.1.0.deep; flat = c.requires.1.0.flat; array = c.requires.1.0.array; cache = c.loop-s.invariant.full },
        (omega arith, (within, inside)),
      ),
    )

pub loop-s-preserved : goal.loop-s-preserved
loop-s-preserved c =
    let fits : c.slots-s-end.result ≤ length c.args.owners = let size : length c.args.owners ≡ 10 = search rules in
    omega (arith, slots_small c.slots-s-end.ensures c.requires.1.0.flat) in
    elim c.if-owner-ne0.branch [
      | then-owner-ne0 w ↦
          renewing-next c.args.h c.args.keys.now c.args.array.now c.args.owners c.slots-s-end.result fits c.loop-s.invariant c.loop-s-test.true
          (sym (filled _ w.if-owner-ne0.true)) (w.image-is ∙ w.put_node.ensures)
          (ap length w.image-is ∙ w.put_node.auto.image ∙ c.loop-s.invariant.full)
      | else-owner-ne0 w ↦
          renewing-empty c.args.h c.args.keys.now c.args.array.now c.args.owners c.slots-s-end.result fits c.loop-s.invariant c.loop-s-test.true
          w.if-owner-ne0.false w.image-is
    ]

pub returns : goal.returns
returns c =
    renewing-all c.args.h c.args.keys.now c.args.array.now c.args.owners c.slots-s-end.result c.loop-s.invariant c.loop-s-test.false
    ∙ ap (λ (n : ℕ). nodes_from c.args.h c.args.keys.now c.args.array.now c.args.owners n 4 c.args.image.now) c.slots-s-end.ensures
