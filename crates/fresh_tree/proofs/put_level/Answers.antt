-- `fresh_tree::put_level` writes a level, node by node. Assumes nothing.
use mathlib.Core.Path.{◌≡◌, sym, ap, ◌∙◌}
use Prim.Native.Nat.{ℕ, suc, ◌+◌}
use native.Mathlib.Omega.{arith}
use Rattle.memory_map.specs.Map.{InMap, nodes, level_start}
use Rattle.memory_map.specs.Map.Item.{node}
use Rattle.memory_map.proofs.Laws.{level-next}
use Rattle.fresh_tree.specs.Front.{fresh_front}
use Rattle.fresh_tree.proofs.Fronts.{resized, node-next}
use Rattle.fresh_tree.proofs.put_level.Goals as goal

pub loop-i-init : goal.loop-i-init
loop-i-init c =
    let none : level_start c.args.h (c.args.l + 1) ≡ level_start c.args.h (c.args.l + 1) + 0 = omega arith in
    (c.requires.array_value ∙ ap (fresh_front c.args.keys.now c.args.h) none, c.requires.sized.0.array)

pub put_node-requires : goal.put_node-requires
unfolding InMap
put_node-requires c =
    let inside : InMap c.args.h (node (c.args.l + 1) c.loop-i.i) = (c.requires.sized.1, omega (arith, c.nodes-i-end.ensures)) in
    (resized c.requires.sized.0 c.loop-i.invariant.1, inside)

pub loop-i-preserved : goal.loop-i-preserved
unfolding InMap
loop-i-preserved c =
    let inside : InMap c.args.h (node (c.args.l + 1) c.loop-i.i) = (c.requires.sized.1, omega (arith, c.nodes-i-end.ensures)) in (
      node-next c.args.h c.args.l c.loop-i.i inside c.args.keys.now c.loop-i.invariant.0 c.put_node.ensures,
      c.put_node.auto.array ∙ c.loop-i.invariant.1,
    )

pub returns : goal.returns
returns c =
    let all : c.loop-i.i ≡ nodes c.args.h (c.args.l + 1) = omega (arith, c.nodes-i-end.ensures) in
    let two : suc (c.args.l + 1) ≡ c.args.l + 2 = omega arith in
    c.loop-i.invariant.0
    ∙ ap (fresh_front c.args.keys.now c.args.h)
    (ap (λ (n : ℕ). level_start c.args.h (c.args.l + 1) + n) all ∙ sym (level-next c.args.h (c.args.l + 1)) ∙ ap (level_start c.args.h) two)
