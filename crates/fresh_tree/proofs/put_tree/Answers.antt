-- `fresh_tree::put_tree` writes the tree, level by level. Assumes nothing.
use mathlib.Core.Path.{◌≡◌, ap, ◌∙◌}
use Prim.Native.Nat.{ℕ, suc, ◌+◌, ◌≤◌}
use native.Mathlib.Omega.{arith}
use Rattle.memory_map.specs.Map.{level_start}
use Rattle.memory_map.proofs.Laws.{level-mono, cells-shadow}
use Rattle.fresh_tree.specs.Front.{fresh_front}
use Rattle.fresh_tree.proofs.Fronts.{front-none, front-all}
use Rattle.fresh_tree.proofs.put_tree.Goals as goal

pub loop-l-init : goal.loop-l-init
loop-l-init c =
    let above : 1 ≤ suc c.args.h = omega arith in
    let front = front-none c.args.keys.now c.args.h (omega (arith, level-mono c.args.h 1 (suc c.args.h) above, cells-shadow c.args.h)) in
    (c.requires.1 ∙ front, c.requires.0.array)

pub loop-l-preserved : goal.loop-l-preserved
loop-l-preserved c =
    let next : c.loop-l.l + 2 ≡ c.loop-l.l + 1 + 1 = omega arith in (
      c.put_level.ensures ∙ ap (λ (n : ℕ). fresh_front c.args.keys.now c.args.h (level_start c.args.h n)) next,
      c.put_level.auto.array ∙ c.loop-l.invariant.1,
    )

pub returns : goal.returns
returns c =
    let all : c.loop-l.l + 1 ≡ suc c.args.h = omega arith in
    c.loop-l.invariant.0 ∙ ap (λ (n : ℕ). fresh_front c.args.keys.now c.args.h (level_start c.args.h n)) all
    ∙ front-all c.args.keys.now c.args.h
