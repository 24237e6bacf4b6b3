-- `path::expected` meets its contract. Assumes nothing.
use mathlib.Core.Path.{ap, ◌∙◌}
use Prim.Native.Nat.{◌+◌}
use native.Mathlib.Omega.{arith}
use lib.ListN.{length}
use Rattle.memory_map.specs.Map.{InMap}
use Rattle.memory_map.specs.Map.Item.{node}
use Rattle.node.proofs.Laws.{current-length}
use Rattle.path.proofs.Laws.{path-inside, expected-top, expected-child}
use Rattle.path.proofs.expected.Goals as goal

pub returns-then-l-h : goal.returns-then-l-h
returns-then-l-h c = expected-top c.args.h c.args.array.now c.args.cache.now c.args.root c.args.p c.args.l c.if-l-h.true

pub current-parent-requires : goal.current-parent-requires
current-parent-requires c =
    let parent : InMap c.args.h (node (c.args.l + 1) c.on_path.result) = path-inside c.requires.1.0 (omega arith) c.on_path.ensures in
    (c.requires.0, parent)

pub load-requires : goal.load-requires
load-requires c =
    let parent : InMap c.args.h (node (c.args.l + 1) c.on_path.result) = path-inside c.requires.1.0 (omega arith) c.on_path.ensures in
    omega (arith, ap length c.current-parent.ensures ∙ current-length _ _ c.requires.0 parent)

pub returns : goal.returns
returns c =
    c.load.ensures
    ∙ expected-child c.args.h c.args.array.now c.args.cache.now c.args.root c.args.p c.args.l c.if-l-h.false _ c.on_path.result
    c.child_place.result
    c.on_path.ensures c.current-parent.ensures c.child_place.ensures
