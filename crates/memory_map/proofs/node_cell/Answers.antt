-- `memory_map::node_cell` meets its contract. Assumes nothing.
use mathlib.Core.Path.{refl, ◌∙◌, ap}
use Prim.Native.Nat.{ℕ, ◌+◌}
use native.Mathlib.Omega.{arith}
use Rattle.memory_map.proofs.Laws.{in-map-node, start_small, nodes-small, node-cell}
use Rattle.memory_map.proofs.node_cell.Goals as goal

pub level_start-requires : goal.level_start-requires
level_start-requires c =
    let m = in-map-node c.args.h c.args.l c.args.i c.requires.1.1 in
    omega arith

pub overflow_add-result : goal.overflow_add-result
overflow_add-result c =
    let m = in-map-node c.args.h c.args.l c.args.i c.requires.1.1 in
    omega (arith, start_small c.level_start.ensures c.requires.1.0 (omega (arith, m.0)), nodes-small {h = c.args.h} c.args.l refl c.requires.1.0)

pub returns : goal.returns
returns c = ap (λ (n : ℕ). n + c.args.i) c.level_start.ensures ∙ node-cell c.args.h c.args.l c.args.i
