-- `memory_map::nodes` meets its contract. Assumes nothing.
use Prim.Native.Nat.{◌-◌}
use native.Mathlib.Omega.{arith}
use Rattle.memory_map.specs.Map.{nodes}
use Rattle.memory_map.proofs.Laws.{shift-eight}
use Rattle.memory_map.proofs.nodes.Goals as goal

pub returns : goal.returns
unfolding nodes
returns c = shift-eight (c.args.h - c.args.l) (omega arith)
