-- `memory_map::level_start` meets its contract. Assumes nothing.
use Prim.Native.Nat.{◌*◌, ◌-◌}
use native.Mathlib.Omega.{arith}
use Rattle.memory_map.proofs.Laws.{ones_small, ones-fit, lines-small, level-ones}
use Rattle.memory_map.proofs.level_start.Goals as goal

pub overflow_add-result : goal.overflow_add-result
overflow_add-result c = omega (arith, ones_small (9 - 3 * c.args.h), lines-small c.lines.ensures (omega (arith, c.requires.1.0)))

pub overflow_sub-result-3 : goal.overflow_sub-result-3
overflow_sub-result-3 c = ones-fit _ _ _

pub returns : goal.returns
returns c = omega (arith, level-ones c.args.h c.args.l c.requires.1.0 c.requires.1.1, c.lines.ensures)
