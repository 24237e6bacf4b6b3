use mathlib.Core.Path.{◌≡◌}
use Prim.Native.Nat.{◌+◌}
use lib.ListN.{length}
use Rattle.memory_map.specs.Map.{level_start, array_length}
use Rattle.fresh_tree.specs.Front.{fresh_front}
use Rattle.fresh_tree.proofs.put_level.Given as goal

abbrev pub invariant-loop-i : goal.invariant-loop-i
invariant-loop-i l = (l.array ≡ fresh_front l.keys l.h (level_start l.h (l.l + 1) + l.i)) × (length l.array ≡ array_length l.h)
