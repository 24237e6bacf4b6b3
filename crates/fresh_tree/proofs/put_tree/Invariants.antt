use mathlib.Core.Path.{◌≡◌}
use Prim.Native.Nat.{◌+◌}
use lib.ListN.{length}
use Rattle.memory_map.specs.Map.{level_start, array_length}
use Rattle.fresh_tree.specs.Front.{fresh_front}
use Rattle.fresh_tree.proofs.put_tree.Given as goal

abbrev pub invariant-loop-l : goal.invariant-loop-l
invariant-loop-l l = (l.array ≡ fresh_front l.keys l.h (level_start l.h (l.l + 1))) × (length l.array ≡ array_length l.h)
