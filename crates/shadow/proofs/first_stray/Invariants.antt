use Rattle.std.proofs.Common.{◌≡◌, take, drop}
use Rattle.memory_map.specs.Map.{slots}
use Rattle.cache.specs.Cache.{stray}
use Rattle.shadow.proofs.first_stray.Given as goal

abbrev pub invariant-loop-s : goal.invariant-loop-s
invariant-loop-s l = stray l.h 0 (take (slots l.h) l.owners) ≡ stray l.h l.s (drop l.s (take (slots l.h) l.owners))
