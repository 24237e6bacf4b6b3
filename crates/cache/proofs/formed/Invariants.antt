use Rattle.std.proofs.Common.{◌≡◌, ◌+◌, ◌-◌}
use mathlib.Core.Bool.{◌&&◌}
use Rattle.cache.specs.Cache.{formed}
use Rattle.cache.proofs.Levels.{levels, topped}
use Rattle.cache.proofs.formed.Given as goal

abbrev pub invariant-loop-l : goal.invariant-loop-l
invariant-loop-l l = formed l.h l.cache ≡ (levels l.h l.cache (l.l - 1) (l.h + 1 - l.l) && topped l.h l.cache)
