use Rattle.std.proofs.Common.{◌≡◌, take, drop}
use Rattle.cache.specs.Cache.{any_owner}
use Rattle.shadow.proofs.any_owner.Given as goal

abbrev pub invariant-loop-s : goal.invariant-loop-s
invariant-loop-s l = any_owner (take l.n l.owners) ≡ any_owner (drop l.s (take l.n l.owners))
