use Rattle.std.proofs.Common.{◌≡◌, ◌-◌}
use Rattle.cache.specs.Cache.{owner, from, any_owner}
use Rattle.cache.proofs.all_empty.Given as goal

abbrev pub invariant-loop-s : goal.invariant-loop-s
invariant-loop-s l = any_owner (from (owner l.cache) 0 l.n) ≡ any_owner (from (owner l.cache) l.s (l.n - l.s))
