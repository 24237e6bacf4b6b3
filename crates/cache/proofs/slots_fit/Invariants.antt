use Rattle.std.proofs.Common.{◌≡◌, ◌+◌, ◌-◌}
use Rattle.cache.specs.Fits.{all_fit}
use Rattle.cache.proofs.slots_fit.Given as goal

abbrev pub invariant-loop-k : goal.invariant-loop-k
invariant-loop-k l = all_fit l.l l.nodes l.cache l.first l.n ≡ all_fit l.l l.nodes l.cache (l.first + l.k) (l.n - l.k)
