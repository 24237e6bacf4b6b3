use mathlib.Core.Path.{◌≡◌}
use lib.ListN.{length}
use Rattle.loading.proofs.Laws.{Gathering}
use Rattle.loading.proofs.gather.Given as goal

abbrev pub invariant-loop-n : goal.invariant-loop-n
invariant-loop-n l = Gathering l.h l.cache l.p l.allowance l.initial.control l.control l.k l.n × (length l.control ≡ length l.initial.control)
