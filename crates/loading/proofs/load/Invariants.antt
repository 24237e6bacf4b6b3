use Rattle.loading.proofs.Laws.{Loading}
use Rattle.loading.proofs.load.Given as goal

abbrev pub invariant-loop-n : goal.invariant-loop-n
invariant-loop-n l = Loading l.h l.array l.p l.initial.cache l.cache l.n
