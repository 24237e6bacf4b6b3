use Rattle.path.proofs.Laws.{Walking}
use Rattle.path.proofs.walk.Given as goal

abbrev pub invariant-loop-n : goal.invariant-loop-n
invariant-loop-n l = Walking l.h l.keys l.array l.cache l.root l.p l.missing l.n
