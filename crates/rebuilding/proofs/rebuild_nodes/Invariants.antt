use Rattle.rebuilding.proofs.Nodes.{Renewing}
use Rattle.rebuilding.proofs.rebuild_nodes.Given as goal

abbrev pub invariant-loop-s : goal.invariant-loop-s
invariant-loop-s l = Renewing l.h l.keys l.array l.owners l.s-end l.initial.image l.image l.s
