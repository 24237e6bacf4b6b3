use Rattle.cache.specs.Cache.{current}
use Rattle.rebuilding.proofs.Nodes.{Tagged}
use Rattle.rebuilding.proofs.child_tags.Given as goal

abbrev pub invariant-loop-k : goal.invariant-loop-k
invariant-loop-k l = Tagged l.keys l.l (current l.h l.array l.image l.l) l.i l.initial.out l.out l.k
