use Rattle.fresh_tree.proofs.Fronts.{Tagged}
use Rattle.fresh_tree.proofs.put_node.Given as goal

abbrev pub invariant-loop-k : goal.invariant-loop-k
invariant-loop-k l = Tagged l.h l.l l.i l.keys l.initial.array l.array l.k
