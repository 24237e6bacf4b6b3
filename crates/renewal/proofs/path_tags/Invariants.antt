use Rattle.renewal.proofs.Tagging.{Tagging}
use Rattle.renewal.proofs.path_tags.Given as goal

abbrev pub invariant-loop-l : goal.invariant-loop-l
invariant-loop-l l = Tagging l.h l.keys l.array l.cache l.p l.block l.tags l.tag l.l
