use Rattle.std.proofs.Common.{◌≡◌, map}
use Rattle.words.specs.Bytes.{part, put}
use Rattle.counter.specs.Counter.{turned_minor}
use Rattle.turn_block.proofs.turn_minors.Given as goal

abbrev pub invariant-loop-j : goal.invariant-loop-j
invariant-loop-j l = l.out ≡ put l.initial.out 0 (part (map turned_minor l.minors) 0 l.j)
