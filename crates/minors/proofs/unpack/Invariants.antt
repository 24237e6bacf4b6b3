use Rattle.std.proofs.Common.{◌≡◌, ◌*◌}
use Rattle.words.specs.Bytes.{part, put}
use Rattle.counter.specs.Counter.{minors}
use Rattle.minors.proofs.unpack.Given as goal

abbrev pub invariant-loop-g : goal.invariant-loop-g
invariant-loop-g l = l.out ≡ put l.initial.out 0 (part (minors l.block) 0 (8 * l.g))
