use Rattle.counter.specs.Counter.{counter_block}
use Rattle.minors.proofs.Groups.{Packed}
use Rattle.minors.proofs.pack.Given as goal

abbrev pub invariant-loop-g : goal.invariant-loop-g
invariant-loop-g l = Packed (counter_block l.major l.minors) l.initial.out l.at l.out l.word l.g
