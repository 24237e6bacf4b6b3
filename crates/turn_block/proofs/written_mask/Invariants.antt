use Rattle.std.proofs.Common.{◌≡◌, map, drop}
use Rattle.words.specs.Bytes.{number}
use Rattle.counter.specs.Counter.{turned_minor}
use Rattle.turn_block.proofs.written_mask.Given as goal

abbrev pub invariant-loop-j : goal.invariant-loop-j
invariant-loop-j l = l.mask ≡ number 2 (drop l.j (map turned_minor l.minors))
