use Rattle.std.proofs.Common.{◌≡◌, ◌*◌}
use Rattle.words.specs.Bytes.{part, put}
use Rattle.copying.proofs.copy_pairs.Given as goal

abbrev pub invariant-loop-i : goal.invariant-loop-i
invariant-loop-i l = l.dst ≡ put l.initial.dst l.to (part l.src l.from (16 * l.i))
