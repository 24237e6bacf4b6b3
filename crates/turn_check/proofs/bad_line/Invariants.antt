use mathlib.Core.Path.{◌≡◌}
use Rattle.bits.specs.Bits.{set_bits}
use Rattle.turn_check.specs.FirstBad.{first_bad}
use Rattle.turn_check.proofs.bad_line.Given as goal

abbrev pub invariant-loop-j : goal.invariant-loop-j
invariant-loop-j l =
    (first_bad l.family l.keys l.array l.p l.major l.minors (set_bits l.mask)
    ≡ first_bad l.family l.keys l.array l.p l.major l.minors (set_bits l.j-iterator.0))
    × (goal.iterator-loop-j.can_next l.j-iterator × goal.iterator-loop-j.is_finite l.j-iterator)
