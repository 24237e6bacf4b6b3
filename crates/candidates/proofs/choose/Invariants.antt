use mathlib.Core.Path.{◌≡◌}
use Prim.Native.Nat.{◌+◌, ◌-◌}
use Rattle.candidates.specs.Candidates.{candidate, each, choice, chosen as chosen_of}
use Rattle.candidates.proofs.choose.Given as goal

abbrev pub invariant-loop-k : goal.invariant-loop-k
invariant-loop-k l =
    choice l.keys l.cell l.line l.major l.minor
    ≡ chosen_of l.chosen (l.minor + l.k) (each (candidate l.keys l.cell l.line l.major) (l.minor + l.k) (4 - l.k))
