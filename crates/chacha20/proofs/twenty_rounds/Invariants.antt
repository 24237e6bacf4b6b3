use Rattle.std.proofs.Common.{◌≡◌}
use Rattle.chacha20.specs.ChaCha20.{rounds}
use Rattle.chacha20.specs.Rows.{flat}
use Rattle.chacha20.proofs.twenty_rounds.Given as goal

abbrev pub invariant-loop-i : goal.invariant-loop-i
invariant-loop-i l = flat l.t ≡ rounds l._i (flat l.initial.t)
