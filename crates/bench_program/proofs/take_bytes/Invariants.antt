use Rattle.std.proofs.Common.{◌≡◌, drop}
use Rattle.bench_session.specs.Session.{bytes_taken}
use Rattle.lent.specs.Lent.{Same}
use Rattle.bench_program.specs.State.{state_in}
use Rattle.bench_program.proofs.take_bytes.Given as goal

abbrev pub invariant-loop-b : goal.invariant-loop-b
invariant-loop-b g l =
    (bytes_taken l.initial.m.keys.now (state_in l.state l.m) (drop l.b-index l.input)
    ≡ bytes_taken l.initial.m.keys.now (state_in l.initial.state l.initial.m) l.input) × Same l.initial.m l.m
