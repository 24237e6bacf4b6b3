-- `bench_calls::call_recover` meets its contract. Assumes nothing.
use mathlib.Core.Path.{ap}
use Rattle.calls.specs.Call.{Called}
use Rattle.bench_session.specs.Session.{ran}
use Rattle.bench_calls.proofs.call_recover.Goals as goal

pub returns-clause-ran : goal.returns-clause-ran
unfolding ran
returns-clause-ran c = ap (λ (x : Called). record { called = x; first = 0 }) c.recover-answer.ensures
