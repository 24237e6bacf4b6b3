-- `bench_calls::call_read` meets its contract. Assumes nothing.
use mathlib.Core.Path.{ap}
use Rattle.bench_session.specs.Session.{ran, read_to}
use Rattle.bench_calls.proofs.call_read.Goals as goal

pub returns-clause-ran : goal.returns-clause-ran
unfolding ran
returns-clause-ran c = ap read_to c.read-answer.ensures
