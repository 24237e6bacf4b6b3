-- `bench_program::read_input` meets its contract. Assumes nothing.
use Rattle.bench_session.proofs.Laws.{took-none}
use Rattle.bench_program.proofs.read_input.Goals as goal

pub returns-then-n-eq0-clause-took : goal.returns-then-n-eq0-clause-took
returns-then-n-eq0-clause-took g c = took-none _ _
