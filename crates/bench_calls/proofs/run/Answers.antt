-- `bench_calls::run` meets its contract. Assumes nothing.
use Rattle.lent.specs.Lent.{module_of}
use Rattle.bench_session.proofs.Laws.{told-run}
use Rattle.bench_calls.proofs.run.Goals as goal

pub returns-clause-line_after : goal.returns-clause-line_after
returns-clause-line_after c =
    told-run c.args.m.now.keys.now c.args.command c.args.allowance (module_of c.args.m.now) c.call-outcome.ensures.ran c.settle.ensures
    c.print.ensures.0
