-- `bench_program::end_line` meets its contract. Assumes nothing.
use Rattle.lent.specs.Lent.{module_of}
use Rattle.bench_session.proofs.Laws.{line-run}
use Rattle.bench_program.proofs.end_line.Goals as goal

pub returns-clause-state : goal.returns-clause-state
returns-clause-state g c =
    let a = c.args in
    line-run a.m.now.keys.now c.finish-command.result a.session.allowance (module_of a.m.now) a.session.parser
    c.finish-command.ensures c.run-n.ensures.line_after c.allowance_after.ensures
