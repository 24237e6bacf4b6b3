-- `bench_program::take_byte` meets its contract. Assumes nothing.
use Rattle.std.proofs.Common.{ap, ◌∙◌, arith}
use Rattle.commands.specs.declared.Parser.{Parser}
use Rattle.bench_session.specs.Session.{state_of}
use Rattle.bench_session.proofs.Laws.{newline, no-newline}
use Rattle.bench_program.specs.State.{state_in}
use Rattle.bench_program.proofs.take_byte.Goals as goal

pub returns-then-b-eq10-clause-state : goal.returns-then-b-eq10-clause-state
returns-then-b-eq10-clause-state g c =
    let a = c.args in
    c.end_line.ensures.state
    ∙ newline a.m.now.keys.now (state_in a.session a.m.now) a.b (omega (arith, c.if-b-eq10.true))

pub returns-clause-state : goal.returns-clause-state
returns-clause-state g c =
    let a = c.args in
    let m = a.m.now in
    ap (λ (p : Parser). state_of p a.session.allowance m.array.now m.control.now m.cache.now) c.step.ensures
    ∙ no-newline m.keys.now (state_in a.session m) a.b c.if-b-eq10.false
