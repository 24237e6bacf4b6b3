-- `bench_calls::call` meets its contract. Assumes nothing.
use mathlib.Core.Path.{sym, ap, ◌∙◌}
use Rattle.lent.specs.Lent.{module_of}
use Rattle.commands.specs.declared.Command.{Command}
use Rattle.bench_session.specs.Session.{Ran, ran}
use Rattle.bench_calls.proofs.call.Goals as goal

pub returns-in-Write-clause-ran : goal.returns-in-Write-clause-ran
unfolding ran
returns-in-Write-clause-ran c =
    let ran_at : Command → Ran = λ z. ran c.args.m.now.keys.now z c.args.allowance (module_of c.args.m.now) in
    c.call_write.ensures.ran ∙ ap ran_at (sym c.in-Write.is)

pub returns-in-Read-clause-ran : goal.returns-in-Read-clause-ran
unfolding ran
returns-in-Read-clause-ran c =
    let ran_at : Command → Ran = λ z. ran c.args.m.now.keys.now z c.args.allowance (module_of c.args.m.now) in
    c.call_read.ensures.ran ∙ ap ran_at (sym c.in-Read.is)

pub returns-in-Recover-clause-ran : goal.returns-in-Recover-clause-ran
unfolding ran
returns-in-Recover-clause-ran c =
    let ran_at : Command → Ran = λ z. ran c.args.m.now.keys.now z c.args.allowance (module_of c.args.m.now) in
    c.call_recover.ensures.ran ∙ ap ran_at (sym c.in-Recover.is)

pub returns-in-Allow-clause-ran : goal.returns-in-Allow-clause-ran
unfolding ran
returns-in-Allow-clause-ran c =
    let ran_at : Command → Ran = λ z. ran c.args.m.now.keys.now z c.args.allowance (module_of c.args.m.now) in
    ap ran_at (sym c.in-Allow.is)

pub returns-in-Unknown-clause-ran : goal.returns-in-Unknown-clause-ran
unfolding ran
returns-in-Unknown-clause-ran c =
    let ran_at : Command → Ran = λ z. ran c.args.m.now.keys.now z c.args.allowance (module_of c.args.m.now) in
    ap ran_at (sym c.in-Unknown.is)
