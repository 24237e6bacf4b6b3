-- `bench_session::allowance_after` meets its contract. Assumes nothing.
use mathlib.Core.Path.{sym, ap}
use Rattle.commands.specs.declared.Command.{Command}
use Rattle.bench_session.specs.Session.{allowance_after}
use Rattle.bench_session.proofs.allowance_after.Goals as goal

pub returns-in-Write : goal.returns-in-Write
unfolding allowance_after
returns-in-Write c = ap (λ (z : Command). allowance_after z c.args.allowance) (sym c.in-Write.is)

pub returns-in-Read : goal.returns-in-Read
unfolding allowance_after
returns-in-Read c = ap (λ (z : Command). allowance_after z c.args.allowance) (sym c.in-Read.is)

pub returns-in-Recover : goal.returns-in-Recover
unfolding allowance_after
returns-in-Recover c = ap (λ (z : Command). allowance_after z c.args.allowance) (sym c.in-Recover.is)

pub returns-in-Allow : goal.returns-in-Allow
unfolding allowance_after
returns-in-Allow c = ap (λ (z : Command). allowance_after z c.args.allowance) (sym c.in-Allow.is)

pub returns-in-Unknown : goal.returns-in-Unknown
unfolding allowance_after
returns-in-Unknown c = ap (λ (z : Command). allowance_after z c.args.allowance) (sym c.in-Unknown.is)
