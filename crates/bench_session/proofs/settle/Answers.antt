-- `bench_session::settle` meets its contract. Assumes nothing.
use mathlib.Core.Path.{sym, ap, ◌∙◌}
use lib.ListN.{length, replicate, length-replicate}
use Rattle.words.proofs.Parts.{put_all}
use Rattle.answer.specs.declared.Answer.{Answer}
use Rattle.bench_session.specs.Session.{settled}
use Rattle.bench_session.proofs.Laws.{settled-else}
use Rattle.bench_session.proofs.settle.Goals as goal

pub returns-in-Cut : goal.returns-in-Cut
unfolding settled
returns-in-Cut c =
    c.zero.ensures ∙ put_all c.args.cache.now (replicate (length c.args.cache.now) 0) (length-replicate (length c.args.cache.now) 0)
    ∙ ap (λ (z : Answer). settled z c.args.cache.now) (sym c.in-Cut.is)

pub returns-in_default : goal.returns-in_default
returns-in_default c = settled-else c.args.answer c.args.cache.now c.in_default.not-Cut
