-- `candidates::also` meets its contract. Assumes nothing.
use mathlib.Core.Path.{sym, ap}
use mathlib.Core.Bool.{true}
use Rattle.candidates.specs.declared.Choice.{Choice}
use Rattle.candidates.specs.Candidates.{also}
use Rattle.candidates.proofs.also.Goals as goal

pub returns-in-None : goal.returns-in-None
unfolding also
returns-in-None c = sym (ap (λ (x : Choice). also x c.args.v true) c.in-None.is)

pub returns-in-Only : goal.returns-in-Only
unfolding also
returns-in-Only c = sym (ap (λ (x : Choice). also x c.args.v true) c.in-Only.is)

pub returns-in-Several : goal.returns-in-Several
unfolding also
returns-in-Several c = sym (ap (λ (x : Choice). also x c.args.v true) c.in-Several.is)
