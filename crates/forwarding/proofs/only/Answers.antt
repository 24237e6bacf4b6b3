-- `forwarding::only` meets its contract. Assumes nothing.
use mathlib.Core.Path.{sym, ap}
use Rattle.calls.specs.Recovery.{by_choice}
use Rattle.forwarding.specs.Rebuild.{as_step}
use Rattle.forwarding.proofs.only.Goals as goal

pub returns-in-None : goal.returns-in-None
unfolding as_step by_choice
returns-in-None c = sym (ap by_choice c.in-None.is)

pub returns-in-Only : goal.returns-in-Only
unfolding as_step by_choice
returns-in-Only c = sym (ap by_choice c.in-Only.is)

pub returns-in-Several : goal.returns-in-Several
unfolding as_step by_choice
returns-in-Several c = sym (ap by_choice c.in-Several.is)
