-- `parsing::after_space` meets its contract. Assumes nothing.
use mathlib.Core.Path.{sym, ap, ◌∙◌}
use Rattle.commands.specs.Machine.{after_space}
use Rattle.parsing.proofs.after_space.Goals as goal

pub returns-in-Start : goal.returns-in-Start
unfolding after_space
returns-in-Start c = ap after_space (sym c.in-Start.is)

pub returns-in-Letter : goal.returns-in-Letter
unfolding after_space
returns-in-Letter c = ap after_space (sym c.in-Letter.is)

pub returns-in-First : goal.returns-in-First
unfolding after_space
returns-in-First c = c.second_part.ensures ∙ ap after_space (sym c.in-First.is)

pub returns-in-Second : goal.returns-in-Second
unfolding after_space
returns-in-Second c = ap after_space (sym c.in-Second.is)

pub returns-in-Other : goal.returns-in-Other
unfolding after_space
returns-in-Other c = ap after_space (sym c.in-Other.is)
