-- `commands::finish` meets its contract. Assumes nothing.
use mathlib.Core.Path.{sym, ap, ◌∙◌}
use borrow.Author.Rules.{rules}
use Rattle.commands.specs.Machine.{found}
use Rattle.commands.proofs.finish.Goals as goal

pub returns-in-Start : goal.returns-in-Start
unfolding found
returns-in-Start c = search rules

pub returns-in-Letter : goal.returns-in-Letter
unfolding found
returns-in-Letter c = c.no_number.ensures ∙ ap found (sym c.in-Letter.is)

pub returns-in-First : goal.returns-in-First
unfolding found
returns-in-First c = c.end_first.ensures ∙ ap found (sym c.in-First.is)

pub returns-in-Second : goal.returns-in-Second
unfolding found
returns-in-Second c = c.end_second.ensures ∙ ap found (sym c.in-Second.is)

pub returns-in-Other : goal.returns-in-Other
unfolding found
returns-in-Other c = search rules
