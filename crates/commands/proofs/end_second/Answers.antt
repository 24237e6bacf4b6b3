-- `commands::end_second` meets its contract. Assumes nothing.
use mathlib.Core.Path.{sym, ap, ◌∙◌}
use borrow.Author.Rules.{rules}
use Rattle.decimal.specs.declared.Number.{Number}
use Rattle.commands.specs.Language.{given}
use Rattle.commands.specs.Machine.{two_numbers}
use Rattle.commands.proofs.end_second.Goals as goal

pub returns-in-Empty : goal.returns-in-Empty
unfolding given
returns-in-Empty c = search rules

pub returns-in-Value : goal.returns-in-Value
unfolding given
returns-in-Value c = c.two_numbers.ensures ∙ ap (λ (n : Number). given n (two_numbers c.args.letter c.args.first)) (sym c.in-Value.is)

pub returns-in-Bad : goal.returns-in-Bad
unfolding given
returns-in-Bad c = search rules
