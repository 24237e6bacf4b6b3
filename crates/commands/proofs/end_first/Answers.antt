-- `commands::end_first` meets its contract. Assumes nothing.
use mathlib.Core.Path.{sym, ap, ◌∙◌}
use borrow.Author.Rules.{rules}
use Rattle.decimal.specs.declared.Number.{Number}
use Rattle.commands.specs.Language.{given}
use Rattle.commands.specs.Machine.{one_number}
use Rattle.commands.proofs.end_first.Goals as goal

pub returns-in-Empty : goal.returns-in-Empty
unfolding given
returns-in-Empty c = search rules

pub returns-in-Value : goal.returns-in-Value
unfolding given
returns-in-Value c = c.one_number.ensures ∙ ap (λ (n : Number). given n (one_number c.args.letter)) (sym c.in-Value.is)

pub returns-in-Bad : goal.returns-in-Bad
unfolding given
returns-in-Bad c = search rules
