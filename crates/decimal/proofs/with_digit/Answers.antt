-- `decimal::with_digit` meets its contract. Assumes nothing.
use mathlib.Core.Path.{sym, ap, ◌∙◌}
use Rattle.decimal.specs.declared.Number.{Number}
use Rattle.decimal.specs.Decimal.{with_digit}
use Rattle.decimal.proofs.with_digit.Goals as goal

pub returns-in-Empty : goal.returns-in-Empty
unfolding with_digit
returns-in-Empty c = c.digit_after.ensures ∙ ap (λ (z : Number). with_digit z c.args.b) (sym c.in-Empty.is)

pub returns-in-Value : goal.returns-in-Value
unfolding with_digit
returns-in-Value c = c.digit_after-in-Value.ensures ∙ ap (λ (z : Number). with_digit z c.args.b) (sym c.in-Value.is)

pub returns-in-Bad : goal.returns-in-Bad
unfolding with_digit
returns-in-Bad c = ap (λ (z : Number). with_digit z c.args.b) (sym c.in-Bad.is)
