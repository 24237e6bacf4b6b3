-- `parsing::after_byte` meets its contract. Assumes nothing.
use mathlib.Core.Path.{sym, ap, ◌∙◌}
use Rattle.commands.specs.declared.Parser.{Parser}
use Rattle.commands.specs.declared.Parser.TheVariants.{First, Second}
use Rattle.commands.specs.Machine.{after_byte}
use Rattle.parsing.proofs.after_byte.Goals as goal

pub returns-in-Start : goal.returns-in-Start
unfolding after_byte
returns-in-Start c = ap (λ (z : Parser). after_byte z c.args.b) (sym c.in-Start.is)

pub returns-in-Letter : goal.returns-in-Letter
unfolding after_byte
returns-in-Letter c = ap (λ (z : Parser). after_byte z c.args.b) (sym c.in-Letter.is)

pub returns-in-First : goal.returns-in-First
unfolding after_byte
returns-in-First c =
    ap (First c.in-First.letter) c.with_digit.ensures
    ∙ ap (λ (z : Parser). after_byte z c.args.b) (sym c.in-First.is)

pub returns-in-Second : goal.returns-in-Second
unfolding after_byte
returns-in-Second c =
    ap (Second c.in-Second.letter c.in-Second.first) c.with_digit-in-Second.ensures
    ∙ ap (λ (z : Parser). after_byte z c.args.b) (sym c.in-Second.is)

pub returns-in-Other : goal.returns-in-Other
unfolding after_byte
returns-in-Other c = ap (λ (z : Parser). after_byte z c.args.b) (sym c.in-Other.is)
