-- `parsing::second_part` meets its contract. Assumes nothing.
use mathlib.Core.Path.{sym, ap}
use Rattle.commands.specs.Machine.{second_part}
use Rattle.parsing.proofs.second_part.Goals as goal

pub returns-in-Empty : goal.returns-in-Empty
unfolding second_part
returns-in-Empty c = ap (second_part c.args.letter) (sym c.in-Empty.is)

pub returns-in-Value : goal.returns-in-Value
unfolding second_part
returns-in-Value c = ap (second_part c.args.letter) (sym c.in-Value.is)

pub returns-in-Bad : goal.returns-in-Bad
unfolding second_part
returns-in-Bad c = ap (second_part c.args.letter) (sym c.in-Bad.is)
