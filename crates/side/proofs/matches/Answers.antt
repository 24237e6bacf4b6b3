-- `side::matches` meets its contract. Assumes nothing.
use mathlib.Core.Path.{ap₂}
use lib.Dec.{eqb}
use Rattle.side.specs.Side.{side_fits}
use Rattle.side.proofs.matches.Goals as goal

pub returns : goal.returns
unfolding side_fits
returns c = ap₂ eqb c.load.ensures c.word.ensures
