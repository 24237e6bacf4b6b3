-- `copying::zero` meets its contract. Assumes nothing.
use Rattle.copying.proofs.zero.Goals as goal

pub returns : goal.returns
returns c = c.fill.ensures
