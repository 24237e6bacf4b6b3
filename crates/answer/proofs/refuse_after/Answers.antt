-- `answer::refuse_after` meets its contract. Assumes nothing.
use mathlib.Core.Path.{refl}
use Rattle.answer.proofs.refuse_after.Goals as goal

pub returns : goal.returns
returns c = refl
