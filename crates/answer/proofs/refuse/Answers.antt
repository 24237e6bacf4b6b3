-- `answer::refuse` meets its contract. Assumes nothing.
use Rattle.answer.proofs.refuse.Goals as goal

pub returns : goal.returns
returns c = c.refuse_after.ensures
