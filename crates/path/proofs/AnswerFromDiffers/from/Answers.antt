-- `path::AnswerFromDiffers::from` meets its contract. Assumes nothing.
use Rattle.path.specs.Told.{refusal_at}
use Rattle.path.proofs.AnswerFromDiffers.from.Goals as goal

pub returns : goal.returns
unfolding refusal_at
returns c = c.at.ensures
