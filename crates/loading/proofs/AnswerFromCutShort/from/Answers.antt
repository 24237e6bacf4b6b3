-- `loading::AnswerFromCutShort::from` meets its contract. Assumes nothing.
use mathlib.Core.Path.{refl}
use Rattle.loading.proofs.AnswerFromCutShort.from.Goals as goal

pub returns : goal.returns
returns c = refl
