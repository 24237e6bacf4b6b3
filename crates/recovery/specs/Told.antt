-- What is told of an image of the cache that is rebuilt, after some stores. Assumes nothing.
use Rattle.std.specs.Prelude.{List, ℕ, Result, Ok, Err}
use Rattle.answer.specs.declared.Answer.TheVariants.{Done}
use Rattle.answer.specs.Refusal.{number_of}
use Rattle.calls.specs.Call.{Module, Called, ended}
use Rattle.calls.specs.Recovery.{refuse_after}
use Rattle.forwarding.specs.declared.Failed.{Failed}

-- done with the sum and the image d, or refused after k stores with the cache as it was
unfoldable pub told : ℕ → Module → Result ℕ Failed → List ℕ → Called
told k m (Ok sum) d = ended (Done k sum) m.array m.control d
told k m (Err f) d = refuse_after k m (number_of f.refusal) f.line
