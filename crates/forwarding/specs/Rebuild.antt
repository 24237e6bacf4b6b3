-- What rebuilding asks of the owners, and what bringing the counters forward tells. Assumes nothing.
use Rattle.std.specs.Prelude.{◌≡◌, true, List, ℕ, suc, ◌<◌, get_or, Result, Ok, Err}
use Rattle.memory_map.specs.Map.{slots}
use Rattle.slot_map.specs.Slots.{belongs}
use Rattle.calls.specs.Recovery.{Step, to, bad, Source, Forwarded, so_far, failed}
use Rattle.answer.specs.declared.Refusal.{Refusal}
use Rattle.answer.specs.Refusal.{number_of}
use Rattle.forwarding.specs.declared.Failed.{Failed}

-- each owner, an index + 1, belongs to its slot
pub record Placed (h : ℕ) (os : List ℕ) : Type 0 where
  pub belong : (s i : ℕ) → s < slots h → get_or os s 0 ≡ suc i → belongs h s (suc i) ≡ true

abbrev pub source_is : ℕ → List ℕ → List ℕ → ℕ → Source
source_is f keys a ma = record { family = f; keys = keys; array = a; major = ma }

-- a step, as it is told: the new minor, or the refusal
unfoldable pub as_step : Result ℕ Refusal → Step
as_step (Ok v) = to v
as_step (Err r) = bad (number_of r)

-- the counter slots in the cache c, by what is told of them
unfoldable pub counted : Result ℕ Failed → List ℕ → Forwarded
counted (Ok n) c = so_far c n
counted (Err f) c = failed (number_of f.refusal) f.line
