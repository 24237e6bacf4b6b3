-- `memory_map::child_place` meets its contract. Assumes nothing.
use mathlib.Core.Path.{refl, ap, ◌∙◌}
use Prim.Native.Nat.{ℕ, ◌%◌}
use Rattle.bits.proofs.Shifts.{mask-remainder}
use Rattle.memory_map.proofs.child_place.Goals as goal

pub returns : goal.returns
returns c = mask-remainder 3 8 refl c.on_path.result ∙ ap (λ (i : ℕ). i % 8) c.on_path.ensures
