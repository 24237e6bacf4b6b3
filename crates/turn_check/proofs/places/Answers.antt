-- `turn_check::places` meets its contract. Assumes nothing.
use mathlib.Core.Path.{◌≡◌, sym, ap, ◌∙◌}
use mathlib.Core.Bool.{Bool, cond}
use mathlib.Core.List.{List}
use Prim.Native.Nat.{ℕ}
use Rattle.bits.specs.Bits.{set_bits}
use Rattle.counter.specs.Counter.{written_from}
use Rattle.control.specs.Control.{turn_mask}
use Rattle.turn_check.proofs.places.Goals as goal

-- by the test
either : (k ms : List ℕ) {open? t : Bool} {l : List ℕ} → l ≡ cond t (set_bits (turn_mask k)) (written_from 0 ms) → t ≡ open?
    → l ≡ cond open? (set_bits (turn_mask k)) (written_from 0 ms)
either k ms e f = e ∙ ap (λ (b : Bool). cond b (set_bits (turn_mask k)) (written_from 0 ms)) f

pub returns-then-is_open : goal.returns-then-is_open
returns-then-is_open c = either _ _ (ap set_bits c.turn_mask.ensures) (sym c.if-is_open.true ∙ c.is_open.ensures)

pub returns : goal.returns
returns c = either _ _ c.written_mask.ensures (sym c.if-is_open.false ∙ c.is_open.ensures)
