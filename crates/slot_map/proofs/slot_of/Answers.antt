-- `slot_map::slot_of` meets its contract. Assumes nothing.
use mathlib.Core.Path.{refl, ap, ◌∙◌}
use Prim.Native.Nat.{ℕ, ◌+◌, ◌-◌, ◌*◌}
use native.Mathlib.Omega.{arith}
use Rattle.bits.proofs.Shifts.{mask-remainder}
use Rattle.slot_map.proofs.Laws.{slot-fits, slot-zero, slot-node}
use Rattle.slot_map.proofs.slot_of.Goals as goal

pub overflow_add-result-else-l-eq0 : goal.overflow_add-result-else-l-eq0
overflow_add-result-else-l-eq0 c = record { fits = slot-fits _ c.args.i _ c.requires (omega arith) }

pub returns-then-l-eq0 : goal.returns-then-l-eq0
returns-then-l-eq0 c = mask-remainder 2 4 refl c.args.i ∙ slot-zero c.args.l c.args.i c.if-l-eq0.true

pub returns-else-l-eq0 : goal.returns-else-l-eq0
returns-else-l-eq0 c = ap (λ (k : ℕ). 4 + 2 * (c.args.l - 1) + k) (mask-remainder 1 2 refl c.args.i) ∙ slot-node c.args.l c.args.i c.if-l-eq0.false
