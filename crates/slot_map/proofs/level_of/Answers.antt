-- `slot_map::level_of` meets its contract. Assumes nothing.
use mathlib.Core.Path.{refl, sym, ap, ◌∙◌}
use Prim.Native.Nat.{ℕ, ◌+◌, ◌-◌, ◌/◌}
use native.Mathlib.Numerals.{add-one}
use native.Mathlib.Omega.{arith}
use Rattle.bits.proofs.Shifts.{shift-quotient}
use Rattle.slot_map.proofs.Laws.{level-low, level-high}
use Rattle.slot_map.proofs.level_of.Goals as goal

pub returns-then-s-lt4 : goal.returns-then-s-lt4
returns-then-s-lt4 c = sym (level-low c.args.s (omega (arith, c.if-s-lt4.true)))

pub returns-else-s-lt4 : goal.returns-else-s-lt4
returns-else-s-lt4 c = ap (λ (k : ℕ). k + 1) (shift-quotient 1 2 refl (c.args.s - 4)) ∙ add-one ((c.args.s - 4) / 2) ∙ sym (level-high c.args.s (omega (arith, c.if-s-lt4.false)))
