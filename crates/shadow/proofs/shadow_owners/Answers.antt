-- `shadow::shadow_owners` meets its contract. Assumes nothing.
use Prim.Native.Nat.{◌+◌, ◌*◌}
use native.Mathlib.Omega.{arith}
use Rattle.words.specs.Bytes.{from_le, part}
use Rattle.memory_map.specs.Map.{slots, array_length, InMap}
use Rattle.memory_map.proofs.Laws.{cell-small, shadow-room}
use Rattle.cache.specs.Cache.{shadow_owner}
use Rattle.shadow.proofs.Steps.{owners-are, shadow-step}
use Rattle.shadow.proofs.shadow_owners.Goals as goal

pub shadow_cell-requires : goal.shadow_cell-requires
unfolding InMap slots
shadow_cell-requires c = omega arith

pub overflow_mul-shadow_cell : goal.overflow_mul-shadow_cell
unfolding InMap slots
overflow_mul-shadow_cell c = omega (arith, cell-small _ c.shadow_cell.ensures (omega arith) c.requires.1.0)

pub owners_at-requires : goal.owners_at-requires
unfolding array_length slots
owners_at-requires c = omega (arith, shadow-room c.args.h)

pub returns : goal.returns
returns c =
    owners-are (λ s. from_le (part c.args.array.now (72 * c.shadow_cell.result + 72 * s) 8)) (shadow_owner c.args.h c.args.array.now) c.args.h
    c.slots.result
    c.owners_at.result c.slots.ensures
    (λ s. shadow-step c.args.h c.args.array.now c.shadow_cell.result s c.shadow_cell.ensures)
    c.owners_at.ensures
