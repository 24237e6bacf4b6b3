-- `minors::spread` meets its contract. Assumes nothing.
use mathlib.Core.Path.{refl, sym}
use Prim.Native.Nat.{◌^◌}
use native.Mathlib.Nat.{mul-one}
use native.Mathlib.Omega.{arith}
use lib.Dec.{lit≤}
use Rattle.minors.proofs.Lanes.{one_lane, spread, sum_lt}
use Rattle.minors.proofs.spread.Goals as goal

-- the last sum, and so all before it
pub overflow_add-result : goal.overflow_add-result
overflow_add-result c =
    record {
      fits = sum_lt (2 ^ 62) (2 ^ 64) _ _ _ _
          (sum_lt (2 ^ 60) (2 ^ 62) _ _ _ _ (sum_lt (2 ^ 56) (2 ^ 60) _ _ _ _ c.requires refl (lit≤ tt)) refl (lit≤ tt)) (sym (mul-one _))
          (lit≤ tt);
    }

pub overflow_mul-halves : goal.overflow_mul-halves
overflow_mul-halves c = omega (arith, overflow_add-result c)

pub overflow_add-halves : goal.overflow_add-halves
overflow_add-halves c = omega (arith, overflow_add-result c)

pub overflow_mul-quarters : goal.overflow_mul-quarters
overflow_mul-quarters c = omega (arith, overflow_add-result c)

pub overflow_add-quarters : goal.overflow_add-quarters
overflow_add-quarters c = omega (arith, overflow_add-result c)

pub returns : goal.returns
returns c = spread 7 1 1 refl 4 c.args.x (spread 14 2 3 refl 2 c.args.x (spread 28 4 15 refl 1 c.args.x (one_lane 56 8 c.args.x c.requires) refl) refl) (sym (mul-one _))
