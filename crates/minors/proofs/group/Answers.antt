-- `minors::group` meets its contract. Assumes nothing.
use mathlib.Core.Path.{refl, sym, ap, ◌∙◌}
use Prim.Native.Nat.{ℕ, ◌+◌, ◌*◌, ◌^◌}
use native.Mathlib.Nat.{mul-one}
use native.Mathlib.Omega.{arith}
use lib.Dec.{lit≤}
use Rattle.words.specs.Bytes.{number, part}
use Rattle.minors.proofs.Groups.{Word, word}
use Rattle.minors.proofs.Lanes.{one_lane, join, sum_lt}
use Rattle.minors.proofs.group.Goals as goal

-- the last sum, and so all before it
pub overflow_add-result : goal.overflow_add-result
overflow_add-result c =
    let bytes : Word (number 128 (part c.args.minors.now c.args.at 8)) c.load-bytes.result = word c.args.minors.now c.args.at c.requires.at_in_bounds (record { at = c.requires.by_index }) c.load-bytes.ensures in
    record {
      fits = sum_lt (2 ^ 63 + 2 ^ 57) (2 ^ 64) _ _ _ _
          (sum_lt (2 ^ 63 + 2 ^ 56) (2 ^ 63 + 2 ^ 57) _ _ _ _
          (sum_lt (2 ^ 63) (2 ^ 63 + 2 ^ 56) _ _ _ _ bytes.small (sym (mul-one _)) (lit≤ tt)) refl (lit≤ tt)) refl (lit≤ tt);
    }

pub overflow_add-quarters : goal.overflow_add-quarters
overflow_add-quarters c = omega (arith, overflow_add-result c)

pub overflow_mul-halves : goal.overflow_mul-halves
overflow_mul-halves c = omega (arith, overflow_add-result c)

pub overflow_add-halves : goal.overflow_add-halves
overflow_add-halves c = omega (arith, overflow_add-result c)

pub overflow_mul-result : goal.overflow_mul-result
overflow_mul-result c = omega (arith, overflow_add-result c)

pub returns : goal.returns
returns c =
    let bytes : Word (number 128 (part c.args.minors.now c.args.at 8)) c.load-bytes.result = word c.args.minors.now c.args.at c.requires.at_in_bounds (record { at = c.requires.by_index }) c.load-bytes.ensures in
    let w = bytes in
    let x = number 128 (part c.args.minors.now c.args.at 8) in
    let whole =
    join 28 4 15 refl 8 1 x (lit≤ tt)
    (join 14 2 3 refl 2 2 x (lit≤ tt) (join 7 1 1 refl 1 4 x (lit≤ tt) w.bytes (sym (mul-one _))) refl) refl
    ∙ ap (λ (m : ℕ). 128 * m) (sym (one_lane 56 8 x w.fits))
    in
    (whole, omega arith)
