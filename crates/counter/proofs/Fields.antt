-- A field of a word: the n bits from bit k on of a word of w bits, read and replaced by shifts. Assumes nothing.
use mathlib.Core.Path.{◌≡◌, sym, ap, ◌∙◌, subst}
use Prim.Native.Nat.{ℕ, ◌+◌, ◌-◌, ◌*◌, ◌/◌, ◌%◌, ◌^◌, ◌≤◌, ◌<◌}
use native.Mathlib.Nat.{mod-le, mod-eq_of_lt, le_trans, lt_of_le_of_lt, le_dest, mul-le-mul_right, div-mul-le_self, div-add-mod', mod-lt}
use native.Mathlib.Omega.{arith}
use lib.Arith.{digits_lt}
use lib.Pow.{pow_pos, pow-add, shr_lt, shl_exact, field, mod-mod-pow}

-- a field of a word that is cut out of x
pub field_cut : (w n k x : ℕ) → n + k ≤ w → x % 2 ^ w / 2 ^ k % 2 ^ n ≡ x / 2 ^ k % 2 ^ n
field_cut w n k x h =
    let d = le_dest h in
    let e : d.0 + n + k ≡ w = omega (arith, d.1) in
    subst (λ (m : ℕ). x % 2 ^ m / 2 ^ k % 2 ^ n ≡ x / 2 ^ k % 2 ^ n) e
    (ap (λ (y : ℕ). y % 2 ^ n) (field x (d.0 + n) k) ∙ mod-mod-pow (x / 2 ^ k) d.0 n)

field-le : (k m x : ℕ) → x / 2 ^ k % m * 2 ^ k ≤ x
field-le k m x = le_trans (mul-le-mul_right (2 ^ k) (mod-le (x / 2 ^ k) m)) (div-mul-le_self x (2 ^ k))

-- moved back to its place, a field loses no bit
field-exact : (w k m x : ℕ) → x < 2 ^ w → (x / 2 ^ k % m * 2 ^ k) % 2 ^ w ≡ x / 2 ^ k % m * 2 ^ k
field-exact w k m x hx = mod-eq_of_lt (lt_of_le_of_lt (field-le k m x) hx)

pub clear-le : (w k m x : ℕ) → x < 2 ^ w → (x / 2 ^ k % m * 2 ^ k) % 2 ^ w ≤ x
clear-le w k m x hx = rw (field-exact w k m x hx) (field-le k m x)

-- x by what stands above the field, the field and what stands below it
parts : (n k x : ℕ) → x ≡ (x / 2 ^ k / 2 ^ n * 2 ^ n + x / 2 ^ k % 2 ^ n) * 2 ^ k + x % 2 ^ k
parts n k x =
    sym (div-add-mod' x (2 ^ k)) ∙ ap (λ (y : ℕ). y * 2 ^ k + x % 2 ^ k) (sym (div-add-mod' (x / 2 ^ k) (2 ^ n)))

module _ (w n k x : ℕ) (hk : n + k ≤ w) (hx : x < 2 ^ w) where
  -- the field replaced by v, with the old one added back
  pub replace : (v : ℕ) → v < 2 ^ n
      → x - (x / 2 ^ k % 2 ^ n * 2 ^ k) % 2 ^ w + (v * 2 ^ k) % 2 ^ w + x / 2 ^ k % 2 ^ n * 2 ^ k ≡ x + v * 2 ^ k
  replace v hv = rw (field-exact w k (2 ^ n) x hx, shl_exact n k w hv hk) (omega (arith, field-le k (2 ^ n) x))

  pub replace-lt : (v : ℕ) → v < 2 ^ n → x - (x / 2 ^ k % 2 ^ n * 2 ^ k) % 2 ^ w + (v * 2 ^ k) % 2 ^ w < 2 ^ w
  replace-lt v hv =
      let d = le_dest hk in
      let e : d.0 + n + k ≡ w = omega (arith, d.1) in
      let hq : x / 2 ^ k / 2 ^ n < 2 ^ d.0 = shr_lt d.0 n (shr_lt (d.0 + n) k (subst (λ (m : ℕ). x < 2 ^ m) (sym e) hx)) in
      let new : (x / 2 ^ k / 2 ^ n * 2 ^ n + v) * 2 ^ k + x % 2 ^ k
      < 2 ^ d.0 * 2 ^ n * 2 ^ k = digits_lt (digits_lt hq hv) (mod-lt x (pow_pos k)) in
      let size : 2 ^ w ≡ 2 ^ d.0 * 2 ^ n * 2 ^ k =
      ap (λ (m : ℕ). 2 ^ m) (sym e) ∙ pow-add 2 (d.0 + n) k ∙ ap (λ (y : ℕ). y * 2 ^ k) (pow-add 2 d.0 n) in
      omega (arith, replace v hv, parts n k x)
