-- A rotation by shifts, over the width. Assumes nothing.
use mathlib.Core.Path.{◌≡◌, sym, ap, ap₂, ◌∙◌, subst}
use Prim.Native.Nat.{ℕ, ◌+◌, ◌-◌, ◌*◌, ◌/◌, ◌%◌, ◌^◌, ◌≤◌, ◌<◌}
use native.Mathlib.Nat.{mul-div_cancel, mul-mod_left, add-zero, add_comm, sub-add_cancel, mod-lt, lt_of_le_of_lt}
use lib.Arith.{mod-mul}
use lib.Pow.{pow_pos, pow-add, shr_lt, shr_le}
use lib.Bits.{bit_or, or_shifted, or_lt}
use Rattle.rotation.specs.Rotate.{rotl}

-- x * 2^n cut at 2^(k + n)
shifted : (k n x : ℕ) → (x * 2 ^ n) % 2 ^ (k + n) ≡ (x % 2 ^ k) * 2 ^ n
shifted k n x =
    ap (λ (m : ℕ). (x * 2 ^ n) % m) (pow-add 2 k n) ∙ mod-mul (x * 2 ^ n) (pow_pos k) (pow_pos n)
    ∙ ap₂ (λ (a b : ℕ). a % 2 ^ k * 2 ^ n + b) (mul-div_cancel x (pow_pos n)) (mul-mod_left x (2 ^ n))
    ∙ add-zero (x % 2 ^ k * 2 ^ n)

-- the two shifts have no bit in common
disjoint : (k n x : ℕ) → x < 2 ^ (k + n) → bit_or ((x * 2 ^ n) % 2 ^ (k + n)) (x / 2 ^ k) ≡ (x * 2 ^ n) % 2 ^ (k + n) + x / 2 ^ k
disjoint k n x h =
    ap (λ (m : ℕ). bit_or m (x / 2 ^ k)) (shifted k n x)
    ∙ or_shifted (x % 2 ^ k) n (x / 2 ^ k) (shr_lt n k (subst (λ (m : ℕ). x < 2 ^ m) (add_comm k n) h))
    ∙ ap (λ (m : ℕ). m + x / 2 ^ k) (sym (shifted k n x))

pub rotl-or : (w n x : ℕ) → n ≤ w → x < 2 ^ w → bit_or ((x * 2 ^ n) % 2 ^ w) (x / 2 ^ (w - n)) ≡ rotl w n x
unfolding rotl
rotl-or w n x hn hx =
    subst (λ (m : ℕ). bit_or ((x * 2 ^ n) % 2 ^ m) (x / 2 ^ (w - n)) ≡ (x * 2 ^ n) % 2 ^ m + x / 2 ^ (w - n)) (sub-add_cancel hn)
    (disjoint (w - n) n x (subst (λ (m : ℕ). x < 2 ^ m) (sym (sub-add_cancel hn)) hx))

pub rotl-lt : (w n x : ℕ) → n ≤ w → x < 2 ^ w → rotl w n x < 2 ^ w
rotl-lt w n x hn hx =
    subst (λ (m : ℕ). m < 2 ^ w) (rotl-or w n x hn hx)
    (or_lt w _ _ (mod-lt (x * 2 ^ n) (pow_pos w)) (lt_of_le_of_lt (shr_le x (w - n)) hx))
