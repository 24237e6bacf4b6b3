-- Quotient and remainder by d, the power of two of k bits, found without dividing: of numbers x of any width. Assumes nothing.
use mathlib.Core.Path.{◌≡◌, ap, subst}
use Prim.Native.Nat.{ℕ, ◌-◌, ◌/◌, ◌%◌, ◌^◌}
use lib.Bits.{bit_and, and_mask}

module _ (k d : ℕ) (power : 2 ^ k ≡ d) (x : ℕ) where
  -- code's `x >> k`
  pub shift-quotient : x / 2 ^ k ≡ x / d
  shift-quotient = ap (λ (n : ℕ). x / n) power

  -- code's `x & (d - 1)`
  pub mask-remainder : bit_and x (d - 1) ≡ x % d
  mask-remainder = subst (λ (n : ℕ). bit_and x (n - 1) ≡ x % n) power (and_mask x k)
