-- Numbers in decimal digits, and text behind the first bytes of a buffer. Assumes nothing.
use Rattle.std.specs.Prelude.{◌≡◌, cond, List, [], ◌∷◌, ◌++◌, ℕ, zero, suc, ◌+◌, ◌/◌, ◌%◌, ltb, length, take}

-- x printed: no leading zero, and at most n digits
unfoldable pub digits_of : ℕ → ℕ → List ℕ
digits_of zero x = []
digits_of (suc n) x = cond (ltb x 10) ((48 + x) ∷ []) (digits_of n (x / 10) ++ ((48 + x % 10) ∷ []))

-- a number below 2^64 has at most 20
unfoldable pub printed : ℕ → List ℕ
printed x = digits_of 20 x

-- text that is written behind the first `at` bytes of a buffer s leaves t, and ends at r
pub record Appended (s t : List ℕ) (at r : ℕ) (text : List ℕ) : Type 0 where
  pub size : length t ≡ length s
  pub bytes : take r t ≡ take at s ++ text
  pub end : r ≡ at + length text
