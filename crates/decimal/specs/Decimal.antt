-- Decimal numbers in text: bytes 48 to 57 are the digits, the most significant stands first. Assumes nothing.
use Rattle.std.specs.Prelude.{Bool, true, ◌&&◌, cond, List, [], ◌∷◌, ℕ, ◌+◌, ◌-◌, ◌*◌, ◌^◌, ltb, leb}
use Rattle.decimal.specs.declared.Number.{Number}
use Rattle.decimal.specs.declared.Number.TheVariants.{Empty, Value, Bad}

unfoldable pub is_digit : ℕ → Bool
is_digit b = leb 48 b && leb b 57

unfoldable pub all_digits : List ℕ → Bool
all_digits [] = true
all_digits (b ∷ bs) = is_digit b && all_digits bs

-- what digits stand for after digits that stand for n
unfoldable pub value_from : ℕ → List ℕ → ℕ
value_from n [] = n
value_from n (b ∷ bs) = value_from (10 * n + (b - 48)) bs

unfoldable pub below64 : ℕ → Number
below64 n = cond (ltb n (2 ^ 64)) (Value n) Bad

-- one digit or more, leading zeros too, that stand for a number below 2^64; any other text is bad
unfoldable pub decimal : List ℕ → Number
decimal [] = Empty
decimal (b ∷ bs) = cond (all_digits (b ∷ bs)) (below64 (value_from 0 (b ∷ bs))) Bad

-- a number and one byte more
unfoldable pub digit_after : ℕ → ℕ → Number
digit_after n b = cond (is_digit b) (below64 (10 * n + (b - 48))) Bad

unfoldable pub with_digit : Number → ℕ → Number
with_digit Empty b = digit_after 0 b
with_digit (Value n) b = digit_after n b
with_digit Bad b = Bad
