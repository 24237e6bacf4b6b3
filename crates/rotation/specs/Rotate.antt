-- Words of w bits: the sum that wraps, and rotation.
-- Assumes nothing.
use Rattle.std.specs.Prelude.{ℕ, ◌+◌, ◌*◌, ◌/◌, ◌%◌, ◌^◌, ◌-◌}

-- a + b, modulo 2^w
abbrev pub add_w : ℕ → ℕ → ℕ → ℕ
add_w w a b = (a + b) % 2 ^ w

-- x, of w bits, rotated left by n
unfoldable pub rotl : ℕ → ℕ → ℕ → ℕ
rotl w n x = (x * 2 ^ n) % 2 ^ w + x / 2 ^ (w - n)
