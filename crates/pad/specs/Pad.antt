-- The pad of a line, and encryption by it. Assumes nothing.
use Rattle.std.specs.Prelude.{ℕ, List, [], ◌∷◌, ◌++◌, take}
use Rattle.std.specs.Int.Bits.{bit_xor}
use Rattle.words.specs.Bytes.{to_le}
use Rattle.chacha20.specs.ChaCha20.{block}

-- the ChaCha20 block under key bytes 0 to 31 whose block counter is the line number and whose nonce is the minor, 4 bytes,
-- then the major, 8 bytes
unfoldable pub pad : List ℕ → ℕ → ℕ → ℕ → List ℕ
pad keys line major minor = block (take 32 keys) line (to_le 4 minor ++ to_le 8 major)

-- two lists of bytes joined by XOR, byte by byte
unfoldable pub xor_bytes : List ℕ → List ℕ → List ℕ
xor_bytes [] ps = []
xor_bytes (t ∷ ts) [] = []
xor_bytes (t ∷ ts) (p ∷ ps) = bit_xor t p ∷ xor_bytes ts ps
