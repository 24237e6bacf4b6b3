-- What the entry points for C answer, and what `out` then holds. Assumes nothing.
use Rattle.std.specs.Prelude.{ℕ, Bool, ◌&&◌, cond, List, eqb, length}
use Rattle.words.specs.Bytes.{to_le}
use Rattle.chacha20.specs.ChaCha20.{block}
use Rattle.siphash.specs.SipHash.{sip_hash}

-- 0 where the sizes are right, else 1
abbrev pub code : Bool → ℕ
code right = cond right 0 1

-- key, nonce and out have 32, 12 and 64 bytes
unfoldable pub block_sizes : List ℕ → List ℕ → List ℕ → Bool
block_sizes key nonce out = eqb (length key) 32 && (eqb (length nonce) 12 && eqb (length out) 64)

unfoldable pub block_out : List ℕ → ℕ → List ℕ → List ℕ → List ℕ
block_out key counter nonce out = cond (block_sizes key nonce out) (block key counter nonce) out

-- key and out have 16 and 8 bytes
unfoldable pub hash_sizes : List ℕ → List ℕ → Bool
hash_sizes key out = eqb (length key) 16 && eqb (length out) 8

unfoldable pub hash_out : List ℕ → List ℕ → List ℕ → List ℕ
hash_out key message out = cond (hash_sizes key out) (to_le 8 (sip_hash key message)) out
