-- A data cell's hash in two parts, for the contracts of the steps that hash one cell for several minors. Assumes nothing.
use Rattle.std.specs.Prelude.{ℕ, List, [], ◌∷◌, ◌++◌}
use Rattle.words.specs.Bytes.{from_le, part, words_of}
use Rattle.siphash.specs.SipHash.{initial, compress_all, finalize}

-- the state after content, line and major
unfoldable pub data_state : List ℕ → List ℕ → ℕ → ℕ → List ℕ
data_state keys content line major =
    compress_all (initial (from_le (part keys 32 8)) (from_le (part keys 40 8))) (words_of 8 8 content ++ (line ∷ major ∷ []))

-- the hash from there with a minor
unfoldable pub hash_from : List ℕ → ℕ → ℕ
hash_from v minor = finalize (compress_all v (minor ∷ 0x5800_0000_0000_0000 ∷ []))
