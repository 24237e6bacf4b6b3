-- The ChaCha20 block function, beside RFC 8439, sections 2.1 to 2.3. A word has 32 bits; the state is a list of sixteen.
-- Assumes nothing.
use Rattle.std.specs.Prelude.{ℕ, zero, suc, List, [], ◌∷◌, ◌++◌, bit_xor, slice_index, slice_set}
use Rattle.words.specs.Bytes.{words_of, bytes_of}
use Rattle.rotation.specs.Rotate.{add_w, rotl}

-- 2.1: the quarter round on a, b, c and d
unfoldable pub quarter : ℕ → ℕ → ℕ → ℕ → List ℕ
quarter a b c d =
    let a1 = add_w 32 a b in
    let d1 = rotl 32 16 (bit_xor d a1) in
    let c1 = add_w 32 c d1 in
    let b1 = rotl 32 12 (bit_xor b c1) in
    let a2 = add_w 32 a1 b1 in
    let d2 = rotl 32 8 (bit_xor d1 a2) in
    let c2 = add_w 32 c1 d2 in
    let b2 = rotl 32 7 (bit_xor b1 c2) in
    a2 ∷ b2 ∷ c2 ∷ d2 ∷ []

-- 2.2: QUARTERROUND(x, y, z, w), on the state
unfoldable pub quarter_round : ℕ → ℕ → ℕ → ℕ → List ℕ → List ℕ
quarter_round x y z w s =
    let q = quarter (slice_index s x) (slice_index s y) (slice_index s z) (slice_index s w) in
    slice_set (slice_set (slice_set (slice_set s x (slice_index q 0)) y (slice_index q 1)) z (slice_index q 2)) w (slice_index q 3)

-- 2.3: a column round, then a diagonal round
unfoldable pub column_round : List ℕ → List ℕ
column_round s = quarter_round 3 7 11 15 (quarter_round 2 6 10 14 (quarter_round 1 5 9 13 (quarter_round 0 4 8 12 s)))

unfoldable pub diagonal_round : List ℕ → List ℕ
diagonal_round s = quarter_round 3 4 9 14 (quarter_round 2 7 8 13 (quarter_round 1 6 11 12 (quarter_round 0 5 10 15 s)))

-- n double rounds
unfoldable pub rounds : ℕ → List ℕ → List ℕ
rounds zero s = s
rounds (suc n) s = diagonal_round (column_round (rounds n s))

-- two states added word by word
unfoldable pub add_states : List ℕ → List ℕ → List ℕ
add_states [] t = []
add_states (a ∷ s) [] = []
add_states (a ∷ s) (b ∷ t) = add_w 32 a b ∷ add_states s t

-- 2.3: the words of `expand 32-byte k`
abbrev pub constants : List ℕ
constants = 0x61707865 ∷ 0x3320646e ∷ 0x79622d32 ∷ 0x6b206574 ∷ []

-- 2.3: the state that a 32-byte key, a block counter and the three words of a nonce give
unfoldable pub start : List ℕ → ℕ → List ℕ → List ℕ
start key counter nonce = constants ++ (words_of 4 8 key ++ (counter ∷ nonce))

-- 2.3: twenty rounds, the start added, and the words in sequence, little-endian
unfoldable pub serialised : List ℕ → List ℕ
serialised s = bytes_of 4 (add_states (rounds 10 s) s)

-- 2.3: chacha20_block(key, counter, nonce), with a nonce of 12 bytes
unfoldable pub block : List ℕ → ℕ → List ℕ → List ℕ
block key counter nonce = serialised (start key counter (words_of 4 3 nonce))
