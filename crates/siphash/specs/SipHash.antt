-- SipHash-2-4, beside section 2 of the SipHash paper. A word has 64 bits; the state v0, v1, v2, v3 is a list of four.
-- Assumes nothing.
use Rattle.std.specs.Prelude.{ℕ, ◌+◌, ◌*◌, ◌/◌, ◌%◌, ◌^◌, List, [], ◌∷◌, ◌++◌, length, take, drop, bit_xor, slice_index}
use Rattle.words.specs.Bytes.{from_le, words_of}
use Rattle.rotation.specs.Rotate.{add_w, rotl}

-- initialization: the state of a key's two words
unfoldable pub initial : ℕ → ℕ → List ℕ
initial k0 k1 =
    bit_xor k0 0x736f6d6570736575 ∷ bit_xor k1 0x646f72616e646f6d ∷ bit_xor k0 0x6c7967656e657261 ∷ bit_xor k1 0x7465646279746573 ∷ []

-- compression: the message as words: the last has the bytes that are left, zeros, and the length modulo 256
unfoldable pub last_word : List ℕ → ℕ
last_word m = from_le (drop (length m / 8 * 8) m) + length m % 256 * 2 ^ 56

unfoldable pub message_words : List ℕ → List ℕ
message_words m = words_of 8 (length m / 8) m ++ (last_word m ∷ [])

-- one SipRound
unfoldable pub sip_round : List ℕ → List ℕ
sip_round v =
    let v0 = add_w 64 (slice_index v 0) (slice_index v 1) in
    let v2 = add_w 64 (slice_index v 2) (slice_index v 3) in
    let v1 = bit_xor (rotl 64 13 (slice_index v 1)) v0 in
    let v3 = bit_xor (rotl 64 16 (slice_index v 3)) v2 in
    let w2 = add_w 64 v2 v1 in
    let w0 = add_w 64 (rotl 64 32 v0) v3 in
    let w1 = bit_xor (rotl 64 17 v1) w2 in
    let w3 = bit_xor (rotl 64 21 v3) w0 in
    w0 ∷ w1 ∷ rotl 64 32 w2 ∷ w3 ∷ []

-- compression of one word: v3 ^= m, two rounds, v0 ^= m
unfoldable pub compress : List ℕ → ℕ → List ℕ
compress v m =
    let r = sip_round (sip_round (slice_index v 0 ∷ slice_index v 1 ∷ slice_index v 2 ∷ bit_xor (slice_index v 3) m ∷ [])) in
    bit_xor (slice_index r 0) m ∷ slice_index r 1 ∷ slice_index r 2 ∷ slice_index r 3 ∷ []

unfoldable pub compress_all : List ℕ → List ℕ → List ℕ
compress_all v [] = v
compress_all v (m ∷ ms) = compress_all (compress v m) ms

-- finalization: v2 ^= ff hex, four rounds, and the four words joined by XOR
unfoldable pub finalize : List ℕ → ℕ
finalize v =
    let r = sip_round (sip_round (sip_round (sip_round (slice_index v 0 ∷ slice_index v 1 ∷ bit_xor (slice_index v 2) 0xff ∷ slice_index v 3 ∷ [])))) in
    bit_xor (bit_xor (slice_index r 0) (slice_index r 1)) (bit_xor (slice_index r 2) (slice_index r 3))

-- the hash of a message under a key of 16 bytes
unfoldable pub sip_hash : List ℕ → List ℕ → ℕ
sip_hash key m =
    finalize (compress_all (initial (from_le (take 8 key)) (from_le (take 8 (drop 8 key)))) (message_words m))
