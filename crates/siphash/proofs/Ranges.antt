-- SipHash keeps its words below 2 ^ 64. Assumes nothing.
use Rattle.std.proofs.Common.{ℕ, ◌+◌, ◌*◌, ◌/◌, ◌^◌, ◌<◌, List, [], ◌∷◌, length, get_or, le_refl, mod-lt, arith, lit<, lit≤, pow_pos}
use lib.Bits.{xor_lt}
use Rattle.rotation.specs.Rotate.{add_w}
use Rattle.words.proofs.Digits.{Below, below-head, below-tail, below-nil, below-cons, below-append}
use Rattle.rotation.proofs.Rotation.{rotl-lt}
use Rattle.words.proofs.Words.{below-words, part-lt}
use Rattle.siphash.proofs.Messages.{left_lt}
use Rattle.siphash.specs.SipHash.{initial, last_word, message_words, sip_round, compress, compress_all, finalize, sip_hash}

add-lt : (a b : ℕ) → add_w 64 a b < 2 ^ 64
add-lt a b = mod-lt (a + b) (pow_pos 64)

four : (a b c d : ℕ) → a < 2 ^ 64 → b < 2 ^ 64 → c < 2 ^ 64 → d < 2 ^ 64 → Below (2 ^ 64) (a ∷ b ∷ c ∷ d ∷ [])
four a b c d ha hb hc hd = below-cons ha (below-cons hb (below-cons hc (below-cons hd (below-nil (pow_pos 64)))))

round-below : (v : List ℕ) → Below (2 ^ 64) v → Below (2 ^ 64) (sip_round v)
unfolding sip_round
round-below v h =
    let v0 = add-lt (get_or v 0 0) (get_or v 1 0) in
    let v2 = add-lt (get_or v 2 0) (get_or v 3 0) in
    let v1 = xor_lt 64 _ _ (rotl-lt 64 13 _ (lit≤ tt) (h.at 1)) v0 in
    let v3 = xor_lt 64 _ _ (rotl-lt 64 16 _ (lit≤ tt) (h.at 3)) v2 in
    let w2 = add-lt _ _ in
    let w0 = add-lt _ _ in
    four _ _ _ _ w0 (xor_lt 64 _ _ (rotl-lt 64 17 _ (lit≤ tt) v1) w2) (rotl-lt 64 32 _ (lit≤ tt) w2)
    (xor_lt 64 _ _ (rotl-lt 64 21 _ (lit≤ tt) v3) w0)

initial-below : (k0 k1 : ℕ) → k0 < 2 ^ 64 → k1 < 2 ^ 64 → Below (2 ^ 64) (initial k0 k1)
unfolding initial
initial-below k0 k1 h0 h1 =
    four _ _ _ _ (xor_lt 64 _ _ h0 (lit< tt)) (xor_lt 64 _ _ h1 (lit< tt)) (xor_lt 64 _ _ h0 (lit< tt)) (xor_lt 64 _ _ h1 (lit< tt))

compress-below : (v : List ℕ) (m : ℕ) → Below (2 ^ 64) v → m < 2 ^ 64 → Below (2 ^ 64) (compress v m)
unfolding compress
compress-below v m h hm =
    let r = round-below _ (round-below _ (four _ _ _ _ (h.at 0) (h.at 1) (h.at 2) (xor_lt 64 _ _ (h.at 3) hm))) in
    four _ _ _ _ (xor_lt 64 _ _ (r.at 0) hm) (r.at 1) (r.at 2) (r.at 3)

compress_all-below : (v ms : List ℕ) → Below (2 ^ 64) v → Below (2 ^ 64) ms → Below (2 ^ 64) (compress_all v ms)
unfolding compress_all
compress_all-below v [] h k = h
compress_all-below v (m ∷ ms) h k = compress_all-below (compress v m) ms (compress-below v m h (below-head k)) (below-tail k)

finalize-lt : (v : List ℕ) → Below (2 ^ 64) v → finalize v < 2 ^ 64
unfolding finalize
finalize-lt v h =
    let r = round-below _ (round-below _
    (round-below _ (round-below _ (four _ _ _ _ (h.at 0) (h.at 1) (xor_lt 64 _ _ (h.at 2) (lit< tt)) (h.at 3))))) in
    xor_lt 64 _ _ (xor_lt 64 _ _ (r.at 0) (r.at 1)) (xor_lt 64 _ _ (r.at 2) (r.at 3))

last_word-lt : (m : List ℕ) → Below 256 m → last_word m < 2 ^ 64
unfolding last_word
last_word-lt m h = omega (arith, left_lt m (length m / 8 * 8) h (le_refl _))

message_words-below : (m : List ℕ) → Below 256 m → Below (2 ^ 64) (message_words m)
unfolding message_words
message_words-below m h =
    below-append _ _ (below-words 8 (length m / 8) m h) (below-cons (last_word-lt m h) (below-nil (pow_pos 64)))

pub sip_hash-lt : (key m : List ℕ) → Below 256 key → Below 256 m → sip_hash key m < 2 ^ 64
unfolding sip_hash
sip_hash-lt key m hk hm =
    finalize-lt _ (compress_all-below _ _ (initial-below _ _ (part-lt 8 key 0 hk) (part-lt 8 key 8 hk)) (message_words-below m hm))
