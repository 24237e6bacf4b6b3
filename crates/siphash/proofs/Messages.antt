-- Laws of `sip_round`, `compress_all`, `last_word` and `message_words`. Assumes nothing.
use Rattle.std.proofs.Common.{◌≡◌, ℕ, ◌+◌, ◌-◌, ◌*◌, ◌/◌, ◌%◌, ◌^◌, ◌<◌, ◌≤◌, List, [], ◌∷◌, ◌++◌, length, get_or, take, drop, sym, refl, ap, ◌∙◌, ap₂, append_assoc, add-mul, zero-add, mul-div_cancel, add-one, arith, lit<, length-append, length-drop, take-suc, drop_at}
use lib.Bits.{bit_xor}
use lib.Seq.{drop-length}
use Rattle.words.specs.Bytes.{number, from_le, part, words_of, bytes_of}
use Rattle.rotation.specs.Rotate.{add_w, rotl}
use Rattle.words.proofs.Digits.{Below, below-drop, number-lt-pow, number-from}
use Rattle.words.proofs.Words.{words-add, words-front, words-bytes, length-bytes}
use Rattle.siphash.specs.SipHash.{initial, last_word, message_words, sip_round, compress, compress_all, finalize, sip_hash}

-- a round, step by step
pub round-steps : {v0 v2 x1 x3 w2 x0 w0 y1 y3 y2 : ℕ} (v : List ℕ)
    → v0 ≡ add_w 64 (get_or v 0 0) (get_or v 1 0) → v2 ≡ add_w 64 (get_or v 2 0) (get_or v 3 0)
    → x1 ≡ rotl 64 13 (get_or v 1 0) → x3 ≡ rotl 64 16 (get_or v 3 0)
    → w2 ≡ add_w 64 v2 (bit_xor x1 v0) → x0 ≡ rotl 64 32 v0 → w0 ≡ add_w 64 x0 (bit_xor x3 v2)
    → y1 ≡ rotl 64 17 (bit_xor x1 v0) → y3 ≡ rotl 64 21 (bit_xor x3 v2) → y2 ≡ rotl 64 32 w2
    → w0 ∷ bit_xor y1 w2 ∷ y2 ∷ bit_xor y3 w0 ∷ [] ≡ sip_round v
unfolding sip_round
round-steps v e1 e2 e3 e4 e5 e6 e7 e8 e9 e10 = rw (e10, e9, e8, e7, e6, e5, e4, e3, e2, e1)

pub compress-append : (v xs ys : List ℕ) → compress_all v (xs ++ ys) ≡ compress_all (compress_all v xs) ys
unfolding compress_all
compress-append v [] ys = refl
compress-append v (x ∷ xs) ys = compress-append (compress v x) xs ys

-- one more of the words ws
pub compress-next : (v ws : List ℕ) (i : ℕ) {r : List ℕ} {m : ℕ} → i < length ws → r ≡ compress_all v (take i ws) → m ≡ get_or ws i 0
    → compress r m ≡ compress_all v (take (i + 1) ws)
unfolding compress_all
compress-next v ws i h er em =
    ap₂ compress er em ∙ sym (compress-append v (take i ws) (get_or ws i 0 ∷ []))
    ∙ ap (compress_all v) (sym (take-suc ws i 0 h) ∙ ap (λ (k : ℕ). take k ws) (sym (add-one i)))

-- what is left after the whole words has at most 7 bytes
pub left_lt : (s : List ℕ) (i : ℕ) → Below 256 s → length s / 8 * 8 ≤ i → from_le (drop i s) < 2 ^ 56
left_lt s i h k = number-lt-pow 256 7 (drop i s) (below-drop i s h) (rw length-drop (omega arith))

pub left-none : (s : List ℕ) → 0 ≡ from_le (drop (length s) s)
unfolding number
left-none s = sym (ap from_le (drop-length s))

-- one byte more, before those from index i
pub left-more : (s : List ℕ) (i : ℕ) → 0 < i → i ≤ length s → from_le (drop i s) * 256 + get_or s (i - 1) 0 ≡ from_le (drop (i - 1) s)
left-more s i h k =
    let next : i - 1 + 1 ≡ i = omega arith in
    sym (number-from 256 s (i - 1) (omega arith) ∙ ap (λ (j : ℕ). from_le (drop j s) * 256 + get_or s (i - 1) 0) next)

-- the hash of a message whose whole words and last word were compressed in turn
pub hash-last : (key m : List ℕ)
    → finalize (compress (compress_all (initial (from_le (part key 0 8)) (from_le (part key 8 8))) (words_of 8 (length m / 8) m)) (last_word m))
    ≡ sip_hash key m
unfolding sip_hash message_words compress_all
hash-last key m = ap finalize (sym (compress-append _ (words_of 8 (length m / 8) m) (last_word m ∷ [])))

-- a message of n words of bytes, followed by numbers in 8 bytes each
module _ (n : ℕ) (content xs : List ℕ) (hc : length content ≡ n * 8) where
  size : length (content ++ bytes_of 8 xs) ≡ (n + length xs) * 8
  size = length-append content (bytes_of 8 xs) ∙ ap₂ (λ (a b : ℕ). a + b) hc (length-bytes 8 xs) ∙ sym (add-mul n (length xs) 8)

  whole : length (content ++ bytes_of 8 xs) / 8 ≡ n + length xs
  whole = ap (λ (k : ℕ). k / 8) size ∙ mul-div_cancel (n + length xs) (lit< tt)

  last : last_word (content ++ bytes_of 8 xs) ≡ (n + length xs) * 8 % 256 * 2 ^ 56
  unfolding last_word number
  last =
      let m = content ++ bytes_of 8 xs in
      let none = ap (λ (k : ℕ). drop (k * 8) m) whole ∙ ap (λ (k : ℕ). drop k m) (sym size) ∙ drop-length m in
      ap₂ (λ (l : List ℕ) (k : ℕ). from_le l + k % 256 * 2 ^ 56) none size ∙ zero-add _

  words : Below (2 ^ 64) xs → words_of 8 (length (content ++ bytes_of 8 xs) / 8) (content ++ bytes_of 8 xs) ≡ words_of 8 n content ++ xs
  words hx =
      ap (λ (k : ℕ). words_of 8 k (content ++ bytes_of 8 xs)) whole ∙ words-add 8 n (length xs) (content ++ bytes_of 8 xs)
      ∙ ap₂ (λ (a b : List ℕ). a ++ words_of 8 (length xs) b) (words-front 8 n content (bytes_of 8 xs) (omega arith))
      (drop_at content (bytes_of 8 xs) (n * 8) hc)
      ∙ ap (λ (r : List ℕ). words_of 8 n content ++ r) (words-bytes 8 xs hx)

  pub message-numbers : Below (2 ^ 64) xs
      → message_words (content ++ bytes_of 8 xs) ≡ words_of 8 n content ++ (xs ++ ((n + length xs) * 8 % 256 * 2 ^ 56 ∷ []))
  unfolding message_words
  message-numbers hx = ap₂ {C = List ℕ} (λ (l : List ℕ) (k : ℕ). l ++ (k ∷ [])) (words hx) last ∙ append_assoc (words_of 8 n content) xs _
