-- The tags word by word, and their ranges. Assumes nothing.
use mathlib.Core.Path.{◌≡◌, ap, ap₂, sym, ◌∙◌}
use mathlib.Core.List.{List, [], ◌∷◌, ◌++◌, append_assoc}
use Prim.Native.Nat.{ℕ, ◌+◌, ◌*◌, ◌%◌, ◌^◌, ◌<◌}
use native.Mathlib.Omega.{arith}
use lib.Dec.{lit≤}
use lib.ListN.{length, set}
use lib.Pow.{pow_pos}
use Rattle.words.specs.Bytes.{from_le, to_le, part, put, words_of, bytes_of}
use Rattle.words.proofs.Digits.{Below, below-nil, below-cons, below-append, below-take, below-drop, length_digits}
use Rattle.words.proofs.Parts.{part-part, length-put}
use Rattle.words.proofs.Words.{below-bytes, words-put}
use Rattle.siphash.specs.SipHash.{initial, compress, compress_all, finalize, sip_hash}
use Rattle.siphash.proofs.Messages.{compress-append, message-numbers}
use Rattle.siphash.proofs.Ranges.{sip_hash-lt}
use Rattle.tag.specs.Tag.{node_input, node_tag, data_input, data_hash}
use Rattle.tag.specs.States.{data_state, hash_from}

-- the state of key bytes 32 to 47
abbrev keyed : List ℕ → List ℕ
keyed keys = initial (from_le (part keys 32 8)) (from_le (part keys 40 8))

-- the hash of 64 bytes of content and numbers in 8 bytes each
tag-numbers : (keys content xs : List ℕ) → length content ≡ 64 → Below (2 ^ 64) xs
    → finalize (compress_all (keyed keys) (words_of 8 8 content ++ (xs ++ ((8 + length xs) * 8 % 256 * 2 ^ 56 ∷ []))))
    ≡ sip_hash (part keys 32 16) (content ++ bytes_of 8 xs)
unfolding sip_hash
tag-numbers keys content xs hc hx =
    ap finalize
    (ap₂ compress_all
    (ap₂ (λ (a b : List ℕ). initial (from_le a) (from_le b))
    (sym (part-part keys 32 16 0 8 (lit≤ tt)))
    (sym (part-part keys 32 16 8 8 (lit≤ tt))))
    (sym (message-numbers 8 content xs hc hx)))

pub node-words : (keys content : List ℕ) (level index : ℕ) → length content ≡ 64 → level < 2 ^ 64 → index < 2 ^ 64
    → finalize (compress_all (keyed keys) (words_of 8 8 content ++ (level ∷ index ∷ 0x5000_0000_0000_0000 ∷ [])))
    ≡ node_tag keys content level index
unfolding node_tag node_input
node-words keys content level index hc hl hi =
    tag-numbers keys content (level ∷ index ∷ []) hc (below-cons hl (below-cons hi (below-nil (pow_pos 64))))

pub data-words : (keys content : List ℕ) (line major minor : ℕ) → length content ≡ 64 → line < 2 ^ 64 → major < 2 ^ 64 → minor < 2 ^ 64
    → finalize (compress_all (keyed keys) (words_of 8 8 content ++ (line ∷ major ∷ minor ∷ 0x5800_0000_0000_0000 ∷ [])))
    ≡ data_hash keys content line major minor
unfolding data_hash data_input
data-words keys content line major minor hc hl hj hn =
    tag-numbers keys content (line ∷ major ∷ minor ∷ []) hc (below-cons hl (below-cons hj (below-cons hn (below-nil (pow_pos 64)))))

-- a node whose word j is x
pub changed-words : (keys content : List ℕ) (j x level index : ℕ) → length content ≡ 64 → j < 8
    → x < 2 ^ 64 → level < 2 ^ 64 → index < 2 ^ 64
    → finalize (compress (compress (compress (compress_all (keyed keys) (set (words_of 8 8 content) j x)) level) index) 0x5000_0000_0000_0000)
    ≡ node_tag keys (put content (8 * j) (to_le 8 x)) level index
unfolding compress_all
changed-words keys content j x level index hc hj hx hl hi =
    let changed = put content (8 * j) (to_le 8 x) in
    let size : length changed ≡ 64 = length-put content (8 * j) (to_le 8 x) (rw length_digits (omega arith)) ∙ hc in
    let last = level ∷ index ∷ 0x5000_0000_0000_0000 ∷ [] in
    ap (λ (ws : List ℕ). finalize (compress_all (compress_all (keyed keys) ws) last)) (sym (words-put 8 8 content j x (omega arith) hj hx))
    ∙ ap finalize (sym (compress-append (keyed keys) (words_of 8 8 changed) last))
    ∙ node-words keys changed level index size hl hi

pub node_tag-lt : (keys content : List ℕ) (level index : ℕ) → Below 256 keys → Below 256 content → node_tag keys content level index < 2 ^ 64
unfolding node_tag node_input
node_tag-lt keys content level index hk hc =
    sip_hash-lt _ _ (below-take 16 _ (below-drop 32 keys hk)) (below-append content _ hc (below-bytes 8 _))

pub data_hash-lt : (keys content : List ℕ) (line major minor : ℕ) → Below 256 keys → Below 256 content
    → data_hash keys content line major minor < 2 ^ 64
unfolding data_hash data_input
data_hash-lt keys content line major minor hk hc =
    sip_hash-lt _ _ (below-take 16 _ (below-drop 32 keys hk)) (below-append content _ hc (below-bytes 8 _))

-- a data cell's hash in two parts
pub hash-from : (keys content : List ℕ) (line major minor : ℕ) → length content ≡ 64 → line < 2 ^ 64 → major < 2 ^ 64 → minor < 2 ^ 64
    → hash_from (data_state keys content line major) minor ≡ data_hash keys content line major minor
unfolding hash_from data_state
hash-from keys content line major minor hc hl hj hn =
    let words = words_of 8 8 content in
    let last = minor ∷ 0x5800_0000_0000_0000 ∷ [] in
    ap finalize (sym (compress-append (keyed keys) (words ++ (line ∷ major ∷ [])) last)
    ∙ ap (compress_all (keyed keys)) (append_assoc words (line ∷ major ∷ []) last))
    ∙ data-words keys content line major minor hc hl hj hn
