-- Rows of words read from bytes and written to bytes. Assumes nothing.
use mathlib.Core.Path.{◌≡◌, refl, sym, ap, ◌∙◌}
use mathlib.Core.List.{List, [], ◌∷◌, ◌++◌, append_assoc}
use Prim.Native.Nat.{ℕ, ◌+◌, ◌≤◌}
use native.Mathlib.Nat.{add_assoc}
use native.Mathlib.Omega.{arith}
use lib.ListN.{length, drop, get_or, replicate}
use lib.Seq.{drop-drop}
use Rattle.words.specs.Bytes.{digits, from_le, to_le, part, put, words_of, bytes_of}
use Rattle.words.proofs.Words.{words_take, words-add, length-words, bytes_one, put_word}
use Rattle.chacha20.specs.ChaCha20.{constants, add_states}
use Rattle.chacha20.specs.Rows.{row, word, flat, sum_row}

-- a row is its four words
four : (r : List ℕ) → length r ≡ 4 → row (λ j. get_or r j 0) ≡ r
four [] h = absurd (omega arith)
four (a ∷ []) h = absurd (omega arith)
four (a ∷ b ∷ []) h = absurd (omega arith)
four (a ∷ b ∷ c ∷ []) h = absurd (omega arith)
four (a ∷ b ∷ c ∷ d ∷ []) h = refl
four (a ∷ b ∷ c ∷ d ∷ e ∷ r) h = absurd (omega arith)

-- a row read word by word
pub row_at : (s : List ℕ) (at : ℕ)
    → from_le (part s at 4) ∷ from_le (part s (at + 4) 4) ∷ from_le (part s (at + 8) 4) ∷ from_le (part s (at + 12) 4) ∷ []
    ≡ words_of 4 4 (part s at 16)
unfolding words_of
row_at s at = sym (words_take 4 4 (drop at s) ∙ simp (drop-drop, add_assoc))

-- three words from the start
pub three-at : (s : List ℕ) → from_le (part s 0 4) ∷ from_le (part s 4 4) ∷ from_le (part s 8 4) ∷ [] ≡ words_of 4 3 s
unfolding words_of
three-at s = simp drop-drop

-- a row written word by word, in four steps
pub put-row : (s : List ℕ) (at : ℕ) (r : List ℕ) {s1 s2 s3 s4 : List ℕ} → at + 16 ≤ length s
    → s1 ≡ put s at (to_le 4 (get_or r 0 0)) → s2 ≡ put s1 (at + 4) (to_le 4 (get_or r 1 0))
    → s3 ≡ put s2 (at + 8) (to_le 4 (get_or r 2 0)) → s4 ≡ put s3 (at + 12) (to_le 4 (get_or r 3 0))
    → s4 ≡ put s at (bytes_of 4 (row (λ j. get_or r j 0)))
put-row s at r h e1 e2 e3 e4 =
    let f1 = e1 ∙ ap (put s at) (bytes_one 4 (get_or r 0 0)) in
    let f2 =
    e2 ∙ ap (λ (b : List ℕ). put b (at + 4) (to_le 4 (get_or r 1 0))) f1
    ∙ put_word 4 s at (get_or r 0 0 ∷ []) (get_or r 1 0) (omega arith) in
    let f3 =
    e3 ∙ ap (λ (b : List ℕ). put b (at + 8) (to_le 4 (get_or r 2 0))) f2
    ∙ put_word 4 s at (get_or r 0 0 ∷ get_or r 1 0 ∷ []) (get_or r 2 0) (omega arith) in
    e4 ∙ ap (λ (b : List ℕ). put b (at + 12) (to_le 4 (get_or r 3 0))) f3
    ∙ put_word 4 s at (get_or r 0 0 ∷ get_or r 1 0 ∷ get_or r 2 0 ∷ []) (get_or r 3 0) (omega arith)

flat_rows : (a b c d : List ℕ) → length a ≡ 4 → length b ≡ 4 → length c ≡ 4 → length d ≡ 4 → flat (a ∷ b ∷ c ∷ d ∷ []) ≡ a
    ++ (b ++ (c ++ d))
unfolding flat
flat_rows a b c d ha hb hc hd = λ i. four a ha i ++ (four b hb i ++ (four c hc i ++ four d hd i))

-- a key's words, in two rows
key-rows : (key : List ℕ) → words_of 4 4 (part key 0 16) ++ words_of 4 4 (part key 16 16) ≡ words_of 4 8 key
key-rows key = (λ i. words_take 4 4 key i ++ words_take 4 4 (drop 16 key) i) ∙ sym (words-add 4 4 4 key)

-- the rows that the block starts from
pub start-flat : (key last : List ℕ) → length last ≡ 4
    → flat (constants ∷ words_of 4 4 (part key 0 16) ∷ words_of 4 4 (part key 16 16) ∷ last ∷ []) ≡ constants ++ (words_of 4 8 key ++ last)
start-flat key last h =
    flat_rows constants (words_of 4 4 (part key 0 16)) (words_of 4 4 (part key 16 16)) last refl (length-words 4 4 (part key 0 16))
    (length-words 4 4 (part key 16 16)) h
    ∙ ap (λ (l : List ℕ). constants ++ l)
    (sym (append_assoc (words_of 4 4 (part key 0 16)) (words_of 4 4 (part key 16 16)) last) ∙ ap (λ (l : List ℕ). l ++ last) (key-rows key))

-- the sum of two states, row by row
pub sum-flat : (t s : List (List ℕ)) {r0 r1 r2 r3 : List ℕ}
    → r0 ≡ sum_row (get_or t 0 []) (get_or s 0 []) → r1 ≡ sum_row (get_or t 1 []) (get_or s 1 [])
    → r2 ≡ sum_row (get_or t 2 []) (get_or s 2 []) → r3 ≡ sum_row (get_or t 3 []) (get_or s 3 [])
    → flat (r0 ∷ r1 ∷ r2 ∷ r3 ∷ []) ≡ add_states (flat t) (flat s)
unfolding sum_row flat add_states
sum-flat t s e0 e1 e2 e3 = rw (e3, e2, e1, e0)

-- four rows written one after the other
pub put-rows : (s : List (List ℕ)) {o1 o2 o3 o4 : List ℕ}
    → o1 ≡ put (replicate 64 0) 0 (bytes_of 4 (row (word s 0))) → o2 ≡ put o1 16 (bytes_of 4 (row (word s 1)))
    → o3 ≡ put o2 32 (bytes_of 4 (row (word s 2))) → o4 ≡ put o3 48 (bytes_of 4 (row (word s 3))) → o4 ≡ bytes_of 4 (flat s)
unfolding digits bytes_of flat
put-rows s e1 e2 e3 e4 = rw (e4, e3, e2, e1)
