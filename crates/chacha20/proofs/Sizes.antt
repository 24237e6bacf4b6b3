-- The block has four bytes for each word of the state. Assumes nothing.
use Rattle.std.proofs.Common.{◌≡◌, ℕ, zero, suc, ◌*◌, List, [], ◌∷◌, length, refl, ap, ◌∙◌, arith, length-append, length-set}
use Rattle.words.specs.Bytes.{words_of}
use Rattle.words.proofs.Digits.{Below}
use Rattle.words.proofs.Words.{length-words, length-bytes, below-bytes}
use Rattle.chacha20.specs.ChaCha20.{quarter_round, column_round, diagonal_round, rounds, add_states, start, serialised, block}

length-quarter_round : (x y z w : ℕ) (s : List ℕ) → length (quarter_round x y z w s) ≡ length s
unfolding quarter_round
length-quarter_round x y z w s = simp length-set

pub length-rounds : (n : ℕ) (s : List ℕ) → length (rounds n s) ≡ length s
unfolding column_round diagonal_round rounds
length-rounds zero s = refl
length-rounds (suc n) s = simp length-quarter_round (length-rounds n s)

length-add_states : (s t : List ℕ) → length s ≡ length t → length (add_states s t) ≡ length t
unfolding add_states
length-add_states [] [] h = refl
length-add_states [] (b ∷ t) h = h
length-add_states (a ∷ s) [] h = refl
length-add_states (a ∷ s) (b ∷ t) h = ap suc (length-add_states s t (omega arith))

pub length-serialised : (s : List ℕ) → length (serialised s) ≡ length s * 4
unfolding serialised
length-serialised s =
    length-bytes 4 (add_states (rounds 10 s) s)
    ∙ ap (λ (n : ℕ). n * 4) (length-add_states (rounds 10 s) s (length-rounds 10 s))

pub length-block : (key : List ℕ) (counter : ℕ) (nonce : List ℕ) → length (block key counter nonce) ≡ 64
unfolding start block
length-block key counter nonce =
    length-serialised (start key counter (words_of 4 3 nonce))
    ∙ simp (length-append, length-words)

pub below-block : (key : List ℕ) (counter : ℕ) (nonce : List ℕ) → Below 256 (block key counter nonce)
unfolding serialised block
below-block key counter nonce = below-bytes 4 _
