-- The pad as the key stream makes it, its length and its bytes. Assumes nothing.
use mathlib.Core.Path.{◌≡◌, sym, ap, ap₂, ◌∙◌}
use mathlib.Core.List.{List, [], ◌∷◌, ◌++◌, append-nil}
use Prim.Native.Nat.{ℕ, ◌/◌, ◌%◌, ◌^◌, ◌<◌}
use native.Mathlib.Nat.{mod-eq_of_lt}
use native.Mathlib.Omega.{arith}
use lib.ListN.{length}
use Rattle.words.specs.Bytes.{to_le, words_of}
use Rattle.words.proofs.Digits.{Below, digits_append}
use Rattle.words.proofs.Words.{words_take, words-to_le}
use Rattle.chacha20.specs.ChaCha20.{constants, start, serialised, block}
use Rattle.chacha20.proofs.Sizes.{length-block, below-block}
use Rattle.pad.specs.Pad.{pad}

pub length-pad : (keys : List ℕ) (line major minor : ℕ) → length (pad keys line major minor) ≡ 64
unfolding pad
length-pad keys line major minor = length-block _ _ _

pub below-pad : (keys : List ℕ) (line major minor : ℕ) → Below 256 (pad keys line major minor)
unfolding pad
below-pad keys line major minor = below-block _ _ _

-- the words of the nonce
nonce : (major minor : ℕ) → major < 2 ^ 64 → minor < 2 ^ 32
    → words_of 4 3 (to_le 4 minor ++ to_le 8 major) ≡ minor ∷ major % 0x1_0000_0000 ∷ major / 0x1_0000_0000 ∷ []
unfolding words_of
nonce major minor hj hn =
    let high = major / 0x1_0000_0000 in
    words-to_le 4 2 minor (to_le 8 major)
    ∙ ap₂ {C = List ℕ} (λ (x : ℕ) (r : List ℕ). x ∷ r) (mod-eq_of_lt hn)
    (ap (words_of 4 2) (digits_append 256 4 4 major ∙ ap (λ (r : List ℕ). to_le 4 major ++ r) (sym (append-nil (to_le 4 high))))
    ∙ words-to_le 4 1 major (to_le 4 high ++ [])
    ∙ ap (λ (r : List ℕ). major % 0x1_0000_0000 ∷ r)
    (words-to_le 4 0 high [] ∙ ap (λ (x : ℕ). x ∷ []) (mod-eq_of_lt (omega arith))))

pub pad-is : (keys : List ℕ) (line major minor : ℕ) → major < 2 ^ 64 → minor < 2 ^ 32
    → serialised (constants ++ (words_of 4 8 keys ++ (line ∷ minor ∷ major % 0x1_0000_0000 ∷ major / 0x1_0000_0000 ∷ [])))
    ≡ pad keys line major minor
unfolding start block pad
pad-is keys line major minor hj hn =
    sym
    (ap₂ (λ (k w : List ℕ). serialised (constants ++ (k ++ (line ∷ w)))) (words_take 4 8 keys) (nonce major minor hj hn))
