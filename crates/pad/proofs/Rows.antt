-- A text joined with the rows of the pad: four words to a row, and four rows. Assumes nothing.
use mathlib.Core.Path.{◌≡◌, refl, ap, ◌∙◌}
use mathlib.Core.List.{List, ◌++◌}
use Prim.Native.Nat.{ℕ, ◌+◌, ◌≤◌}
use native.Mathlib.Omega.{arith}
use lib.ListN.{length, get_or, length-append}
use lib.Seq.{take_all}
use Rattle.words.specs.Bytes.{digits, to_le, bytes_of, part, put}
use Rattle.words.proofs.Parts.{put_all}
use Rattle.chacha20.specs.Rows.{row, word, flat}
use Rattle.pad.specs.Pad.{xor_bytes}
use Rattle.pad.proofs.Xor.{length-xor, xor-more}

module _ (t out : List ℕ) where
  -- four pieces of n bytes, one after the other
  join-four : (at n : ℕ) (p q r s : List ℕ) {o1 o2 o3 o4 : List ℕ} → length p ≡ n → length q ≡ n → length r ≡ n → length s ≡ n
      → at + (n + n + n + n) ≤ length t → at + (n + n + n + n) ≤ length out
      → o1 ≡ put out at (xor_bytes (part t at n) p)
      → o2 ≡ put o1 (at + n) (xor_bytes (part t (at + n) n) q)
      → o3 ≡ put o2 (at + (n + n)) (xor_bytes (part t (at + (n + n)) n) r)
      → o4 ≡ put o3 (at + (n + n + n)) (xor_bytes (part t (at + (n + n + n)) n) s)
      → o4 ≡ put out at (xor_bytes (part t at (n + n + n + n)) (((p ++ q) ++ r) ++ s))
  join-four at n p q r s lp lq lr ls ht ho e1 e2 e3 e4 =
      let two : length (p ++ q) ≡ n + n = rw length-append (omega arith) in
      let three : length ((p ++ q) ++ r) ≡ n + n + n = rw length-append (omega arith) in
      let f2 =
      e2 ∙ ap (λ (o : List ℕ). put o (at + n) (xor_bytes (part t (at + n) n) q)) e1
      ∙ xor-more t out at n n p q lp lq (omega arith) (omega arith) in
      let f3 =
      e3 ∙ ap (λ (o : List ℕ). put o (at + (n + n)) (xor_bytes (part t (at + (n + n)) n) r)) f2
      ∙ xor-more t out at (n + n) n (p ++ q) r two lr (omega arith) (omega arith) in
      e4 ∙ ap (λ (o : List ℕ). put o (at + (n + n + n)) (xor_bytes (part t (at + (n + n + n)) n) s)) f3
      ∙ xor-more t out at (n + n + n) n ((p ++ q) ++ r) s three ls (omega arith) (omega arith)

  -- a row, by four words
  pub join-words : (at : ℕ) (r : List ℕ) {o1 o2 o3 o4 : List ℕ} → at + 16 ≤ length t → at + 16 ≤ length out
      → o1 ≡ put out at (xor_bytes (part t at 4) (to_le 4 (get_or r 0 0)))
      → o2 ≡ put o1 (at + 4) (xor_bytes (part t (at + 4) 4) (to_le 4 (get_or r 1 0)))
      → o3 ≡ put o2 (at + 8) (xor_bytes (part t (at + 8) 4) (to_le 4 (get_or r 2 0)))
      → o4 ≡ put o3 (at + 12) (xor_bytes (part t (at + 12) 4) (to_le 4 (get_or r 3 0)))
      → o4 ≡ put out at (xor_bytes (part t at 16) (bytes_of 4 (row (λ j. get_or r j 0))))
  unfolding digits bytes_of
  join-words at r ht ho e1 e2 e3 e4 =
      let w : ℕ → List ℕ = λ i. to_le 4 (get_or r i 0) in
      join-four at 4 (w 0) (w 1) (w 2) (w 3) refl refl refl refl ht ho e1 e2 e3 e4

  -- the four rows
  pub join-rows : (s : List (List ℕ)) {o1 o2 o3 o4 : List ℕ} → length t ≡ 64 → length out ≡ 64
      → o1 ≡ put out 0 (xor_bytes (part t 0 16) (bytes_of 4 (row (word s 0))))
      → o2 ≡ put o1 16 (xor_bytes (part t 16 16) (bytes_of 4 (row (word s 1))))
      → o3 ≡ put o2 32 (xor_bytes (part t 32 16) (bytes_of 4 (row (word s 2))))
      → o4 ≡ put o3 48 (xor_bytes (part t 48 16) (bytes_of 4 (row (word s 3)))) → o4 ≡ xor_bytes t (bytes_of 4 (flat s))
  unfolding digits bytes_of flat
  join-rows s lt lo e1 e2 e3 e4 =
      let r : ℕ → List ℕ = λ i. bytes_of 4 (row (word s i)) in
      let all : part t 0 64 ≡ t = take_all 64 t (omega arith) in
      join-four 0 16 (r 0) (r 1) (r 2) (r 3) refl refl refl refl (omega arith) (omega arith) e1 e2 e3 e4
      ∙ ap (λ (l : List ℕ). put out 0 (xor_bytes l (bytes_of 4 (flat s)))) all
      ∙ put_all out (xor_bytes t (bytes_of 4 (flat s))) (length-xor t (bytes_of 4 (flat s)) (omega arith) ∙ omega arith)
