-- Cells staged one after the other. Assumes nothing.
use mathlib.Core.Path.{◌≡◌, refl, ap, ◌∙◌}
use mathlib.Core.List.{List, [], ◌∷◌, ◌++◌}
use Prim.Native.Nat.{ℕ, suc, ◌+◌, ◌≤◌, ◌<◌}
use native.Mathlib.Omega.{arith}
use borrow.Author.Tests.{lt-ltb, le-ltb}
use lib.ListN.{length, replicate, length-replicate}
use lib.Seq.{take_all}
use Rattle.words.specs.Bytes.{to_le, part, put}
use Rattle.words.proofs.Digits.{length_digits}
use Rattle.words.proofs.Parts.{put_three}
use Rattle.control.specs.Control.{Cell, place_at}
use Rattle.batch.specs.Batch.{cell_with, shadow_for, staged, staged_from}

module _ (k : List ℕ) (n allowance : ℕ) where
  pub staged-past : (c : Cell) → allowance ≤ n → k ≡ staged allowance n c k
  unfolding staged
  staged-past c h = rw (le-ltb n allowance h)

  module _ (number : ℕ) (room : place_at n + 80 ≤ length k) (within : n < allowance) where
    -- number, content and side bytes, one after the other
    pub cell-put : (b : List ℕ) (side : ℕ) → length b ≡ 64
        → put (put (put k (place_at n) (to_le 8 number)) (place_at n + 8) (part b 0 64)) (place_at n + 72) (to_le 8 side)
        ≡ staged allowance n (cell_with number b side) k
    unfolding staged
    cell-put b side l =
        let w = length_digits 256 8 number in
        let v = length_digits 256 8 side in
        ap (λ (x : List ℕ). put (put (put k (place_at n) (to_le 8 number)) (place_at n + 8) x) (place_at n + 72) (to_le 8 side))
        (take_all 64 b (omega arith))
        ∙ put_three k (place_at n) (to_le 8 number) b (to_le 8 side) (place_at n + 8) (place_at n + 72) (omega arith) (omega arith) (omega arith)
        ∙ rw (lt-ltb n allowance within)

    -- number, owner and zeros
    pub shadow-put : (o : ℕ)
        → put (put (put k (place_at n) (to_le 8 number)) (place_at n + 8) (to_le 8 o)) (place_at n + 16) (replicate 64 0)
        ≡ staged allowance n (shadow_for number o) k
    unfolding staged
    shadow-put o =
        let w = length_digits 256 8 number in
        let v = length_digits 256 8 o in
        let z = length-replicate {A = ℕ} 64 0 in
        put_three k (place_at n) (to_le 8 number) (to_le 8 o) (replicate 64 0) (place_at n + 8) (place_at n + 16) (omega arith) (omega arith)
        (omega arith)
        ∙ rw (lt-ltb n allowance within)

-- one cell, none, and some after others
pub staged-one : (allowance n : ℕ) (c : Cell) (k : List ℕ) → staged allowance n c k ≡ staged_from allowance n (c ∷ []) k
unfolding staged_from
staged-one allowance n c k = refl

pub staged-none : (allowance n : ℕ) (k : List ℕ) → k ≡ staged_from allowance n [] k
unfolding staged_from
staged-none allowance n k = refl

pub staged-append : (allowance n : ℕ) (xs ys : List Cell) (k : List ℕ)
    → staged_from allowance n (xs ++ ys) k ≡ staged_from allowance (n + length xs) ys (staged_from allowance n xs k)
unfolding staged_from
staged-append allowance n [] ys k = let e : n ≡ n + 0 = omega arith in ap (λ (i : ℕ). staged_from allowance i ys k) e
staged-append allowance n (x ∷ xs) ys k =
    let e : suc n + length xs ≡ n + suc (length xs) = omega arith in
    staged-append allowance (suc n) xs ys (staged allowance n x k)
    ∙ ap (λ (i : ℕ). staged_from allowance i ys (staged_from allowance (suc n) xs (staged allowance n x k))) e
