-- Three numbers in a buffer. Assumes nothing.
use mathlib.Core.Path.{◌≡◌, sym, ap, ◌∙◌}
use mathlib.Core.List.{List, [], ◌∷◌, ◌++◌, append-nil}
use Prim.Native.Nat.{ℕ}
use native.Mathlib.Omega.{arith}
use lib.ListN.{length, length-append}
use Rattle.words.specs.Bytes.{to_le, put, bytes_of}
use Rattle.words.proofs.Digits.{length_digits}
use Rattle.words.proofs.Parts.{put_three, put_all}

-- three numbers, one after the other
pub numbers-put : (s : List ℕ) (x y z : ℕ) → length s ≡ 24
    → put (put (put s 0 (to_le 8 x)) 8 (to_le 8 y)) 16 (to_le 8 z) ≡ bytes_of 8 (x ∷ y ∷ z ∷ [])
unfolding bytes_of
numbers-put s x y z e =
    let a = length_digits 256 8 x in
    let b = length_digits 256 8 y in
    let c = length_digits 256 8 z in
    put_three s 0 (to_le 8 x) (to_le 8 y) (to_le 8 z) 8 16 (omega arith) (omega arith) (omega arith)
    ∙ put_all s _ (omega (arith, length-append (to_le 8 x) (to_le 8 y ++ to_le 8 z), length-append (to_le 8 y) (to_le 8 z)))
    ∙ ap (λ (l : List ℕ). to_le 8 x ++ (to_le 8 y ++ l)) (sym (append-nil (to_le 8 z)))
