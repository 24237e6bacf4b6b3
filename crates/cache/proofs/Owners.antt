-- Owners one by one: those from a slot on, and what is asked of an empty slot and of a filled one. Assumes nothing.
use mathlib.Core.Path.{◌≡◌, ap, ◌∙◌}
use mathlib.Core.Bool.{Bool, true, ◌||◌, cond}
use mathlib.Core.List.{List, [], ◌∷◌}
use Prim.Native.Nat.{ℕ, suc, ◌<◌, ◌≤◌}
use native.Mathlib.Omega.{arith}
use lib.Dec.{leb, eqb}
use lib.ListN.{length, take, drop, get_or, length-take, drop_of_length-le}
use lib.Seq.{drop-cons, get_or-take, length-take-le}
use borrow.Author.Tests.{eq-eqb, ne_eqb}

-- the first of n elements from s on, and the rest
pub rest : (os : List ℕ) (n s : ℕ) → s < n → n ≤ length os → drop s (take n os) ≡ get_or os s 0 ∷ drop (suc s) (take n os)
rest os n s p q =
    drop-cons (take n os) s 0 (rw (length-take-le n os q) p)
    ∙ ap (λ (x : ℕ). x ∷ drop (suc s) (take n os)) (get_or-take n os s 0 p)

pub none : (os : List ℕ) (n s : ℕ) → n ≤ s → drop s (take n os) ≡ []
none os n s p = drop_of_length-le (take n os) (let end : length (take n os) ≤ s = rw (length-take n os) (omega arith) in end)

-- an empty slot is in place, and a filled one where its owner belongs
pub place-empty : (o : ℕ) (b : Bool) → o ≡ 0 → (eqb o 0 || b) ≡ true
place-empty o b e = ap (λ (t : Bool). t || b) (eq-eqb o 0 e)

pub place-filled : (o : ℕ) (b : Bool) → (o ≡ 0 → ⊥) → (eqb o 0 || b) ≡ b
place-filled o b e = ap (λ (t : Bool). t || b) (ne_eqb o 0 e)

-- what is asked of dirty in an empty slot, and in a filled one
pub flag-empty : (o d : ℕ) → o ≡ 0 → leb d (cond (eqb o 0) 0 1) ≡ leb d 0
flag-empty o d e = ap (λ (b : Bool). leb d (cond b 0 1)) (eq-eqb o 0 e)

pub flag-filled : (o d : ℕ) → (o ≡ 0 → ⊥) → leb d (cond (eqb o 0) 0 1) ≡ leb d 1
flag-filled o d e = ap (λ (b : Bool). leb d (cond b 0 1)) (ne_eqb o 0 e)
