-- A part of a list in which bytes were put, before them, of them and after them. Assumes nothing.
use mathlib.Core.Path.{◌≡◌, sym, ap, ap₂, ◌∙◌}
use mathlib.Core.List.{List, ◌++◌, append_assoc}
use Prim.Native.Nat.{ℕ, ◌+◌, ◌-◌, ◌≤◌, ◌<◌}
use native.Mathlib.Nat.{zero-add, add-zero, add_assoc}
use native.Mathlib.Omega.{arith}
use lib.ListN.{length, take, drop, get_or, length-drop, take-append-drop}
use lib.Dec.{lit<}
use lib.Seq.{length-take-le, take_all, take-take, take_at, take-append-le, drop-append-le, drop-append-add, drop-drop, get_or-take, get_or-drop}
use Rattle.words.specs.Bytes.{part, put}
use Rattle.words.proofs.Parts.{drop-take, length_part, part-part, length-put, copy_more}

pub get_d_part : (s : List ℕ) (at n i : ℕ) → i < n → get_or (part s at n) i 0 ≡ get_or s (at + i) 0
get_d_part s at n i h = get_or-take n (drop at s) i 0 h ∙ get_or-drop at s i 0

-- equal parts of one byte, as bytes
one : (s t : List ℕ) (i j : ℕ) → part s i 1 ≡ part t j 1 → get_or s i 0 ≡ get_or t j 0
one s t i j e = sym (byte s i) ∙ ap (λ (l : List ℕ). get_or l 0 0) e ∙ byte t j
  where
    byte : (l : List ℕ) (k : ℕ) → get_or (part l k 1) 0 0 ≡ get_or l k 0
    byte l k = get_d_part l k 1 0 (lit< tt) ∙ ap (λ (m : ℕ). get_or l m 0) (add-zero k)

module _ (s : List ℕ) (at : ℕ) (bs : List ℕ) (h : at ≤ length s) where
  drop-from : (i : ℕ) → drop (at + i) (put s at bs) ≡ drop i (bs ++ drop (at + length bs) s)
  drop-from i =
      let front : length (take at s) ≡ at = length-take-le at s h in
      ap (λ (k : ℕ). drop (k + i) (put s at bs)) (sym front)
      ∙ drop-append-add (take at s) (bs ++ drop (at + length bs) s) i

  pub part-put-in : (i n : ℕ) → i + n ≤ length bs → part (put s at bs) (at + i) n ≡ part bs i n
  part-put-in i n p =
      let room : n ≤ length (drop i bs) = rw length-drop (omega arith) in
      ap (take n) (drop-from i ∙ drop-append-le i bs (drop (at + length bs) s) (omega arith))
      ∙ take-append-le n (drop i bs) (drop (at + length bs) s) room

  pub part-put-same : (n : ℕ) → length bs ≡ n → part (put s at bs) at n ≡ bs
  part-put-same n e =
      ap (λ (k : ℕ). part (put s at bs) k n) (sym (add-zero at)) ∙ part-put-in 0 n (omega arith) ∙ take_all n bs (omega arith)

  pub part-put-before : (i n : ℕ) → i + n ≤ at → part (put s at bs) i n ≡ part s i n
  part-put-before i n p =
      let front : length (take at s) ≡ at = length-take-le at s h in
      let room : n ≤ length (drop i (take at s)) = rw (length-drop, front) (omega arith) in
      ap (take n) (drop-append-le i (take at s) (bs ++ drop (at + length bs) s) (omega arith))
      ∙ take-append-le n (drop i (take at s)) (bs ++ drop (at + length bs) s) room
      ∙ part-part s 0 at i n p ∙ ap (λ (k : ℕ). part s k n) (zero-add i)

  pub take_put : (i : ℕ) → i ≤ at → take i (put s at bs) ≡ take i s
  take_put i p =
      let front : length (take at s) ≡ at = length-take-le at s h in
      take-append-le i (take at s) (bs ++ drop (at + length bs) s) (rw front p) ∙ take-take i at s p

  pub drop-put : (i : ℕ) → at + length bs ≤ i → drop i (put s at bs) ≡ drop i s
  drop-put i p =
      let k = i - (at + length bs) in
      let whole : i ≡ at + (length bs + k) = omega arith in
      let back : at + length bs + k ≡ i = omega arith in
      ap (λ (j : ℕ). drop j (put s at bs)) whole ∙ drop-from (length bs + k)
      ∙ drop-append-add bs (drop (at + length bs) s) k ∙ drop-drop k (at + length bs) s ∙ ap (λ (j : ℕ). drop j s) back

  pub part-put-after : (i n : ℕ) → at + length bs ≤ i → part (put s at bs) i n ≡ part s i n
  part-put-after i n p = ap (take n) (drop-put i p)

  -- what a later put covers does not count
  pub put-put : (ys : List ℕ) → length bs ≤ length ys → put (put s at bs) at ys ≡ put s at ys
  put-put ys p =
      ap₂ {C = List ℕ} (λ (a b : List ℕ). a ++ (ys ++ b))
      (take_at (take at s) (bs ++ drop (at + length bs) s) at (length-take-le at s h)) (drop-put (at + length ys) (omega arith))

  pub get_d-put-in : (i : ℕ) → i < length bs → get_or (put s at bs) (at + i) 0 ≡ get_or bs i 0
  get_d-put-in i p = one (put s at bs) bs (at + i) i (part-put-in i 1 (omega arith))

-- what is left after the first i, of a put behind them
pub drop-put-in : (s : List ℕ) (i at : ℕ) (bs : List ℕ) → i + at ≤ length s → drop i (put s (i + at) bs) ≡ put (drop i s) at bs
drop-put-in s i at bs h =
    let front : length (take (i + at) s) ≡ i + at = length-take-le (i + at) s h in
    drop-append-le i (take (i + at) s) (bs ++ drop (i + at + length bs) s) (omega arith)
    ∙ ap₂ {C = List ℕ} (λ (a b : List ℕ). a ++ (bs ++ b)) (drop-take i at s)
    (ap (λ (k : ℕ). drop k s) (add_assoc i at (length bs)) ∙ sym (drop-drop (at + length bs) i s))

-- m bytes copied after n others, over the first k of them
pub copy-over : (d : List ℕ) (to : ℕ) (s : List ℕ) (from n k m : ℕ) → k ≤ m → to + (n + m) ≤ length d → from + (n + m) ≤ length s
    → put (put d to (part s from (n + k))) (to + n) (part s (from + n) m) ≡ put d to (part s from (n + m))
copy-over d to s from n k m p hd hs =
    let front = length_part s from n (omega arith) in
    let fits : to + n ≤ length (put d to (part s from n)) = rw (length-put d to (part s from n) (omega arith)) (omega arith) in
    let shorter : length (part s (from + n) k) ≤ length (part s (from + n) m) =
    rw (length_part s (from + n) k (omega arith), length_part s (from + n) m (omega arith)) p
    in
    ap (λ (l : List ℕ). put l (to + n) (part s (from + n) m)) (sym (copy_more d to s from n k (omega arith) (omega arith)))
    ∙ put-put (put d to (part s from n)) (to + n) (part s (from + n) k) fits (part s (from + n) m) shorter
    ∙ copy_more d to s from n m hd hs

-- a put that ends within the first of two lists
put-left : (a b : List ℕ) (at : ℕ) (xs : List ℕ) → at + length xs ≤ length a → put (a ++ b) at xs ≡ put a at xs ++ b
put-left a b at xs h =
    ap₂ {C = List ℕ} (λ (l r : List ℕ). l ++ (xs ++ r)) (take-append-le at a b (omega arith)) (drop-append-le (at + length xs) a b h)
    ∙ sym
    (append_assoc (take at a) (xs ++ drop (at + length xs) a) b
    ∙ ap (λ (l : List ℕ). take at a ++ l) (append_assoc xs (drop (at + length xs) a) b))

-- the first j of a list, after a put that ends there
take_left : (s : List ℕ) (i : ℕ) (xs : List ℕ) (j : ℕ) → i + length xs ≤ j → j ≤ length s → take j (put s i xs) ≡ put (take j s) i xs
take_left s i xs j p q =
    let cut : length (take j s) ≡ j = length-take-le j s q in
    let inside : i + length xs ≤ length (take j s) = rw cut p in
    ap (λ (l : List ℕ). take j (put l i xs)) (sym (take-append-drop j s))
    ∙ ap (take j) (put-left (take j s) (drop j s) i xs inside)
    ∙ take_at (put (take j s) i xs) (drop j s) j (length-put (take j s) i xs inside ∙ cut)

-- puts that lie apart, in either order
pub put-comm : (s : List ℕ) (i : ℕ) (xs : List ℕ) (j : ℕ) (ys : List ℕ) → i + length xs ≤ j → j + length ys ≤ length s
    → put (put s i xs) j ys ≡ put (put s j ys) i xs
put-comm s i xs j ys p q =
    let inside : i + length xs ≤ length (take j s) = rw (length-take-le j s (omega arith)) p in
    ap₂ {C = List ℕ} (λ (a b : List ℕ). a ++ (ys ++ b)) (take_left s i xs j p (omega arith))
    (drop-put s i xs (omega arith) (j + length ys) (omega arith))
    ∙ sym (put-left (take j s) (ys ++ drop (j + length ys) s) i xs inside)

-- a part of a list written anew
pub part-put : (s : List ℕ) (at : ℕ) (bs : List ℕ) (n : ℕ) → length bs ≡ n → take at s ++ (bs ++ drop n (drop at s)) ≡ put s at bs
part-put s at bs n e = ap (λ (l : List ℕ). take at s ++ (bs ++ l)) (drop-drop n at s ∙ ap (λ (k : ℕ). drop (at + k) s) (sym e))

-- and a put within it
pub put-within : (s : List ℕ) (at n i : ℕ) (bs : List ℕ) → at + n ≤ length s → i + length bs ≤ n
    → put s (at + i) bs ≡ put s at (put (part s at n) i bs)
put-within s at n i bs h p =
    let size : length (part s at n) ≡ n = length_part s at n h in
    let room : i + length bs ≤ length (part s at n) = rw size p in
    sym (take-append-drop at (put s (at + i) bs))
    ∙ ap₂ {C = List ℕ} ◌++◌ (take_put s (at + i) bs (omega arith) at (omega arith)) (drop-put-in s at i bs (omega arith))
    ∙ ap (λ (l : List ℕ). take at s ++ put l i bs) (sym (take-append-drop n (drop at s)))
    ∙ ap (λ (l : List ℕ). take at s ++ l) (put-left (part s at n) (drop n (drop at s)) i bs room)
    ∙ part-put s at (put (part s at n) i bs) n (length-put (part s at n) i bs room ∙ size)
