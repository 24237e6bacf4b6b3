-- Laws of `part` and `put`. Assumes nothing.
use mathlib.Core.Path.{◌≡◌, sym, ap, ap₂, ◌∙◌}
use mathlib.Core.List.{List, [], ◌∷◌, ◌++◌, append-nil, append_assoc}
use Prim.Native.Nat.{ℕ, zero, suc, ◌+◌, ◌-◌, ◌*◌, ◌/◌, ◌%◌, ◌^◌, ◌≤◌, ◌<◌}
use native.Mathlib.Nat.{mul_comm, zero-add, add-zero, add-suc, suc-add}
use native.Mathlib.Numerals.{towards_suc, add-one, add-two, add-three}
use native.Mathlib.Omega.{arith}
use lib.ListN.{length, take, drop, get_or, set, length-take, length-drop, length-append, take-append-drop, drop_of_length-le}
use lib.ListN.{replicate, length-replicate, get_or-replicate, replicate-append-replicate}
use lib.Dec.{lit<}
use lib.Seq.{drop-cons, take-nil, take-add, take-take, drop-drop, sets, sets-eq, length-sets, length-take-le, take_all, take_at, drop_at}
use lib.Seq.{take-append-le, drop-append-le, drop-append-add, get_or-take, get_or-drop, ext_get_or}
use Rattle.words.specs.Bytes.{number, digits, from_le, to_le, part, put}
use Rattle.words.proofs.Digits.{Below, below-append, below-take, below-drop, length_digits, number_append, number-take, number-drop}
use Rattle.words.proofs.Digits.{digits-cut, digits_append, digits-exact}

pub length_part : (s : List ℕ) (at n : ℕ) → at + n ≤ length s → length (part s at n) ≡ n
length_part s at n h = simp (length-take, length-drop) (omega arith)

pub part-suc : (s : List ℕ) (at n : ℕ) → at < length s → part s at (suc n) ≡ get_or s at 0 ∷ part s (suc at) n
part-suc s at n h = ap (take (suc n)) (drop-cons s at 0 h)

pub part-add : (s : List ℕ) (at n m : ℕ) → part s at (n + m) ≡ part s at n ++ part s (at + n) m
part-add s at n m = take-add n m (drop at s) ∙ ap (λ (l : List ℕ). part s at n ++ take m l) (drop-drop n at s)

pub drop-take : (i n : ℕ) (s : List ℕ) → drop i (take (i + n) s) ≡ take n (drop i s)
drop-take zero n s = rw zero-add
drop-take (suc i) n [] = rw (suc-add, take-nil)
drop-take (suc i) n (x ∷ s) = rw suc-add (drop-take i n s)

-- a part of a part
pub part-part : (s : List ℕ) (at n i m : ℕ) → i + m ≤ n → part (part s at n) i m ≡ part s (at + i) m
part-part s at n i m h =
    let whole : n ≡ i + (n - i) = omega arith in
    ap (λ (k : ℕ). take m (drop i (take k (drop at s)))) whole
    ∙ ap (take m) (drop-take i (n - i) (drop at s) ∙ ap (take (n - i)) (drop-drop i at s))
    ∙ take-take m (n - i) (drop (at + i) s) (omega arith)

-- a part of the first of two lists, and of the second
pub part-first : (xs ys : List ℕ) (at n : ℕ) → at + n ≤ length xs → part (xs ++ ys) at n ≡ part xs at n
part-first xs ys at n h =
    ap (take n) (drop-append-le at xs ys (omega arith)) ∙ take-append-le n (drop at xs) ys (omega (arith, length-drop at xs))

pub part-past : (xs ys : List ℕ) (at n : ℕ) → part (xs ++ ys) (length xs + at) n ≡ part ys at n
part-past xs ys at n = ap (take n) (drop-append-add xs ys at)

-- stores of bs one after the other from index at
pub put-sets : (s : List ℕ) (at : ℕ) (bs : List ℕ) → at + length bs ≤ length s → sets s at bs ≡ put s at bs
put-sets s at bs h = sets-eq bs s at h ∙ append_assoc (take at s) bs (drop (at + length bs) s)

pub length-put : (s : List ℕ) (at : ℕ) (bs : List ℕ) → at + length bs ≤ length s → length (put s at bs) ≡ length s
length-put s at bs h = ap length (sym (put-sets s at bs h)) ∙ length-sets s at bs

-- four digits at an index, one by one
pub number4 : (b : ℕ) (s : List ℕ) (at : ℕ) → at + 4 ≤ length s
    → number b (part s at 4) ≡ get_or s at 0 + get_or s (at + 1) 0 * b + get_or s (at + 2) 0 * (b * b) + get_or s (at + 3) 0 * (b * b * b)
unfolding number
number4 b s at h =
    simp (
      part-suc s at 3 (omega arith),
      part-suc s (suc at) 2 (omega arith),
      part-suc s (suc (suc at)) 1 (omega arith),
      part-suc s (suc (suc (suc at))) 0 (omega arith),
      towards_suc,
    )
    (omega arith)

-- n digits and m after them
pub number-parts : (b n m : ℕ) (s : List ℕ) (at : ℕ) → at + n ≤ length s
    → number b (part s at (n + m)) ≡ number b (part s at n) + number b (part s (at + n) m) * b ^ n
number-parts b n m s at h =
    ap (number b) (part-add s at n m) ∙ number_append b (part s at n) (part s (at + n) m)
    ∙ ap (λ (k : ℕ). number b (part s at n) + b ^ k * number b (part s (at + n) m)) (length_part s at n h)
    ∙ ap (λ (k : ℕ). number b (part s at n) + k) (mul_comm (b ^ n) (number b (part s (at + n) m)))

sets-append : (xs ys s : List ℕ) (at : ℕ) → sets (sets s at xs) (at + length xs) ys ≡ sets s at (xs ++ ys)
sets-append [] ys s at = rw add-zero
sets-append (x ∷ xs) ys s at = rw (add-suc, ← suc-add) (sets-append xs ys (set s at x) (suc at))

pub put-append : (s : List ℕ) (at : ℕ) (xs ys : List ℕ) → at + length xs + length ys ≤ length s
    → put (put s at xs) (at + length xs) ys ≡ put s at (xs ++ ys)
put-append s at xs ys h =
    let first : at + length xs ≤ length s = omega arith in
    sym (put-sets (put s at xs) (at + length xs) ys (rw (length-put s at xs first) h))
    ∙ ap (λ (l : List ℕ). sets l (at + length xs) ys) (sym (put-sets s at xs first))
    ∙ sets-append xs ys s at
    ∙ put-sets s at (xs ++ ys) (rw length-append (omega arith))

-- three lists, one behind the other
pub put_three : (s : List ℕ) (at : ℕ) (xs ys zs : List ℕ) (i j : ℕ) → i ≡ at + length xs → j ≡ i + length ys → j + length zs ≤ length s
    → put (put (put s at xs) i ys) j zs ≡ put s at (xs ++ (ys ++ zs))
put_three s at xs ys zs i j p q h =
    let two : j ≡ at + length (xs ++ ys) = q ∙ rw length-append (omega arith) in
    ap₂ {C = List ℕ} (λ (k : ℕ) (l : ℕ). put (put (put s at xs) k ys) l zs) p two
    ∙ ap (λ (l : List ℕ). put l (at + length (xs ++ ys)) zs) (put-append s at xs ys (omega arith))
    ∙ put-append s at (xs ++ ys) zs (omega arith) ∙ ap (put s at) (append_assoc xs ys zs)

-- a word stored byte by byte
pub put4 : (s : List ℕ) (at x : ℕ) → at + 4 ≤ length s
    → set (set (set (set s at (x % 256)) (at + 1) (x / 256 % 256)) (at + 2) (x / 256 / 256 % 256)) (at + 3) (x / 256 / 256 / 256 % 256)
    ≡ put s at (to_le 4 x)
unfolding digits
put4 s at x h = simp (add-one, add-two, add-three) (put-sets s at (to_le 4 x) h)

-- two halves of a word, stored one after the other
pub put8 : (s : List ℕ) (at x : ℕ) → at + 8 ≤ length s
    → put (put s at (to_le 4 (x % 4294967296))) (at + 4) (to_le 4 (x / 4294967296)) ≡ put s at (to_le 8 x)
unfolding digits
put8 s at x h =
    ap (λ (l : List ℕ). put (put s at l) (at + 4) (to_le 4 (x / 4294967296))) (digits-cut 256 4 x (lit< tt))
    ∙ put-append s at (to_le 4 x) (to_le 4 (x / 4294967296)) (omega arith)
    ∙ ap (put s at) (sym (digits_append 256 4 4 x))

-- n digits of a number from digit at on
pub part-digits : (b k x at n : ℕ) → at + n ≤ k → part (digits b k x) at n ≡ digits b n (x / b ^ at)
part-digits b k x at n h =
    let whole : k ≡ at + (n + (k - at - n)) = omega arith in
    let y = x / b ^ at in
    ap (λ (j : ℕ). part (digits b j x) at n) whole
    ∙ ap (λ (l : List ℕ). part l at n) (digits_append b at (n + (k - at - n)) x)
    ∙ ap (take n) (drop_at (digits b at x) (digits b (n + (k - at - n)) y) at (length_digits b at x) ∙ digits_append b n (k - at - n) y)
    ∙ take_at (digits b n y) (digits b (k - at - n) (y / b ^ n)) n (length_digits b n y)

pub number-part : {b : ℕ} (s : List ℕ) (at n : ℕ) → Below b s → number b (part s at n) ≡ number b s / b ^ at % b ^ n
number-part {b} s at n h =
    number-take b n (drop at s) (below-drop at s h) ∙ ap (λ (x : ℕ). x % b ^ n) (number-drop b at s h)

pub put-part : (s : List ℕ) (at n : ℕ) → at + n ≤ length s → put s at (part s at n) ≡ s
put-part s at n h =
    ap (λ (k : ℕ). take at s ++ (part s at n ++ drop (at + k) s)) (length_part s at n h)
    ∙ ap (λ (l : List ℕ). take at s ++ (part s at n ++ l)) (sym (drop-drop n at s))
    ∙ ap (λ (l : List ℕ). take at s ++ l) (take-append-drop n (drop at s))
    ∙ take-append-drop at s

pub below_put : {b : ℕ} (s : List ℕ) (at : ℕ) (bs : List ℕ) → Below b s → Below b bs → Below b (put s at bs)
below_put s at bs hs hb =
    below-append (take at s) (bs ++ drop (at + length bs) s) (below-take at s hs)
    (below-append bs (drop (at + length bs) s) hb (below-drop (at + length bs) s hs))

put-number : (b : ℕ) (s : List ℕ) (at : ℕ) (bs : List ℕ) (n : ℕ) → at ≤ length s → length bs ≡ n
    → number b (put s at bs) ≡ number b (take at s) + b ^ at * (number b bs + b ^ n * number b (drop (at + n) s))
put-number b s at bs n h hn =
    number_append b (take at s) (bs ++ drop (at + length bs) s)
    ∙ ap₂ (λ (k x : ℕ). number b (take at s) + b ^ k * x) (length-take-le at s h)
    (number_append b bs (drop (at + length bs) s) ∙ ap (λ (k : ℕ). number b bs + b ^ k * number b (drop (at + k) s)) hn)

-- n digits from index at replaced, with the old ones added back
pub number_put : (b : ℕ) (s : List ℕ) (at : ℕ) (bs : List ℕ) (n : ℕ) → at + n ≤ length s → length bs ≡ n
    → number b (put s at bs) + number b (part s at n) * b ^ at ≡ number b s + number b bs * b ^ at
number_put b s at bs n h hn =
    let l : at ≤ length s = omega arith in
    let new = put-number b s at bs n l hn in
    let old = ap (number b) (sym (put-part s at n h)) ∙ put-number b s at (part s at n) n l (length_part s at n h) in
    omega arith

pub put-nil : (s : List ℕ) (at : ℕ) → at ≤ length s → put s at [] ≡ s
put-nil s at h = sym (put-sets s at [] (rw add-zero h))

-- all of a list in the place of another of the same length
pub put_all : (s bs : List ℕ) → length bs ≡ length s → put s 0 bs ≡ bs
put_all s bs h =
    let none : length s ≤ 0 + length bs = omega arith in
    ap (λ (l : List ℕ). bs ++ l) (drop_of_length-le s none) ∙ append-nil bs

pub copy-all : (n : ℕ) (d s : List ℕ) → length d ≡ n → length s ≡ n → put d 0 (part s 0 n) ≡ s
copy-all n d s hd hs = ap (put d 0) (take_all n s (omega arith)) ∙ put_all d s (omega arith)

pub put_one : (s : List ℕ) (at y : ℕ) → at < length s → put s at (y ∷ []) ≡ set s at y
put_one s at y h = sym (put-sets s at (y ∷ []) (omega arith))

-- m bytes copied after n others
pub copy_more : (d : List ℕ) (to : ℕ) (s : List ℕ) (from n m : ℕ) → to + (n + m) ≤ length d → from + (n + m) ≤ length s
    → put (put d to (part s from n)) (to + n) (part s (from + n) m) ≡ put d to (part s from (n + m))
copy_more d to s from n m hd hs =
    let l : length (part s from n) ≡ n = length_part s from n (omega arith) in
    let k : length (part s (from + n) m) ≡ m = length_part s (from + n) m (omega arith) in
    ap (λ (j : ℕ). put (put d to (part s from n)) (to + j) (part s (from + n) m)) (sym l)
    ∙ put-append d to (part s from n) (part s (from + n) m) (omega arith) ∙ ap (put d to) (sym (part-add s from n m))

-- one byte more
pub copy-next : (d : List ℕ) (to : ℕ) (s : List ℕ) (from n : ℕ) → to + n < length d → from + n < length s
    → set (put d to (part s from n)) (to + n) (get_or s (from + n) 0) ≡ put d to (part s from (n + 1))
copy-next d to s from n hd hs =
    let l : length (part s from n) ≡ n = length_part s from n (omega arith) in
    let fits : to + length (part s from n) ≤ length d = rw l (omega arith) in
    sym (put_one (put d to (part s from n)) (to + n) (get_or s (from + n) 0) (rw (length-put d to (part s from n) fits) hd))
    ∙ ap (put (put d to (part s from n)) (to + n)) (sym (part-suc s (from + n) 0 hs))
    ∙ copy_more d to s from n 1 (omega arith) (omega arith)

-- a part of a run of equal ones
pub part-replicate : (b n at m : ℕ) → at + m ≤ n → part (replicate n b) at m ≡ replicate m b
part-replicate b n at m h =
    let whole = length-replicate {A = ℕ} n b in
    let size = length_part (replicate n b) at m (omega arith) in
    ext_get_or 0 (part (replicate n b) at m) (replicate m b) (size ∙ sym (length-replicate m b))
    (λ i q. get_or-take m (drop at (replicate n b)) i 0 (omega (arith, q, size)) ∙ get_or-drop at (replicate n b) i 0
    ∙ get_or-replicate n (at + i) b 0 (omega (arith, q, size)) ∙ sym (get_or-replicate m i b 0 (omega (arith, q, size))))

-- one byte more of such a run
pub fill-next : (s : List ℕ) (at n b : ℕ) → at + n < length s → set (put s at (replicate n b)) (at + n) b ≡ put s at (replicate (n + 1) b)
fill-next s at n b h =
    let l = length-replicate {A = ℕ} n b in
    sym (put_one (put s at (replicate n b)) (at + n) b (rw (length-put s at (replicate n b) (rw l (omega arith))) h))
    ∙ ap (λ (k : ℕ). put (put s at (replicate n b)) (at + k) (replicate 1 b)) (sym l)
    ∙ put-append s at (replicate n b) (replicate 1 b) (rw l (omega arith)) ∙ ap (put s at) (replicate-append-replicate n 1 b)

-- a word read and written
pub word-part : (s : List ℕ) (at n : ℕ) → at + n ≤ length s → Below 256 s → to_le n (from_le (part s at n)) ≡ part s at n
word-part s at n h b = digits-exact 256 n (part s at n) (length_part s at n h) (below-take n (drop at s) (below-drop at s b))
