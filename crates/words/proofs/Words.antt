-- Laws of `words_of` and `bytes_of`, over the width of a word. Assumes nothing.
use mathlib.Core.Path.{◌≡◌, refl, sym, ap, ap₂, ◌∙◌}
use mathlib.Core.List.{List, [], ◌∷◌, ◌++◌, append-nil, append_assoc}
use Prim.Native.Nat.{ℕ, zero, suc, ◌+◌, ◌*◌, ◌%◌, ◌^◌, ◌≤◌, ◌<◌}
use native.Mathlib.Nat.{zero-add, zero-mul, suc-add, suc-mul, add_comm, mod-eq_of_lt, min-le_left, mul-zero, mul-suc, le-add_right}
use native.Mathlib.Nat.{mul-le-mul_left, not-suc-le-zero, le_of_suc-le-suc}
use native.Mathlib.Omega.{arith}
use lib.ListN.{length, take, drop, get_or, set, length-append, length-take, length-drop}
use lib.Dec.{lit<}
use lib.Seq.{take-take, drop-drop, take-append-le, drop-append-le, take_at, drop_at}
use Rattle.words.specs.Bytes.{number, from_le, to_le, part, put, words_of, bytes_of}
use Rattle.words.proofs.Digits.{Below, below-head, below-tail, below-nil, below-cons, below-append, below-drop, below-take}
use Rattle.words.proofs.Digits.{below-digits, pow_pos, length_digits, number_digits, number-lt-pow}
use Rattle.words.proofs.Parts.{drop-take, put-append}
use Rattle.words.proofs.Puts.{take_put, drop-put-in}

-- n words, then m more
pub words-add : (w n m : ℕ) (s : List ℕ) → words_of w (n + m) s ≡ words_of w n s ++ words_of w m (drop (n * w) s)
unfolding words_of
words-add w zero m s = rw (zero-add, zero-mul)
words-add w (suc n) m s =
    ap (λ (k : ℕ). words_of w k s) (suc-add n m)
    ∙ ap (λ (r : List ℕ). from_le (take w s) ∷ r)
    (words-add w n m (drop w s)
    ∙ ap (λ (l : List ℕ). words_of w n (drop w s) ++ words_of w m l)
    (drop-drop (n * w) w s ∙ ap (λ (k : ℕ). drop k s) (add_comm w (n * w) ∙ sym (suc-mul n w))))

-- the words of s do not see what follows s
pub words-front : (w n : ℕ) (s t : List ℕ) → n * w ≤ length s → words_of w n (s ++ t) ≡ words_of w n s
unfolding words_of
words-front w zero s t h = refl
words-front w (suc n) s t h =
    let first : w ≤ length s = omega (arith, suc-mul n w) in
    let rest : n * w ≤ length (drop w s) = rw length-drop (omega (arith, suc-mul n w)) in
    ap₂ {C = List ℕ} (λ (a b : List ℕ). from_le a ∷ words_of w n b) (take-append-le w s t first) (drop-append-le w s t first)
    ∙ ap (λ (r : List ℕ). from_le (take w s) ∷ r) (words-front w n (drop w s) t rest)

pub length-bytes : (w : ℕ) (xs : List ℕ) → length (bytes_of w xs) ≡ length xs * w
unfolding bytes_of
length-bytes w [] = sym (zero-mul w)
length-bytes w (x ∷ xs) =
    length-append (to_le w x) (bytes_of w xs) ∙ ap₂ (λ (a b : ℕ). a + b) (length_digits 256 w x) (length-bytes w xs)
    ∙ add_comm w (length xs * w) ∙ sym (suc-mul (length xs) w)

pub words-bytes : (w : ℕ) (xs : List ℕ) → Below (256 ^ w) xs → words_of w (length xs) (bytes_of w xs) ≡ xs
unfolding words_of bytes_of
words-bytes w [] h = refl
words-bytes w (x ∷ xs) h =
    ap₂ {C = List ℕ} (λ (a b : List ℕ). from_le a ∷ words_of w (length xs) b)
    (take_at (to_le w x) (bytes_of w xs) w (length_digits 256 w x)) (drop_at (to_le w x) (bytes_of w xs) w (length_digits 256 w x))
    ∙ ap₂ {C = List ℕ} (λ (y : ℕ) (r : List ℕ). y ∷ r) (number_digits 256 w x (lit< tt) ∙ mod-eq_of_lt (below-head h))
    (words-bytes w xs (below-tail h))

-- the number at an index, also one that reaches past the end
pub part-lt : {b : ℕ} (w : ℕ) (s : List ℕ) (at : ℕ) → Below b s → number b (part s at w) < b ^ w
part-lt {b} w s at h =
    number-lt-pow b w (part s at w) (below-take w (drop at s) (below-drop at s h)) (rw length-take (min-le_left w (length (drop at s))))

pub below-words : (w n : ℕ) (s : List ℕ) → Below 256 s → Below (256 ^ w) (words_of w n s)
unfolding words_of
below-words w zero s h = below-nil (pow_pos 256 w (lit< tt))
below-words w (suc n) s h =
    below-cons (part-lt w s 0 h) (below-words w n (drop w s) (below-drop w s h))

pub below-bytes : (w : ℕ) (xs : List ℕ) → Below 256 (bytes_of w xs)
unfolding bytes_of
below-bytes w [] = below-nil (lit< tt)
below-bytes w (x ∷ xs) = below-append (to_le w x) (bytes_of w xs) (below-digits 256 w x (lit< tt)) (below-bytes w xs)

pub length-words : (w n : ℕ) (bs : List ℕ) → length (words_of w n bs) ≡ n
unfolding words_of
length-words w zero bs = refl
length-words w (suc n) bs = ap suc (length-words w n (drop w bs))

-- no byte past the last word counts
pub words_take : (w n : ℕ) (bs : List ℕ) → words_of w n (take (w * n) bs) ≡ words_of w n bs
unfolding words_of
words_take w zero bs = refl
words_take w (suc n) bs =
    let whole : w * suc n ≡ w + w * n = mul-suc w n ∙ add_comm (w * n) w in
    ap₂ {C = List ℕ} (λ (h t : List ℕ). from_le h ∷ words_of w n t)
    (take-take w (w * suc n) bs (rw whole (le-add_right w (w * n))))
    (ap (λ (k : ℕ). drop w (take k bs)) whole ∙ drop-take w (w * n) bs)
    ∙ ap (λ (t : List ℕ). from_le (take w bs) ∷ t) (words_take w n (drop w bs))

-- the word that bytes begin with
pub words-to_le : (w n x : ℕ) (bs : List ℕ) → words_of w (suc n) (to_le w x ++ bs) ≡ x % 256 ^ w ∷ words_of w n bs
unfolding words_of
words-to_le w n x bs =
    ap₂ {C = List ℕ} (λ (h t : List ℕ). from_le h ∷ words_of w n t)
    (take_at (to_le w x) bs w (length_digits 256 w x))
    (drop_at (to_le w x) bs w (length_digits 256 w x))
    ∙ ap (λ (k : ℕ). k ∷ words_of w n bs) (number_digits 256 w x (lit< tt))

pub bytes-append : (w : ℕ) (xs ys : List ℕ) → bytes_of w (xs ++ ys) ≡ bytes_of w xs ++ bytes_of w ys
unfolding bytes_of
bytes-append w [] ys = refl
bytes-append w (x ∷ xs) ys =
    ap (λ (t : List ℕ). to_le w x ++ t) (bytes-append w xs ys) ∙ sym (append_assoc (to_le w x) (bytes_of w xs) (bytes_of w ys))

pub bytes_one : (w x : ℕ) → to_le w x ≡ bytes_of w (x ∷ [])
unfolding bytes_of
bytes_one w x = sym (append-nil (to_le w x))

-- one more word stored behind others
pub put_word : (w : ℕ) (s : List ℕ) (at : ℕ) (xs : List ℕ) (x : ℕ) → at + length xs * w + w ≤ length s
    → put (put s at (bytes_of w xs)) (at + length xs * w) (to_le w x) ≡ put s at (bytes_of w (xs ++ (x ∷ [])))
put_word w s at xs x h =
    let size = length-bytes w xs in
    let one = length_digits 256 w x in
    ap (λ (k : ℕ). put (put s at (bytes_of w xs)) (at + k) (to_le w x)) (sym size)
    ∙ put-append s at (bytes_of w xs) (to_le w x) (omega arith)
    ∙ ap (put s at) (ap (λ (t : List ℕ). bytes_of w xs ++ t) (bytes_one w x) ∙ sym (bytes-append w xs (x ∷ [])))

-- the word at an index
pub get_d_words : (w n : ℕ) (s : List ℕ) (i : ℕ) → i < n → get_or (words_of w n s) i 0 ≡ from_le (part s (i * w) w)
unfolding words_of
get_d_words w zero s i h = absurd (not-suc-le-zero h)
get_d_words w (suc n) s zero h = ap (λ (k : ℕ). from_le (part s k w)) (sym (zero-mul w))
get_d_words w (suc n) s (suc i) h =
    get_d_words w n (drop w s) i (le_of_suc-le-suc h)
    ∙ ap (λ (l : List ℕ). from_le (take w l)) (drop-drop (i * w) w s ∙ ap (λ (k : ℕ). drop k s) (add_comm w (i * w) ∙ sym (suc-mul i w)))

-- a word put in the place of another
pub words-put : (w n : ℕ) (s : List ℕ) (j x : ℕ) → w * n ≤ length s → j < n → x < 256 ^ w
    → words_of w n (put s (w * j) (to_le w x)) ≡ set (words_of w n s) j x
unfolding words_of
words-put w zero s j x h hj hx = absurd (not-suc-le-zero hj)
words-put w (suc n) s zero x h hj hx =
    ap (λ (k : ℕ). words_of w (suc n) (put s k (to_le w x))) (mul-zero w)
    ∙ words-to_le w n x (drop (0 + length (to_le w x)) s)
    ∙ ap₂ {C = List ℕ} (λ (y k : ℕ). y ∷ words_of w n (drop k s)) (mod-eq_of_lt hx) (zero-add _ ∙ length_digits 256 w x)
words-put w (suc n) s (suc j) x h hj hx =
    let at : w * suc j ≡ w + w * j = mul-suc w j ∙ add_comm (w * j) w in
    let room : w + w * n ≤ length s = rw (add_comm, ← mul-suc) h in
    let rest : w * n ≤ length (drop w s) = rw length-drop (omega arith) in
    let before : w * j ≤ w * n = mul-le-mul_left w (omega arith) in
    ap (λ (k : ℕ). words_of w (suc n) (put s k (to_le w x))) at
    ∙ ap₂ {C = List ℕ} (λ (a b : List ℕ). from_le a ∷ words_of w n b)
    (take_put s (w + w * j) (to_le w x) (omega arith) w (le-add_right w (w * j))) (drop-put-in s w (w * j) (to_le w x) (omega arith))
    ∙ ap (λ (r : List ℕ). from_le (take w s) ∷ r) (words-put w n (drop w s) j x rest (le_of_suc-le-suc hj) hx)
