-- Laws of XOR, of numbers and byte by byte: done twice it gives the text back. Assumes nothing.
use mathlib.Core.Path.{◌≡◌, refl, sym, ap, ap₂, ◌∙◌}
use mathlib.Core.List.{List, [], ◌∷◌, ◌++◌}
use Prim.Native.Nat.{ℕ, zero, suc, ◌+◌, ◌*◌, ◌/◌, ◌%◌, ◌^◌, ◌≤◌, ◌<◌}
use native.Mathlib.Nat.{div-add-mod', mod-lt}
use native.Mathlib.Omega.{arith}
use lib.Arith.{bin_ind, digits_div, digits_mod}
use lib.Bits.{bit_xor, differ, xor_step, xor_self, xor_lt, xor_block}
use lib.Dec.{lit<}
use lib.ListN.{length, drop}
use Rattle.words.specs.Bytes.{number, digits, from_le, to_le, part, put}
use Rattle.words.proofs.Digits.{Below, below-nil, below-cons, below-head, below-tail, below-append, below-take, below-drop, below-digits}
use Rattle.words.proofs.Digits.{length_digits, number-exact, digits-exact}
use Rattle.words.proofs.Parts.{length_part, part-add, put-append}
use Rattle.pad.specs.Pad.{xor_bytes}

-- two binary digits
differ-lt : (x y : ℕ) → x < 2 → y < 2 → differ x y < 2
differ-lt zero y hx hy = hy
differ-lt (suc x) zero hx hy = hx
differ-lt (suc zero) (suc zero) hx hy = lit< tt
differ-lt (suc zero) (suc (suc y)) hx hy = absurd (omega arith)
differ-lt (suc (suc x)) (suc y) hx hy = absurd (omega arith)

differ-twice : (x y : ℕ) → x < 2 → y < 2 → differ (differ x y) y ≡ x
differ-twice zero zero hx hy = refl
differ-twice zero (suc zero) hx hy = refl
differ-twice zero (suc (suc y)) hx hy = absurd (omega arith)
differ-twice (suc zero) zero hx hy = refl
differ-twice (suc zero) (suc zero) hx hy = refl
differ-twice (suc zero) (suc (suc y)) hx hy = absurd (omega arith)
differ-twice (suc (suc x)) y hx hy = absurd (omega arith)

pub xor-twice : (a b : ℕ) → bit_xor (bit_xor a b) b ≡ a
xor-twice = bin_ind (λ (a : ℕ). (b : ℕ) → bit_xor (bit_xor a b) b ≡ a) xor_self step
  where
    step : (a : ℕ) → ((b : ℕ) → bit_xor (bit_xor (a / 2) b) b ≡ a / 2) → (b : ℕ) → bit_xor (bit_xor a b) b ≡ a
    step a ih b =
        let low = mod-lt a (lit< tt) in
        let low-b = mod-lt b (lit< tt) in
        let q = bit_xor (a / 2) (b / 2) in
        let d = differ (a % 2) (b % 2) in
        let hd = differ-lt (a % 2) (b % 2) low low-b in
        ap (λ (x : ℕ). bit_xor x b) (xor_step a b)
        ∙ xor_step (q * 2 + d) b
        ∙ ap₂ (λ (x y : ℕ). bit_xor x (b / 2) * 2 + differ y (b % 2)) (digits_div q hd) (digits_mod q hd)
        ∙ ap₂ (λ (x y : ℕ). x * 2 + y) (ih (b / 2)) (differ-twice (a % 2) (b % 2) low low-b)
        ∙ div-add-mod' a 2

pub length-xor : (t p : List ℕ) → length t ≤ length p → length (xor_bytes t p) ≡ length t
unfolding xor_bytes
length-xor [] p h = refl
length-xor (a ∷ t) [] h = absurd (omega arith)
length-xor (a ∷ t) (b ∷ p) h = ap suc (length-xor t p (omega arith))

pub xor-back : (t p : List ℕ) → length t ≤ length p → xor_bytes (xor_bytes t p) p ≡ t
unfolding xor_bytes
xor-back [] p h = refl
xor-back (a ∷ t) [] h = absurd (omega arith)
xor-back (a ∷ t) (b ∷ p) h = ap₂ {C = List ℕ} (λ (x : ℕ) (r : List ℕ). x ∷ r) (xor-twice a b) (xor-back t p (omega arith))

pub below-xor : (t p : List ℕ) → Below 256 t → Below 256 p → Below 256 (xor_bytes t p)
unfolding xor_bytes
below-xor [] p h k = h
below-xor (a ∷ t) [] h k = below-nil (lit< tt)
below-xor (a ∷ t) (b ∷ p) h k =
    below-cons (xor_lt 8 a b (below-head h) (below-head k)) (below-xor t p (below-tail h) (below-tail k))

-- as numbers: the XOR of two lists of bytes is that of their numbers
number-xor : (t p : List ℕ) → length t ≡ length p → Below 256 t → Below 256 p → from_le (xor_bytes t p) ≡ bit_xor (from_le t) (from_le p)
unfolding xor_bytes number
number-xor [] [] e h k = refl
number-xor [] (b ∷ p) e h k = absurd (omega arith)
number-xor (a ∷ t) [] e h k = absurd (omega arith)
number-xor (a ∷ t) (b ∷ p) e h k =
    let turn : (d n : ℕ) → d + 256 * n ≡ n * 256 + d = λ d n. omega arith in
    ap (λ (n : ℕ). bit_xor a b + 256 * n) (number-xor t p (omega arith) (below-tail h) (below-tail k))
    ∙ turn (bit_xor a b) (bit_xor (from_le t) (from_le p))
    ∙ sym (ap₂ bit_xor (turn a (from_le t)) (turn b (from_le p)) ∙ xor_block 8 (from_le t) (from_le p) a b (below-head h) (below-head k))

-- of a number, in n bytes
xor-number : (n : ℕ) (t p : List ℕ) → length t ≡ n → length p ≡ n → Below 256 t → Below 256 p
    → to_le n (bit_xor (from_le t) (from_le p)) ≡ xor_bytes t p
xor-number n t p lt lp ht hp =
    ap (to_le n) (sym (number-xor t p (lt ∙ sym lp) ht hp))
    ∙ digits-exact 256 n (xor_bytes t p) (length-xor t p (omega arith) ∙ lt) (below-xor t p ht hp)

-- of n bytes of a text and a number, in n bytes
pub xor-word : (n : ℕ) (t : List ℕ) (at w : ℕ) {x : ℕ} → at + n ≤ length t → Below 256 t → w < 256 ^ n
    → x ≡ from_le (part t at n) → to_le n (bit_xor x w) ≡ xor_bytes (part t at n) (to_le n w)
xor-word n t at w h ht hw e =
    ap₂ (λ (y z : ℕ). to_le n (bit_xor y z)) e (sym (number-exact 256 n w (lit< tt) hw))
    ∙ xor-number n (part t at n) (to_le n w) (length_part t at n h) (length_digits 256 n w)
    (below-take n (drop at t) (below-drop at t ht)) (below-digits 256 n w (lit< tt))

xor-append : (a b p q : List ℕ) → length a ≡ length p → xor_bytes (a ++ b) (p ++ q) ≡ xor_bytes a p ++ xor_bytes b q
unfolding xor_bytes
xor-append [] b [] q e = refl
xor-append [] b (y ∷ p) q e = absurd (omega arith)
xor-append (x ∷ a) b [] q e = absurd (omega arith)
xor-append (x ∷ a) b (y ∷ p) q e = ap (λ (r : List ℕ). bit_xor x y ∷ r) (xor-append a b p q (omega arith))

-- m bytes joined after n others
pub xor-more : (t out : List ℕ) (at n m : ℕ) (p q : List ℕ) → length p ≡ n → length q ≡ m
    → at + (n + m) ≤ length t → at + (n + m) ≤ length out
    → put (put out at (xor_bytes (part t at n) p)) (at + n) (xor_bytes (part t (at + n) m) q)
    ≡ put out at (xor_bytes (part t at (n + m)) (p ++ q))
xor-more t out at n m p q lp lq ht ho =
    let first = length_part t at n (omega arith) in
    let rest = length_part t (at + n) m (omega arith) in
    let x = xor_bytes (part t at n) p in
    let y = xor_bytes (part t (at + n) m) q in
    let lx : length x ≡ n = length-xor (part t at n) p (omega arith) ∙ first in
    let ly : length y ≡ m = length-xor (part t (at + n) m) q (omega arith) ∙ rest in
    ap (λ (k : ℕ). put (put out at x) (at + k) y) (sym lx) ∙ put-append out at x y (omega arith)
    ∙ ap (put out at)
    (sym (xor-append (part t at n) (part t (at + n) m) p q (omega arith))
    ∙ ap (λ (l : List ℕ). xor_bytes l (p ++ q)) (sym (part-add t at n m)))
