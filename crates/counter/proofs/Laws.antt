-- Laws of the counter block: its major and its minors determine it, and a 64-bit word of it has the minors of a group. Assumes nothing.
use mathlib.Core.Path.{◌≡◌, refl, sym, ap, ap₂, ◌∙◌}
use mathlib.Core.List.{List, ◌++◌}
use Prim.Native.Nat.{ℕ, ◌+◌, ◌-◌, ◌*◌, ◌/◌, ◌%◌, ◌^◌, ◌≤◌, ◌<◌}
use native.Mathlib.Nat.{mod-lt, div-div-eq-div-mul}
use native.Mathlib.Omega.{arith}
use lib.Dec.{lit<}
use lib.Pow.{pow-add}
use lib.ListN.{length, take, drop, set, replicate, length-append, length-take, length-drop, length-set, take-append-drop}
use lib.Seq.{take_at, drop_at}
use Rattle.words.specs.Bytes.{number, digits, from_le, to_le, part, put}
use Rattle.words.proofs.Digits.{Below, below-append, below-take, below-drop, below_set, length_digits, below-digits, get_d-digits}
use Rattle.words.proofs.Digits.{number_append, number-drop, number-take, number-exact, digits-exact, number-lt-exact, pow-mul, number-inj}
use Rattle.words.proofs.Digits.{number-set}
use Rattle.words.proofs.Parts.{number-part, below_put, length-put, number_put}
use Rattle.counter.proofs.Fields.{field_cut, replace, replace-lt}
use Rattle.counter.specs.Counter.{major, minors, minor, counter_block, with_minor, forward}

pub major-lt : (b : List ℕ) → Below 256 b → major b < 2 ^ 64
unfolding major
major-lt b h = rw (number-take 256 8 b h) (mod-lt (from_le b) (lit< tt))

pub length-minors : (b : List ℕ) → length (minors b) ≡ 64
unfolding minors
length-minors b = length_digits 128 64 (from_le (drop 8 b))

pub below-minors : (b : List ℕ) → Below 128 (minors b)
unfolding minors
below-minors b = below-digits 128 64 (from_le (drop 8 b)) (lit< tt)

pub length-set-minors : (b : List ℕ) (j v : ℕ) → length (set (minors b) j v) ≡ 64
length-set-minors b j v = length-set (minors b) j v ∙ length-minors b

pub below-set-minors : (b : List ℕ) (j v : ℕ) → v < 128 → Below 128 (set (minors b) j v)
below-set-minors b j v hv = below_set (minors b) j v hv (below-minors b)

pub length-counter_block : (m : ℕ) (ms : List ℕ) → length (counter_block m ms) ≡ 64
unfolding counter_block
length-counter_block m ms = simp (length-append, length_digits)

pub below-counter_block : (m : ℕ) (ms : List ℕ) → Below 256 (counter_block m ms)
unfolding counter_block
below-counter_block m ms =
    below-append (to_le 8 m) (to_le 56 (number 128 ms)) (below-digits 256 8 m (lit< tt)) (below-digits 256 56 (number 128 ms) (lit< tt))

pub major-counter_block : (m : ℕ) (ms : List ℕ) → m < 2 ^ 64 → major (counter_block m ms) ≡ m
unfolding major counter_block
major-counter_block m ms h =
    ap from_le (take_at (to_le 8 m) (to_le 56 (number 128 ms)) 8 (length_digits 256 8 m))
    ∙ number-exact 256 8 m (lit< tt) h

pub minors-counter_block : (m : ℕ) (ms : List ℕ) → length ms ≡ 64 → Below 128 ms → minors (counter_block m ms) ≡ ms
unfolding minors counter_block
minors-counter_block m ms hl hb =
    ap (λ (l : List ℕ). digits 128 64 (from_le l)) (drop_at (to_le 8 m) (to_le 56 (number 128 ms)) 8 (length_digits 256 8 m))
    ∙ ap (digits 128 64) (number-exact 256 56 (number 128 ms) (lit< tt) (number-lt-exact 128 64 ms hl hb))
    ∙ digits-exact 128 64 ms hl hb

pub counter_block-eta : (b : List ℕ) → length b ≡ 64 → Below 256 b → counter_block (major b) (minors b) ≡ b
unfolding counter_block major minors
counter_block-eta b hl hb =
    let high : length (drop 8 b) ≡ 56 = simp length-drop (omega arith) in
    ap₂ {C = List ℕ} ◌++◌ (digits-exact 256 8 (take 8 b) (simp length-take (omega arith)) (below-take 8 b hb))
    (ap (to_le 56) (number-exact 128 64 (from_le (drop 8 b)) (lit< tt) (number-lt-exact 256 56 (drop 8 b) high (below-drop 8 b hb)))
    ∙ digits-exact 256 56 (drop 8 b) high (below-drop 8 b hb))
    ∙ take-append-drop 8 b

-- a block's number
number-counter_block : (m : ℕ) (ms : List ℕ) → m < 2 ^ 64 → length ms ≡ 64 → Below 128 ms → from_le (counter_block m ms)
    ≡ m + 2 ^ 64 * number 128 ms
unfolding counter_block
number-counter_block m ms hm hl hb =
    number_append 256 (to_le 8 m) (to_le 56 (number 128 ms))
    ∙ ap (λ (n : ℕ). from_le (to_le 8 m) + 256 ^ n * from_le (to_le 56 (number 128 ms))) (length_digits 256 8 m)
    ∙ ap₂ (λ (x y : ℕ). x + 2 ^ 64 * y) (number-exact 256 8 m (lit< tt) hm)
    (number-exact 256 56 (number 128 ms) (lit< tt) (number-lt-exact 128 64 ms hl hb))

pub counter_block-zero : counter_block 0 (replicate 64 0) ≡ replicate 64 0
unfolding counter_block number digits
counter_block-zero = refl

pub length-with_minor : (b : List ℕ) (j v : ℕ) → length (with_minor b j v) ≡ 64
unfolding with_minor
length-with_minor b j v = length-counter_block (major b) (set (minors b) j v)

pub below-with_minor : (b : List ℕ) (j v : ℕ) → Below 256 (with_minor b j v)
unfolding with_minor
below-with_minor b j v = below-counter_block (major b) (set (minors b) j v)

-- bit 8 + 7i of the word at byte 7 + 7g is the first of minor 8g + i
place : (j : ℕ) → 256 ^ (7 + j / 8 * 7) * 2 ^ (8 + j % 8 * 7) ≡ 2 ^ 64 * 128 ^ j
place j =
    let bits : 8 * (7 + j / 8 * 7) + (8 + j % 8 * 7) ≡ 64 + 7 * j = omega arith in
    ap (λ (x : ℕ). x * 2 ^ (8 + j % 8 * 7)) (pow-mul 2 8 (7 + j / 8 * 7))
    ∙ sym (pow-add 2 (8 * (7 + j / 8 * 7)) (8 + j % 8 * 7)) ∙ ap (λ (n : ℕ). 2 ^ n) bits ∙ pow-add 2 64 (7 * j)
    ∙ ap (λ (x : ℕ). 2 ^ 64 * x) (sym (pow-mul 2 7 j))

-- minor j in the word at byte 7 + 7 * (j / 8)
pub minor-word : (b : List ℕ) (j : ℕ) → Below 256 b → j < 64
    → from_le (part b (7 + j / 8 * 7) 8) / 2 ^ (8 + j % 8 * 7) % 128 ≡ minor b j
unfolding minors
minor-word b j hb hj =
    let at = 7 + j / 8 * 7 in
    let k = 8 + j % 8 * 7 in
    ap (λ (x : ℕ). x / 2 ^ k % 128) (number-part b at 8 hb)
    ∙ field_cut 64 7 k (from_le b / 256 ^ at) (omega arith)
    ∙ ap (λ (x : ℕ). x % 128)
    (div-div-eq-div-mul (from_le b) (256 ^ at) (2 ^ k) ∙ ap (λ (x : ℕ). from_le b / x) (place j)
    ∙ sym (div-div-eq-div-mul (from_le b) (2 ^ 64) (128 ^ j))
    ∙ ap (λ (x : ℕ). x / 128 ^ j) (sym (number-drop 256 8 b hb)))
    ∙ sym (get_d-digits 128 64 (from_le (drop 8 b)) j hj)

-- the number of a block with one minor replaced, with the old one added back
number-with_minor : (b : List ℕ) (j v : ℕ) → length b ≡ 64 → Below 256 b → j < 64 → v < 128
    → from_le (with_minor b j v) + minor b j * (2 ^ 64 * 128 ^ j) ≡ from_le b + v * (2 ^ 64 * 128 ^ j)
unfolding with_minor
number-with_minor b j v hl hb hj hv =
    let old = ap from_le (sym (counter_block-eta b hl hb))
    ∙ number-counter_block (major b) (minors b) (major-lt b hb) (length-minors b) (below-minors b) in
    let new =
    number-counter_block (major b) (set (minors b) j v) (major-lt b hb) (length-set-minors b j v) (below-set-minors b j v hv)
    in
    let digit = number-set 128 (minors b) j v (rw length-minors hj) in
    omega arith

-- the word w with v for its old bits of minor j, as the code computes it
abbrev pub exchanged : ℕ → ℕ → ℕ → ℕ
exchanged w j v = w - (w / 2 ^ (8 + j % 8 * 7) % 128 * 2 ^ (8 + j % 8 * 7)) % 2 ^ 64 + (v * 2 ^ (8 + j % 8 * 7)) % 2 ^ 64

-- the word at byte 7 + 7 * (j / 8), put back with v for minor j
pub put-minor : (b : List ℕ) (j v w : ℕ) → length b ≡ 64 → Below 256 b → j < 64 → v < 128 → w < 2 ^ 64
    → w ≡ from_le (part b (7 + j / 8 * 7) 8) → put b (7 + j / 8 * 7) (to_le 8 (exchanged w j v)) ≡ with_minor b j v
put-minor b j v w hl hb hj hv hw e =
    let at = 7 + j / 8 * 7 in
    let k = 8 + j % 8 * 7 in
    let hk : 7 + k ≤ 64 = omega arith in
    let x = exchanged w j v in
    let fits : at + 8 ≤ length b = omega arith in
    let size = length_digits 256 8 x in
    let stored =
    number_put 256 b at (to_le 8 x) 8 fits size
    ∙ ap (λ (y : ℕ). from_le b + y * 256 ^ at) (number-exact 256 8 x (lit< tt) (replace-lt 64 7 k w hk hw v hv))
    in
    let old : w / 2 ^ k % 128 ≡ minor b j = ap (λ (y : ℕ). y / 2 ^ k % 128) e ∙ minor-word b j hb hj in
    let word : x + minor b j * 2 ^ k ≡ from_le (part b at 8) + v * 2 ^ k =
    ap (λ (y : ℕ). x + y * 2 ^ k) (sym old) ∙ replace 64 7 k w hk hw v hv ∙ ap (λ (y : ℕ). y + v * 2 ^ k) e
    in
    let wanted : from_le (with_minor b j v) + minor b j * (256 ^ at * 2 ^ k) ≡ from_le b + v * (256 ^ at * 2 ^ k) =
    rw (place j) (number-with_minor b j v hl hb hj hv)
    in
    number-inj (below_put b at (to_le 8 x) hb (below-digits 256 8 x (lit< tt))) (below-with_minor b j v)
    (length-put b at (to_le 8 x) (rw size fits) ∙ hl ∙ sym (length-with_minor b j v))
    (omega (arith, ap (λ (y : ℕ). y * 256 ^ at) word))

pub forward-ge : (s p : ℕ) → s ≤ forward s p
unfolding forward
forward-ge s p = omega arith

pub forward-le : (s p : ℕ) → forward s p ≤ s + 3
unfolding forward
forward-le s p = omega arith

pub forward-reaches : (s m : ℕ) → s ≤ m → m ≤ s + 3 → forward s (m % 4) ≡ m
unfolding forward
forward-reaches s m h k = omega arith
