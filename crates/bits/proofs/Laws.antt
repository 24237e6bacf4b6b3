-- Laws of the set bits of a number. Assumes nothing.
use mathlib.Core.Path.{◌≡◌, refl, sym, ap, ap₂, ◌∙◌, subst}
use mathlib.Core.Logic.{◌⊎◌, inl, inr, ⊎_elim}
use mathlib.Core.List.Memᴰ
use mathlib.Core.List.{List, [], ◌∷◌, Memᴰ}
use Prim.Native.Nat.{ℕ, zero, suc, ◌+◌, ◌-◌, ◌*◌, ◌/◌, ◌%◌, ◌^◌, ◌≤◌, ◌<◌, zero-le, min}
use native.Mathlib.Nat.{pow-zero, pow-suc, pow-succ', suc-add, add-suc, add-zero, zero-add, mul-one, zero-mul, div-one, zero-min, min-zero}
use native.Mathlib.Nat.{div-add-mod', div-div-eq-div-mul}
use native.Mathlib.Omega.{arith}
use borrow.Author.Tests.{eq-eqb, ne_eqb}
use lib.Pow.{pow_pos}
use lib.Bits.{bit_and, and_step, and_self}
use lib.Count.{ones, ones_step, count_trailing_zeros, under}
use lib.ListN.{length, get_or, drop, drop_of_length-le}
use Rattle.words.proofs.Order.{lt-or-ge}
use Rattle.bits.specs.Bits.{set_from, set_bits, with_bits}
use Rattle.bits.proofs.Climbs.{Climbs, end, up, climbs-lower, climbs-length, climbs-mem, climbs-at}

-- ---- the lowest of n + 1 bits, and those above it

even-or-odd : (x : ℕ) → (x % 2 ≡ 0) ⊎ (x % 2 ≡ 1)
even-or-odd x = go (lt-or-ge (x % 2) 1)
  where
    go : (x % 2 < 1) ⊎ (1 ≤ x % 2) → (x % 2 ≡ 0) ⊎ (x % 2 ≡ 1)
    go (inl p) = inl (omega arith)
    go (inr p) = inr (omega arith)

module _ (j n x : ℕ) where
  set-even : x % 2 ≡ 0 → set_from j (suc n) x ≡ set_from (suc j) n (x / 2)
  unfolding set_from
  set-even e = rw (ne_eqb (x % 2) 1 (λ z. omega arith))

  set-odd : x % 2 ≡ 1 → set_from j (suc n) x ≡ j ∷ set_from (suc j) n (x / 2)
  unfolding set_from
  set-odd e = rw (eq-eqb (x % 2) 1 e)

  by-lowest : (P : List ℕ → Type 0) → (x % 2 ≡ 0 → P (set_from (suc j) n (x / 2))) → (x % 2 ≡ 1 → P (j ∷ set_from (suc j) n (x / 2)))
      → P (set_from j (suc n) x)
  by-lowest P even odd = go (even-or-odd x)
    where
      go : (x % 2 ≡ 0) ⊎ (x % 2 ≡ 1) → P (set_from j (suc n) x)
      go (inl e) = subst P (sym (set-even e)) (even e)
      go (inr e) = subst P (sym (set-odd e)) (odd e)

  -- a bit below the n of x
  pub set_twice : set_from j (suc n) (x * 2) ≡ set_from (suc j) n x
  unfolding set_from
  set_twice =
      let low : x * 2 % 2 ≡ 0 = omega arith in
      let half : x * 2 / 2 ≡ x = omega arith in
      rw (low, half)

  pub set-twice-one : set_from j (suc n) (x * 2 + 1) ≡ j ∷ set_from (suc j) n x
  unfolding set_from
  set-twice-one =
      let low : (x * 2 + 1) % 2 ≡ 1 = omega arith in
      let half : (x * 2 + 1) / 2 ≡ x = omega arith in
      rw (low, half)

half_lt : (n x : ℕ) → x < 2 ^ suc n → x / 2 < 2 ^ n
half_lt n x h = omega (arith, pow-suc 2 n)

-- ---- the set bits climb

set-climbs : (j n hi x : ℕ) → j + n ≡ hi → Climbs hi j (set_from j n x)
unfolding set_from
set-climbs j zero hi x e = end
set-climbs j (suc n) hi x e =
    let rest = set-climbs (suc j) n hi (x / 2) (omega arith) in
    by-lowest j n x (Climbs hi j) (λ z. climbs-lower j (omega arith) rest) (λ z. up {lo = j} {j = j} (omega arith) (omega arith) rest)

pub bits-climb : (x : ℕ) → Climbs 64 0 (set_bits x)
bits-climb x = set-climbs 0 64 64 x refl

pub bits-length : (x : ℕ) → length (set_bits x) ≤ 64
bits-length x = omega (arith, climbs-length (bits-climb x) zero-le)

-- ---- a number from its bits

with-set : (j n x : ℕ) → x < 2 ^ n → with_bits (set_from j n x) ≡ x * 2 ^ j
unfolding set_from with_bits
with-set j zero x h = let none : x ≡ 0 = omega arith in sym (zero-mul (2 ^ j)) ∙ ap (λ (m : ℕ). m * 2 ^ j) (sym none)
with-set j (suc n) x h =
    let p = 2 ^ j in
    let above : with_bits (set_from (suc j) n (x / 2)) ≡ x / 2 * (p * 2) =
    with-set (suc j) n (x / 2) (half_lt n x h) ∙ ap (λ (m : ℕ). x / 2 * m) (pow-suc 2 j)
    in
    let whole : (x / 2 * 2 + x % 2) * p ≡ x * p = ap (λ (m : ℕ). m * p) (div-add-mod' x 2) in
    by-lowest j n x (λ (l : List ℕ). with_bits l ≡ x * p) (λ e. omega (arith, ap (λ (m : ℕ). m * p) e))
    (λ e. omega (arith, ap (λ (m : ℕ). m * p) e))

pub with-bits : (x : ℕ) → x < 2 ^ 64 → with_bits (set_bits x) ≡ x
with-bits x h = with-set 0 64 x h ∙ mul-one x

-- the number whose bits are known
pub with-of : (x : ℕ) {js : List ℕ} → x < 2 ^ 64 → set_bits x ≡ js → x ≡ with_bits js
with-of x h e = sym (with-bits x h) ∙ ap with_bits e

pub bits_none : set_bits 0 ≡ []
unfolding set_from
bits_none = refl

pub none-bits : (x : ℕ) → x < 2 ^ 64 → set_bits x ≡ [] → x ≡ 0
unfolding with_bits
none-bits x h e = with-of x h e

pub bits-some : (x : ℕ) → 0 < x → x < 2 ^ 64 → 0 < length (set_bits x)
bits-some x p h = go (lt-or-ge 0 (length (set_bits x)))
  where
    go : (0 < length (set_bits x)) ⊎ (length (set_bits x) ≤ 0) → 0 < length (set_bits x)
    go (inl q) = q
    go (inr q) = absurd (omega (arith, none-bits x h (drop_of_length-le (set_bits x) q)))

-- ---- bits that climb, from their number

-- js are the set bits among n of a number, the lowest of which is bit j
record Numbered (j n : ℕ) (js : List ℕ) : Type 0 where
  of : ℕ
  sum : with_bits js ≡ of * 2 ^ j
  bits : set_from j n of ≡ js
  fits : of < 2 ^ n

module _ {j n : ℕ} {js : List ℕ} (above : Numbered (suc j) n js) where
  sum-above : with_bits js ≡ above.of * (2 ^ j * 2)
  sum-above = above.sum ∙ ap (λ (p : ℕ). above.of * p) (pow-suc 2 j)

  low_clear : Numbered j (suc n) js
  low_clear =
      record {
        of = above.of * 2;
        sum = omega (arith, sum-above);
        bits = set_twice j n above.of ∙ above.bits;
        fits = omega (arith, above.fits, pow-suc 2 n);
      }

  low-set : Numbered j (suc n) (j ∷ js)
  unfolding with_bits
  low-set =
      record {
        of = above.of * 2 + 1;
        sum = omega (arith, sum-above);
        bits = set-twice-one j n above.of ∙ ap (λ (l : List ℕ). j ∷ l) above.bits;
        fits = omega (arith, above.fits, pow-suc 2 n);
      }

numbered : (j n hi : ℕ) (js : List ℕ) → j + n ≡ hi → Climbs hi j js → Numbered j n js
unfolding set_from with_bits
numbered j zero hi [] e end = record { of = 0; sum = sym (zero-mul (2 ^ j)); bits = refl; fits = pow_pos 0 }
numbered j zero hi (i ∷ js) e (up p q rest) = absurd (omega arith)
numbered j (suc n) hi [] e end = low_clear (numbered (suc j) n hi [] (omega arith) end)
numbered j (suc n) hi (i ∷ js) e (up p q rest) =
    go (lt-or-ge j i) (λ l. numbered (suc j) n hi (i ∷ js) (omega arith) (up l q rest))
    (numbered (suc j) n hi js (omega arith) (climbs-lower (suc j) (omega arith) rest))
  where
    go : (j < i) ⊎ (i ≤ j) → (j < i → Numbered (suc j) n (i ∷ js)) → Numbered (suc j) n js → Numbered j (suc n) (i ∷ js)
    go (inl l) later above = low_clear (later l)
    go (inr l) later above = let here : j ≡ i = omega arith in subst (λ (k : ℕ). Numbered j (suc n) (k ∷ js)) here (low-set above)

module _ {js : List ℕ} (climb : Climbs 64 0 js) where
  whole : Numbered 0 64 js
  whole = numbered 0 64 64 js refl climb

  same : with_bits js ≡ whole.of
  same = whole.sum ∙ mul-one whole.of

  pub bits-with : set_bits (with_bits js) ≡ js
  bits-with = ap set_bits same ∙ whole.bits

  pub with-lt : with_bits js < 2 ^ 64
  with-lt = omega (arith, same, whole.fits)

-- ---- the lowest set bit

lowest-from : (j n x : ℕ) → 0 < x → x < 2 ^ n → j + count_trailing_zeros n x ≡ get_or (set_from j n x) 0 0
unfolding count_trailing_zeros
lowest-from j zero x p h = absurd (omega (arith, pow-zero 2))
lowest-from j (suc n) x p h =
    by-lowest j n x (λ (l : List ℕ). j + under (x % 2) (count_trailing_zeros n (x / 2)) ≡ get_or l 0 0)
    (λ e. rw (e, add-suc, ← suc-add) (lowest-from (suc j) n (x / 2) (omega arith) (half_lt n x h)))
    (λ e. rw e (add-zero j))

pub lowest-bit : (x : ℕ) → 0 < x → x < 2 ^ 64 → count_trailing_zeros 64 x ≡ get_or (set_bits x) 0 0
lowest-bit x p h = sym (zero-add (count_trailing_zeros 64 x)) ∙ lowest-from 0 64 x p h

pub lowest-lt : (x : ℕ) → 0 < x → x < 2 ^ 64 → get_or (set_bits x) 0 0 < 64
lowest-lt x p h = (climbs-at (bits-climb x) 0 (bits-some x p h)).1

-- ---- how many are set

count-from : (j n x : ℕ) → x < 2 ^ n → ones x ≡ length (set_from j n x)
unfolding set_from ones
count-from j zero x h = let none : x ≡ 0 = omega (arith, pow-zero 2) in ap ones none
count-from j (suc n) x h =
    let above = count-from (suc j) n (x / 2) (half_lt n x h) in
    by-lowest j n x (λ (l : List ℕ). ones x ≡ length l) (λ e. omega (arith, ones_step x)) (λ e. omega (arith, ones_step x))

pub count_bits : (x : ℕ) → x < 2 ^ 64 → ones x ≡ length (set_bits x)
count_bits x h = count-from 0 64 x h

-- ---- the lowest set bit cleared

cleared-odd : (x : ℕ) → x % 2 ≡ 1 → bit_and x (x - 1) ≡ x / 2 * 2
cleared-odd x e =
    let low : (x - 1) % 2 ≡ 0 = omega arith in
    let high : (x - 1) / 2 ≡ x / 2 = omega arith in
    and_step x (x - 1) ∙ ap₂ (λ (h l : ℕ). bit_and (x / 2) h * 2 + min (x % 2) l) high low
    ∙ ap₂ (λ (h l : ℕ). h * 2 + l) (and_self (x / 2)) (min-zero (x % 2)) ∙ add-zero (x / 2 * 2)

cleared-even : (x : ℕ) → 0 < x → x % 2 ≡ 0 → bit_and x (x - 1) ≡ bit_and (x / 2) (x / 2 - 1) * 2
cleared-even x p e =
    let high : (x - 1) / 2 ≡ x / 2 - 1 = omega arith in
    and_step x (x - 1) ∙ ap₂ (λ (h l : ℕ). bit_and (x / 2) h * 2 + min l ((x - 1) % 2)) high e
    ∙ ap (λ (l : ℕ). bit_and (x / 2) (x / 2 - 1) * 2 + l) (zero-min ((x - 1) % 2)) ∙ add-zero (bit_and (x / 2) (x / 2 - 1) * 2)

cleared-from : (j n x : ℕ) → 0 < x → set_from j n (bit_and x (x - 1)) ≡ drop 1 (set_from j n x)
unfolding set_from
cleared-from j zero x p = refl
cleared-from j (suc n) x p =
    by-lowest j n x (λ (l : List ℕ). set_from j (suc n) (bit_and x (x - 1)) ≡ drop 1 l)
    (λ e.
    ap (set_from j (suc n)) (cleared-even x p e) ∙ set_twice j n (bit_and (x / 2) (x / 2 - 1)) ∙ cleared-from (suc j) n (x / 2) (omega arith))
    (λ e. ap (set_from j (suc n)) (cleared-odd x e) ∙ set_twice j n (x / 2))

pub cleared-bit : (x : ℕ) → 0 < x → set_bits (bit_and x (x - 1)) ≡ drop 1 (set_bits x)
cleared-bit x p = cleared-from 0 64 x p

-- ---- which are set: bit i of x is x / 2 ^ i % 2

bit-first : (x : ℕ) → x / 2 ^ 0 % 2 ≡ x % 2
bit-first x = ap (λ (m : ℕ). x / m % 2) (pow-zero 2) ∙ ap (λ (m : ℕ). m % 2) (div-one x)

bit-next : (x i : ℕ) → x / 2 ^ suc i % 2 ≡ x / 2 / 2 ^ i % 2
bit-next x i = ap (λ (m : ℕ). m % 2) (ap (λ (m : ℕ). x / m) (pow-succ' 2 i) ∙ sym (div-div-eq-div-mul x 2 (2 ^ i)))

stands_from : (j n x i : ℕ) → i < n → x / 2 ^ i % 2 ≡ 1 → Memᴰ (j + i) (set_from j n x)
stands_from j zero x i l e = absurd (omega arith)
stands_from j (suc n) x zero l e =
    by-lowest j n x (Memᴰ (j + 0)) (λ z. absurd (omega (arith, bit-first x))) (λ z. Memᴰ.head (add-zero j))
stands_from j (suc n) x (suc i) l e =
    let above = rw (suc-add, ← add-suc) at (stands_from (suc j) n (x / 2) i (omega arith) (sym (bit-next x i) ∙ e)) in
    by-lowest j n x (Memᴰ (j + suc i)) (λ z. above) (λ z. Memᴰ.tail above)

-- one of them is the lowest place, whose bit is set, or stands above it
lowest-or-above : (j n x k : ℕ) → Memᴰ k (set_from j (suc n) x)
    → ((k ≡ j) × (x % 2 ≡ 1)) ⊎ Memᴰ k (set_from (suc j) n (x / 2))
lowest-or-above j n x k =
    by-lowest j n x (λ (l : List ℕ). Memᴰ k l → ((k ≡ j) × (x % 2 ≡ 1)) ⊎ Memᴰ k (set_from (suc j) n (x / 2))) (λ e. inr)
    (λ e m. ⊎_elim (λ p. inl (p, e)) inr (Memᴰ.cases_cons m))

stood-from : (j n x i : ℕ) → Memᴰ (j + i) (set_from j n x) → x / 2 ^ i % 2 ≡ 1
unfolding set_from
stood-from j zero x i m = absurd (Memᴰ.not-nil m)
stood-from j (suc n) x zero m =
    bit-first x
    ∙ ⊎_elim (λ e. e.1) (λ l. absurd (omega (arith, (climbs-mem (set-climbs (suc j) n (suc j + n) (x / 2) refl) l).0)))
    (lowest-or-above j n x (j + 0) m)
stood-from j (suc n) x (suc i) m =
    bit-next x i
    ∙ ⊎_elim (λ e. absurd (omega (arith, e.0))) (λ l. stood-from (suc j) n (x / 2) i (rw (add-suc, ← suc-add) at l))
    (lowest-or-above j n x (j + suc i) m)

pub bit-stands : (x j : ℕ) → j < 64 → x / 2 ^ j % 2 ≡ 1 → Memᴰ j (set_bits x)
bit-stands x j l e = rw zero-add at (stands_from 0 64 x j l e)

pub bit-stood : (x j : ℕ) → Memᴰ j (set_bits x) → (j < 64) × (x / 2 ^ j % 2 ≡ 1)
bit-stood x j m = ((climbs-mem (bits-climb x) m).1, stood-from 0 64 x j (rw zero-add m))
