-- A printed number is read back as itself, and has no leading zero. Assumes nothing.
use mathlib.Core.Path.{◌≡◌, refl, ap, ap₂, ◌∙◌}
use mathlib.Core.Logic.{⊎_elim}
use mathlib.Core.Bool.{Bool, true, false, ◌&&◌, cond}
use mathlib.Core.List.{List, [], ◌∷◌, ◌++◌}
use Prim.Native.Nat.{ℕ, zero, suc, ◌+◌, ◌-◌, ◌*◌, ◌/◌, ◌%◌, ◌^◌, ◌≤◌, ◌<◌}
use native.Mathlib.Nat.{not-suc-le-zero}
use native.Mathlib.Omega.{arith}
use borrow.Author.Tests.{lt-ltb, le-ltb, le-leb}
use lib.ListN.{length, get_or, length-append, get_or-append}
use Rattle.words.proofs.Order.{lt-or-ge}
use Rattle.decimal.specs.declared.Number.TheVariants.{Value, Bad}
use Rattle.decimal.specs.Decimal.{is_digit, all_digits, value_from, below64, decimal}
use Rattle.decimal.proofs.Numbers.{fits}
use Rattle.number_text.specs.Text.{digits_of, printed}

-- ---- a digit behind digits

value_on : (n : ℕ) (bs : List ℕ) (b : ℕ) → value_from n (bs ++ (b ∷ [])) ≡ 10 * value_from n bs + (b - 48)
unfolding value_from
value_on n [] b = refl
value_on n (c ∷ bs) b = value_on (10 * n + (c - 48)) bs b

is_digit_lem : (d : ℕ) → d < 10 → is_digit (48 + d) ≡ true
unfolding is_digit
is_digit_lem d h =
    let low : 48 ≤ 48 + d = omega arith in
    let high : 48 + d ≤ 57 = omega arith in
    rw (le-leb 48 (48 + d) low, le-leb (48 + d) 57 high)

and-true : (t u : Bool) → t && u ≡ true → (t ≡ true) × (u ≡ true)
and-true true u e = (refl, e)
and-true false u e = let z : ◌≡◌ {A = ℕ} 0 1 = cc in absurd (omega arith)

digits-on : (bs : List ℕ) (d : ℕ) → d < 10 → all_digits bs ≡ true → all_digits (bs ++ ((48 + d) ∷ [])) ≡ true
unfolding all_digits
digits-on [] d h e = rw (is_digit_lem d h)
digits-on (b ∷ bs) d h e =
    let parts = and-true (is_digit b) (all_digits bs) e in
    ap₂ {C = Bool} ◌&&◌ parts.0 (digits-on bs d h parts.1)

-- ---- the digits of a number

record Spelled (x : ℕ) (bs : List ℕ) : Type 0 where
  value : value_from 0 bs ≡ x
  all : all_digits bs ≡ true
  some : 1 ≤ length bs
  first : 1 ≤ x → 49 ≤ get_or bs 0 0

one-digit : (x : ℕ) → x < 10 → Spelled x ((48 + x) ∷ [])
unfolding value_from all_digits
one-digit x h =
    record {
      value = omega arith;
      all = rw (is_digit_lem x h);
      some = omega arith;
      first = λ p. omega arith;
    }

digit-on : (x : ℕ) (bs : List ℕ) → 10 ≤ x → Spelled (x / 10) bs → Spelled x (bs ++ ((48 + x % 10) ∷ []))
digit-on x bs h s =
    let less : x % 10 < 10 = omega arith in
    let room : 0 < length bs = omega (arith, s.some) in
    let high : 49 ≤ get_or bs 0 0 = s.first (omega arith) in
    record {
      value = value_on 0 bs (48 + x % 10) ∙ ap (λ (n : ℕ). 10 * n + (48 + x % 10 - 48)) s.value ∙ omega arith;
      all = digits-on bs (x % 10) less s.all;
      some = rw length-append (omega arith);
      first = λ p. rw (get_or-append bs ((48 + x % 10) ∷ []) 0 0 room) high;
    }

spelled : (n x : ℕ) → x < 10 ^ suc n → Spelled x (digits_of (suc n) x)
unfolding digits_of
spelled zero x h = let q : x < 10 = omega arith in rw (lt-ltb x 10 q) (one-digit x q)
spelled (suc n) x h =
    let rest = spelled n (x / 10) (omega arith) in
    ⊎_elim (λ q. rw (lt-ltb x 10 q) (one-digit x q))
    (λ q. rw (le-ltb x 10 q) (digit-on x (digits_of (suc n) (x / 10)) q rest)) (lt-or-ge x 10)

spelled-printed : (x : ℕ) → x < 2 ^ 64 → Spelled x (printed x)
unfolding printed
spelled-printed x h = spelled 19 x (omega arith)

-- ---- the laws

read-digits : (x : ℕ) (bs : List ℕ) → x < 2 ^ 64 → Spelled x bs → decimal bs ≡ Value x
unfolding decimal
read-digits x [] h s = absurd (not-suc-le-zero {n = 0} s.some)
read-digits x (b ∷ bs) h s =
    ap (λ (t : Bool). cond t (below64 (value_from 0 (b ∷ bs))) Bad) s.all ∙ ap below64 s.value ∙ fits x h

pub printed-read : (x : ℕ) → x < 2 ^ 64 → decimal (printed x) ≡ Value x
printed-read x h = read-digits x (printed x) h (spelled-printed x h)

pub no-leading-zero : (x : ℕ) → x < 2 ^ 64 → 1 ≤ x → 49 ≤ get_or (printed x) 0 0
no-leading-zero x h = (spelled-printed x h).first
