-- Decimal numbers, digit by digit. Assumes nothing.
use mathlib.Core.Path.{◌≡◌, refl, sym, ap, ◌∙◌}
use mathlib.Core.Logic.{⊎_elim}
use mathlib.Core.Bool.{Bool, true, false, ◌&&◌, cond}
use mathlib.Core.List.{List, [], ◌∷◌}
use Prim.Native.Nat.{ℕ, ◌+◌, ◌-◌, ◌*◌, ◌^◌, ◌≤◌, ◌<◌}
use native.Mathlib.Nat.{le_refl, le_trans}
use native.Mathlib.Omega.{arith}
use borrow.Author.Tests.{lt-ltb, le-ltb, le-leb, lt-leb}
use Rattle.words.proofs.Order.{lt-or-ge}
use Rattle.decimal.specs.declared.Number.{Number}
use Rattle.decimal.specs.declared.Number.TheVariants.{Empty, Value, Bad}
use Rattle.decimal.specs.Decimal.{is_digit, all_digits, value_from, below64, decimal, digit_after, with_digit}

-- ---- one digit more

pub too_small : (n b : ℕ) → b < 48 → Bad ≡ digit_after n b
unfolding digit_after is_digit
too_small n b h = rw (lt-leb 48 b h)

pub too_large : (n b : ℕ) → 57 < b → Bad ≡ digit_after n b
unfolding digit_after is_digit
too_large n b h = let low : 48 ≤ b = omega arith in rw (le-leb 48 b low, lt-leb b 57 h)

digit : (n b : ℕ) → 48 ≤ b → b ≤ 57 → below64 (10 * n + (b - 48)) ≡ digit_after n b
unfolding digit_after is_digit
digit n b p q = rw (le-leb 48 b p, le-leb b 57 q)

pub fits : (n : ℕ) → n < 2 ^ 64 → below64 n ≡ Value n
unfolding below64
fits n h = rw (lt-ltb n (2 ^ 64) h)

pub past : (n : ℕ) → 2 ^ 64 ≤ n → below64 n ≡ Bad
unfolding below64
past n h = rw (le-ltb n (2 ^ 64) h)

pub too_many : (n b : ℕ) → 48 ≤ b → b ≤ 57 → 2 ^ 64 ≤ 10 * n + (b - 48) → Bad ≡ digit_after n b
too_many n b p q h = sym (past _ h) ∙ digit n b p q

pub one_more : (n b x : ℕ) → 48 ≤ b → b ≤ 57 → x ≡ 10 * n + (b - 48) → x < 2 ^ 64 → Value x ≡ digit_after n b
one_more n b x p q e h = ap Value e ∙ sym (fits _ (omega arith)) ∙ digit n b p q

-- ---- a whole part

unfoldable pub numbered : Number → List ℕ → Number
numbered n [] = n
numbered n (b ∷ bs) = numbered (with_digit n b) bs

stays-bad : (bs : List ℕ) → numbered Bad bs ≡ Bad
unfolding with_digit numbered
stays-bad [] = refl
stays-bad (b ∷ bs) = stays-bad bs

grows : (n : ℕ) (bs : List ℕ) → n ≤ value_from n bs
unfolding value_from
grows n [] = le_refl n
grows n (b ∷ bs) = le_trans (omega arith) (grows (10 * n + (b - 48)) bs)

unfoldable all_of : ℕ → List ℕ → Number
all_of n bs = cond (all_digits bs) (below64 (value_from n bs)) Bad

-- too large stays too large, whatever follows
too_far : (n : ℕ) (bs : List ℕ) (t : Bool) → 2 ^ 64 ≤ n → cond t (below64 (value_from n bs)) Bad ≡ Bad
too_far n bs true h = past (value_from n bs) (le_trans h (grows n bs))
too_far n bs false h = refl

module _ (bs : List ℕ) (rest : (n : ℕ) → n < 2 ^ 64 → numbered (Value n) bs ≡ all_of n bs) where
  after-digit : (t : Bool) (n : ℕ) → numbered (cond t (below64 n) Bad) bs ≡ cond (t && all_digits bs) (below64 (value_from n bs)) Bad
  unfolding all_of
  after-digit false n = stays-bad bs
  after-digit true n =
      ⊎_elim (λ h. ap (λ (x : Number). numbered x bs) (fits n h) ∙ rest n h)
      (λ h. ap (λ (x : Number). numbered x bs) (past n h) ∙ stays-bad bs ∙ sym (too_far n bs (all_digits bs) h)) (lt-or-ge n (2 ^ 64))

from-value : (bs : List ℕ) (n : ℕ) → n < 2 ^ 64 → numbered (Value n) bs ≡ all_of n bs
unfolding with_digit digit_after all_digits value_from all_of numbered
from-value [] n h = sym (fits n h)
from-value (b ∷ bs) n h = after-digit bs (from-value bs) (is_digit b) (10 * n + (b - 48))

pub number_of : (bs : List ℕ) → numbered Empty bs ≡ decimal bs
unfolding with_digit digit_after decimal all_digits value_from numbered
number_of [] = refl
number_of (b ∷ bs) = after-digit bs (from-value bs) (is_digit b) (10 * 0 + (b - 48))
