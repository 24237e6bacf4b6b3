-- The digits of a number in lanes of a word: digits of k bits, each with c bits of room above it. In all lanes at once one digit
-- becomes two, or two become one. Assumes nothing.
use mathlib.Core.Path.{◌≡◌, refl, sym, ap, ap₂, ◌∙◌}
use Prim.Native.Nat.{ℕ, zero, suc, ◌+◌, ◌-◌, ◌*◌, ◌/◌, ◌%◌, ◌^◌, ◌≤◌, ◌<◌}
use native.Mathlib.Nat.{add-suc, suc-add, mod-lt, mod-eq_of_lt, lt_of_lt_of_le, mul-le-mul_right, pow-zero, pow-suc}
use native.Mathlib.Omega.{arith}
use lib.Arith.{digits_lt, digits_mod}
use lib.Bits.{bit_and, and_zero_r, and_le_r, and_mask, and_block, and_high}
use lib.Pow.{pow_pos, pow-add, pow_mono, pow-sub-lt, ones_lt, shr-shr, mod-pow-add, field}
use Rattle.words.specs.Bytes.{number, digits}

-- n digits of x
abbrev pub lanes : ℕ → ℕ → ℕ → ℕ → ℕ
lanes k c n x = number (2 ^ (k + c)) (digits (2 ^ k) n x)

pub one_lane : (k c x : ℕ) → x < 2 ^ k → x ≡ lanes k c 1 x
unfolding number digits
one_lane k c x h = omega (arith, mod-eq_of_lt h)

-- m in each of n lanes of b bits
abbrev pub mask : ℕ → ℕ → ℕ → ℕ
mask b m zero = 0
mask b m (suc n) = m + 2 ^ b * mask b m n

-- y and r times what a mask leaves of it: in the lowest lane, and in those above it
masked : (b r m d v p q w : ℕ) {y z : ℕ} → y ≡ d + 2 ^ b * p → z ≡ bit_and y (m + 2 ^ b * q) * r → d < 2 ^ b → m < 2 ^ b
    → d + bit_and d m * r ≡ v → p + bit_and p q * r ≡ w → y + z ≡ v + 2 ^ b * w
masked b r m d v p q w {y} e f hd hm lowest above =
    let both = ap₂ bit_and (e ∙ swap d p) (swap m q) ∙ and_block b p q d m hd hm in
    omega (arith, ap (λ (a : ℕ). a * r) both, ap (λ (a : ℕ). 2 ^ b * a) above)
  where
    swap : (u v : ℕ) → u + 2 ^ b * v ≡ v * 2 ^ b + u
    swap u v = omega arith

-- a digit times s in its lane
scaled : (k c s x : ℕ) → s ≤ 2 ^ c → s * (x % 2 ^ k) < 2 ^ (k + c)
scaled k c s x h =
    let d = x % 2 ^ k in
    rw pow-add (omega (arith, mul-le-mul_right d h, digits_lt {q = d} {r = 0} (mod-lt x (pow_pos k)) (pow_pos c)))

pub scaled-lt : (k c s n x : ℕ) → s ≤ 2 ^ c → s * lanes k c n x < (2 ^ (k + c)) ^ n
unfolding number digits
scaled-lt k c s zero x h = rw pow-zero (omega arith)
scaled-lt k c s (suc n) x h =
    rw pow-suc (omega (arith, digits_lt (scaled-lt k c s n (x / 2 ^ k) h) (scaled k c s x h)))

-- a bound that does not look at the lanes
pub sum_lt : (a b y z m r : ℕ) → y < a → z ≡ bit_and y m * r → a + m * r ≤ b → y + z < b
sum_lt a b y z m r hy e h = omega (arith, mul-le-mul_right r (and_le_r y m))

module _ (k c r : ℕ) (power : 2 ^ c ≡ 1 + r) where
  room : 2 ^ (k + c) ≡ 2 ^ k * (1 + r)
  room = pow-add 2 k c ∙ ap (λ (m : ℕ). 2 ^ k * m) power

  pair : 2 ^ (k + k + (c + c)) ≡ 2 ^ (k + c) * 2 ^ (k + c)
  pair = let bits : k + k + (c + c) ≡ k + c + (k + c) = omega arith in ap (λ (b : ℕ). 2 ^ b) bits ∙ pow-add 2 (k + c) (k + c)

  -- two digits, and those above them
  two_lanes : (n x : ℕ) → lanes k c (suc n + suc n) x
      ≡ x % 2 ^ k + 2 ^ (k + c) * (x / 2 ^ k % 2 ^ k) + 2 ^ (k + k + (c + c)) * lanes k c (n + n) (x / 2 ^ (k + k))
  unfolding number digits
  two_lanes n x = rw (suc-add, add-suc, ← shr-shr, pair) (omega arith)

  -- what has b bits fits into a lane of two
  wide : (b : ℕ) {d : ℕ} → b ≤ k + k + (c + c) → d < 2 ^ b → d < 2 ^ (k + k + (c + c))
  wide b h l = lt_of_lt_of_le l (pow_mono h)

  -- one digit becomes two: the upper moves up
  pub spread : (n x : ℕ) {y z : ℕ} → y ≡ lanes (k + k) (c + c) n x
      → z ≡ bit_and y (mask (k + k + (c + c)) (2 ^ (k + k) - 2 ^ k) n) * r → y + z ≡ lanes k c (n + n) x
  unfolding number digits
  spread zero x {y} e f = omega (arith, ap (λ (a : ℕ). a * r) (and_zero_r y))
  spread (suc n) x e f =
      let d = x % 2 ^ (k + k) in
      let high = x / 2 ^ k % 2 ^ k in
      let above : bit_and d (2 ^ (k + k) - 2 ^ k) ≡ high * 2 ^ k =
      and_high d k k ∙ ap (λ (a : ℕ). a * 2 ^ k) (ap (λ (a : ℕ). a % 2 ^ k) (field x k k) ∙ mod-eq_of_lt (mod-lt (x / 2 ^ k) (pow_pos k)))
      in
      masked (k + k + (c + c)) r (2 ^ (k + k) - 2 ^ k) d (x % 2 ^ k + 2 ^ (k + c) * high) _ _ _ e f
      (wide (k + k) (omega arith) (mod-lt x (pow_pos (k + k)))) (wide (k + k) (omega arith) (pow-sub-lt (k + k) (pow_pos k)))
      (omega (arith, mod-pow-add x k k, ap (λ (a : ℕ). a * r) above, ap (λ (a : ℕ). a * high) room))
      (spread n (x / 2 ^ (k + k)) refl refl)
      ∙ sym (two_lanes n x)

  -- two digits, times s, become one: the lower moves up
  pub join : (s n x : ℕ) {y z : ℕ} → s ≤ 2 ^ c → y ≡ s * lanes k c (n + n) x
      → z ≡ bit_and y (mask (k + k + (c + c)) (2 ^ (k + c) - 1) n) * r → y + z ≡ s * (1 + r) * lanes (k + k) (c + c) n x
  unfolding number digits
  join s zero x {y} h e f = omega (arith, ap (λ (a : ℕ). a * r) (and_zero_r y))
  join s (suc n) x h e f =
      let low = s * (x % 2 ^ k) in
      let high = s * (x / 2 ^ k % 2 ^ k) in
      let d = high * 2 ^ (k + c) + low in
      let fits = scaled k c s x h in
      let below : bit_and d (2 ^ (k + c) - 1) ≡ low = and_mask d (k + c) ∙ digits_mod high fits in
      masked (k + k + (c + c)) r (2 ^ (k + c) - 1) d (s * (1 + r) * (x % 2 ^ (k + k))) (s * lanes k c (n + n) (x / 2 ^ (k + k))) _ _
      (omega (arith, ap (λ (a : ℕ). s * a) (two_lanes n x))) f
      (rw pair (digits_lt (scaled k c s (x / 2 ^ k) h) fits)) (wide (k + c) (omega arith) (ones_lt (k + c)))
      (omega (arith, ap (λ (a : ℕ). a * r) below, ap (λ (a : ℕ). high * a) room, ap (λ (a : ℕ). s * (1 + r) * a) (mod-pow-add x k k)))
      (join s n (x / 2 ^ (k + k)) h refl refl)
      ∙ omega arith
