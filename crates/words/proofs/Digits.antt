-- Laws of `number` and `digits`, over the base. Assumes nothing.
use mathlib.Core.Path.{◌≡◌, refl, sym, ap, ap₂, ◌∙◌, subst}
use mathlib.Core.List.{List, [], ◌∷◌, ◌++◌}
use Prim.Native.Nat.{ℕ, zero, suc, ◌+◌, ◌*◌, ◌/◌, ◌%◌, ◌^◌, ◌≤◌, ◌<◌}
use native.Mathlib.Nat.{mod-one, pow-suc, pow-succ', add_comm, mul_comm, zero-add, mul_assoc, add_assoc, mul-add, div-div-eq-div-mul}
use native.Mathlib.Nat.{mod-lt, not-suc-le-zero, le_of_suc-le-suc, zero-lt-suc, one-mul, div-one, zero-div, zero-mod, pow-zero, mul-pos}
use native.Mathlib.Nat.{suc-add, lt_of_lt_of_le, pow-le-pow_right, mod-eq_of_lt, mul-zero, mul-suc, mul-one}
use native.Mathlib.Numerals.{add-one}
use native.Mathlib.Omega.{arith}
use lib.Arith.{digits_lt, digits_div, digits_mod, mod-mul}
use lib.Pow.{pow-add}
use lib.ListN.{length, take, drop, get_or, set, replicate}
use lib.Seq.{drop-cons}
use Rattle.words.specs.Bytes.{number, digits}

-- each of ds is a digit of base b
pub record Below (b : ℕ) (ds : List ℕ) : Type 0 where
  pub at : (i : ℕ) → get_or ds i 0 < b

pub below-head : {b d : ℕ} {ds : List ℕ} → Below b (d ∷ ds) → d < b
below-head h = h.at 0

pub below-tail : {b d : ℕ} {ds : List ℕ} → Below b (d ∷ ds) → Below b ds
below-tail h = record { at = λ i. h.at (suc i) }

pub below-pos : {b : ℕ} {ds : List ℕ} → Below b ds → 0 < b
below-pos {b} {ds} h = omega (arith, h.at 0)

pub below-nil : {b : ℕ} → 0 < b → Below b []
below-nil hb = record { at = λ i. hb }

pub below-cons : {b d : ℕ} {ds : List ℕ} → d < b → Below b ds → Below b (d ∷ ds)
below-cons {b} {d} {ds} h k = record { at = go }
  where
    go : (i : ℕ) → get_or (d ∷ ds) i 0 < b
    go zero = h
    go (suc i) = k.at i

pub below-replicate : {b d : ℕ} (n : ℕ) → d < b → Below b (replicate n d)
below-replicate zero h = below-nil (omega (arith, h))
below-replicate (suc n) h = below-cons h (below-replicate n h)

pub below-append : {b : ℕ} (xs ys : List ℕ) → Below b xs → Below b ys → Below b (xs ++ ys)
below-append [] ys h k = k
below-append (x ∷ xs) ys h k = below-cons (below-head h) (below-append xs ys (below-tail h) k)

pub below-take : {b : ℕ} (n : ℕ) (ds : List ℕ) → Below b ds → Below b (take n ds)
below-take zero ds h = below-nil (below-pos h)
below-take (suc n) [] h = h
below-take (suc n) (d ∷ ds) h = below-cons (below-head h) (below-take n ds (below-tail h))

pub below-drop : {b : ℕ} (n : ℕ) (ds : List ℕ) → Below b ds → Below b (drop n ds)
below-drop zero ds h = h
below-drop (suc n) [] h = h
below-drop (suc n) (d ∷ ds) h = below-drop n ds (below-tail h)

pub below_set : {b : ℕ} (ds : List ℕ) (j v : ℕ) → v < b → Below b ds → Below b (set ds j v)
below_set [] j v hv h = h
below_set (d ∷ ds) zero v hv h = below-cons hv (below-tail h)
below_set (d ∷ ds) (suc j) v hv h = below-cons (below-head h) (below_set ds j v hv (below-tail h))

-- a number's lowest digit, and the rest
low : (b : ℕ) {d : ℕ} (n : ℕ) → d < b → (d + b * n) % b ≡ d
low b {d} n h = ap (λ (x : ℕ). x % b) (add_comm d (b * n) ∙ ap (λ (x : ℕ). x + d) (mul_comm b n)) ∙ digits_mod n h

high : (b : ℕ) {d : ℕ} (n : ℕ) → d < b → (d + b * n) / b ≡ n
high b {d} n h = ap (λ (x : ℕ). x / b) (add_comm d (b * n) ∙ ap (λ (x : ℕ). x + d) (mul_comm b n)) ∙ digits_div n h

-- x cut at b ^ suc n: its lowest digit, and the rest cut at b ^ n
cut : (b n x : ℕ) → 0 < b → 0 < b ^ n → x % b ^ suc n ≡ x % b + b * (x / b % b ^ n)
cut b n x hb hp =
    ap (λ (m : ℕ). x % m) (pow-suc b n) ∙ mod-mul x hp hb
    ∙ add_comm (x / b % b ^ n * b) (x % b) ∙ ap (λ (m : ℕ). x % b + m) (mul_comm (x / b % b ^ n) b)

shift : (b n x : ℕ) → x / b ^ suc n ≡ x / b / b ^ n
shift b n x = ap (λ (m : ℕ). x / m) (pow-succ' b n) ∙ sym (div-div-eq-div-mul x b (b ^ n))

pub pow_pos : (b n : ℕ) → 0 < b → 0 < b ^ n
pow_pos b zero h = rw pow-zero (zero-lt-suc 0)
pow_pos b (suc n) h = rw pow-suc (mul-pos (pow_pos b n h) h)

pub length_digits : (b n x : ℕ) → length (digits b n x) ≡ n
unfolding digits
length_digits b zero x = refl
length_digits b (suc n) x = ap suc (length_digits b n (x / b))

pub below-digits : (b n x : ℕ) → 0 < b → Below b (digits b n x)
unfolding digits
below-digits b zero x hb = below-nil hb
below-digits b (suc n) x hb = below-cons (mod-lt x hb) (below-digits b n (x / b) hb)

pub get_d-digits : (b n x i : ℕ) → i < n → get_or (digits b n x) i 0 ≡ x / b ^ i % b
unfolding digits
get_d-digits b zero x i h = absurd (not-suc-le-zero h)
get_d-digits b (suc n) x zero h = rw (pow-zero, div-one)
get_d-digits b (suc n) x (suc i) h = get_d-digits b n (x / b) i (le_of_suc-le-suc h) ∙ ap (λ (m : ℕ). m % b) (sym (shift b i x))

pub number_digits : (b n x : ℕ) → 0 < b → number b (digits b n x) ≡ x % b ^ n
unfolding number digits
number_digits b zero x hb = rw (pow-zero, mod-one)
number_digits b (suc n) x hb =
    ap (λ (m : ℕ). x % b + b * m) (number_digits b n (x / b) hb) ∙ sym (cut b n x hb (pow_pos b n hb))

pub number_lt : (b : ℕ) (ds : List ℕ) → Below b ds → number b ds < b ^ length ds
unfolding number
number_lt b [] h = rw pow-zero (zero-lt-suc 0)
number_lt b (d ∷ ds) h =
    subst (λ (m : ℕ). d + b * number b ds < m) (sym (pow-suc b (length ds)))
    (subst (λ (m : ℕ). m < b ^ length ds * b) (add_comm (number b ds * b) d ∙ ap (λ (m : ℕ). d + m) (mul_comm (number b ds) b))
    (digits_lt (number_lt b ds (below-tail h)) (below-head h)))

-- ds have at most n digits
pub number-lt-pow : (b n : ℕ) (ds : List ℕ) → Below b ds → length ds ≤ n → number b ds < b ^ n
number-lt-pow b n ds h hn = lt_of_lt_of_le (number_lt b ds h) (pow-le-pow_right (below-pos h) hn)

pub digits_number : (b : ℕ) (ds : List ℕ) → Below b ds → digits b (length ds) (number b ds) ≡ ds
unfolding number digits
digits_number b [] h = refl
digits_number b (d ∷ ds) h =
    ap₂ {C = List ℕ} (λ (x : ℕ) (r : ℕ). x ∷ digits b (length ds) r) (low b (number b ds) (below-head h))
    (high b (number b ds) (below-head h))
    ∙ ap (λ (r : List ℕ). d ∷ r) (digits_number b ds (below-tail h))

pub number_append : (b : ℕ) (xs ys : List ℕ) → number b (xs ++ ys) ≡ number b xs + b ^ length xs * number b ys
unfolding number
number_append b [] ys = rw (pow-zero, one-mul, zero-add)
number_append b (x ∷ xs) ys =
    ap (λ (m : ℕ). x + b * m) (number_append b xs ys)
    ∙ ap (λ (m : ℕ). x + m) (mul-add b (number b xs) (b ^ length xs * number b ys))
    ∙ sym (add_assoc x (b * number b xs) (b * (b ^ length xs * number b ys)))
    ∙ ap (λ (m : ℕ). x + b * number b xs + m)
    (sym (mul_assoc b (b ^ length xs) (number b ys)) ∙ ap (λ (m : ℕ). m * number b ys) (sym (pow-succ' b (length xs))))

pub number-drop : (b n : ℕ) (ds : List ℕ) → Below b ds → number b (drop n ds) ≡ number b ds / b ^ n
unfolding number
number-drop b zero ds h = rw (pow-zero, div-one)
number-drop b (suc n) [] h = sym (zero-div (b ^ suc n))
number-drop b (suc n) (d ∷ ds) h =
    number-drop b n ds (below-tail h)
    ∙ ap (λ (m : ℕ). m / b ^ n) (sym (high b (number b ds) (below-head h))) ∙ sym (shift b n (d + b * number b ds))

pub number-take : (b n : ℕ) (ds : List ℕ) → Below b ds → number b (take n ds) ≡ number b ds % b ^ n
unfolding number
number-take b zero ds h = rw (pow-zero, mod-one)
number-take b (suc n) [] h = sym (zero-mod (b ^ suc n))
number-take b (suc n) (d ∷ ds) h =
    ap (λ (m : ℕ). d + b * m) (number-take b n ds (below-tail h))
    ∙ ap₂ (λ (x y : ℕ). x + b * (y % b ^ n)) (sym (low b (number b ds) (below-head h))) (sym (high b (number b ds) (below-head h)))
    ∙ sym (cut b n (d + b * number b ds) (below-pos h) (pow_pos b n (below-pos h)))

-- the n lowest digits are those of the number cut there
pub digits-cut : (b n x : ℕ) → 0 < b → digits b n (x % b ^ n) ≡ digits b n x
digits-cut b n x hb =
    ap (digits b n) (sym (number_digits b n x hb))
    ∙ subst (λ (k : ℕ). digits b k (number b (digits b n x)) ≡ digits b n x) (length_digits b n x)
    (digits_number b (digits b n x) (below-digits b n x hb))

pub digits_append : (b n m x : ℕ) → digits b (n + m) x ≡ digits b n x ++ digits b m (x / b ^ n)
unfolding digits
digits_append b zero m x = rw (zero-add, pow-zero, div-one)
digits_append b (suc n) m x =
    ap (λ (k : ℕ). digits b k x) (suc-add n m)
    ∙ ap (λ (r : List ℕ). x % b ∷ r)
    (digits_append b n m (x / b) ∙ ap (λ (k : ℕ). digits b n (x / b) ++ digits b m k) (sym (shift b n x)))

-- the digits from an index: the digit there, and those from the next
pub number-from : (b : ℕ) (ds : List ℕ) (i : ℕ) → i < length ds
    → number b (drop i ds) ≡ number b (drop (i + 1) ds) * b + get_or ds i 0
unfolding number
number-from b ds i h =
    ap (number b) (drop-cons ds i 0 h) ∙ add_comm (get_or ds i 0) (b * number b (drop (suc i) ds))
    ∙ ap (λ (m : ℕ). m + get_or ds i 0) (mul_comm b (number b (drop (suc i) ds)) ∙ ap (λ (k : ℕ). number b (drop k ds) * b) (sym (add-one i)))

-- n digits and a number below b ^ n, each from the other
pub number-exact : (b n x : ℕ) → 0 < b → x < b ^ n → number b (digits b n x) ≡ x
number-exact b n x hb hx = number_digits b n x hb ∙ mod-eq_of_lt hx

pub digits-exact : (b n : ℕ) (ds : List ℕ) → length ds ≡ n → Below b ds → digits b n (number b ds) ≡ ds
digits-exact b n ds hl hb = ap (λ (k : ℕ). digits b k (number b ds)) (sym hl) ∙ digits_number b ds hb

pub number-lt-exact : (b n : ℕ) (ds : List ℕ) → length ds ≡ n → Below b ds → number b ds < b ^ n
number-lt-exact b n ds hl hb = subst (λ (k : ℕ). number b ds < b ^ k) hl (number_lt b ds hb)

pub pow-mul : (b m n : ℕ) → (b ^ m) ^ n ≡ b ^ (m * n)
pow-mul b m zero = rw (mul-zero, pow-zero, pow-zero)
pow-mul b m (suc n) =
    pow-suc (b ^ m) n ∙ ap (λ (x : ℕ). x * b ^ m) (pow-mul b m n)
    ∙ sym (pow-add b (m * n) m) ∙ ap (λ (k : ℕ). b ^ k) (sym (mul-suc m n))

-- a list of digits is determined by its length and its number
pub number-inj : {b : ℕ} {xs ys : List ℕ} → Below b xs → Below b ys → length xs ≡ length ys → number b xs ≡ number b ys → xs ≡ ys
number-inj {b} {xs} {ys} hx hy hl hn =
    sym (digits_number b xs hx) ∙ ap₂ {C = List ℕ} (digits b) hl hn ∙ digits_number b ys hy

-- one digit replaced, with the old one added back
pub number-set : (b : ℕ) (ds : List ℕ) (j v : ℕ) → j < length ds → number b (set ds j v) + get_or ds j 0 * b ^ j ≡ number b ds + v * b ^ j
unfolding number
number-set b [] j v h = absurd (not-suc-le-zero h)
number-set b (d ∷ ds) zero v h = simp (pow-zero, mul-one) (omega arith)
number-set b (d ∷ ds) (suc j) v h =
    rw pow-succ' (omega (arith, ap (λ (x : ℕ). b * x) (number-set b ds j v (le_of_suc-le-suc h))))
