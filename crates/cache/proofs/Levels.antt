-- A cache is formed where the slots of each level fit and, if any slot is filled, the top's is. Assumes nothing.
use mathlib.Core.Path.{◌≡◌, refl, sym, ap, ap₂, ◌∙◌}
use mathlib.Core.Logic.{◌⊎◌, inl, inr}
use mathlib.Core.Bool.{Bool, true, false, ◌&&◌, ◌||◌, not, cond}
use mathlib.Core.List.{List}
use Prim.Native.Nat.{ℕ, zero, suc, ◌+◌, ◌-◌, ◌*◌, ◌/◌, ◌<◌, ◌≤◌}
use native.Mathlib.Numerals.{add-one}
use native.Mathlib.Omega.{arith}
use lib.Dec.{leb, ltb, eqb}
use borrow.Author.Tests.{eq-eqb, ne_eqb, le-leb, lt-leb, lt-ltb, le-ltb}
use Rattle.words.proofs.Order.{lt-or-ge}
use Rattle.memory_map.specs.Map.{nodes, slots}
use Rattle.slot_map.specs.Slots.{slot_of, level_of, belongs}
use Rattle.slot_map.proofs.Laws.{level-low, level-high}
use Rattle.cache.specs.Cache.{owner, dirty, from, cache_owners, top_slot, any_owner, formed}
use Rattle.cache.specs.Fits.{fits, all_fit}
use Rattle.cache.proofs.Laws.{all, placed, empty, flagged, any-all, flags-all, bad-all}

-- ---- one slot

less : (i n : ℕ) → leb (suc i) n ≡ ltb i n
less i n = go (lt-or-ge i n)
  where
    go : (i < n) ⊎ (n ≤ i) → leb (suc i) n ≡ ltb i n
    go (inl p) = le-leb (suc i) n (omega arith) ∙ sym (lt-ltb i n p)
    go (inr p) = lt-leb (suc i) n (omega arith) ∙ sym (le-ltb i n p)

least : (d : ℕ) → eqb d 0 ≡ (leb d 0 && true)
least zero = refl
least (suc d) = ne_eqb (suc d) 0 (λ z. omega arith) ∙ sym (ap (λ (b : Bool). b && true) (lt-leb (suc d) 0 (omega arith)))

module _ (l n : ℕ) (c : List ℕ) (s : ℕ) where
  -- as the code judges it, o being the owner and d the flag
  module _ (o d : ℕ) (e : o ≡ owner c s) (f : d ≡ dirty c s) where
    opened : fits l n c s ≡ (leb d (cond (eqb o 0) 0 1) && (eqb o 0 || (leb o n && eqb (slot_of l (o - 1)) s)))
    unfolding fits
    opened = rw (e, f)

    pub fits-empty : o ≡ 0 → eqb d 0 ≡ fits l n c s
    fits-empty p =
        sym (opened ∙ ap (λ (b : Bool). leb d (cond b 0 1) && (b || (leb o n && eqb (slot_of l (o - 1)) s))) (eq-eqb o 0 p) ∙ sym (least d))

    module _ (p : o ≡ 0 → ⊥) where
      filled : (b : Bool) → leb d 1 ≡ b → fits l n c s ≡ (b && (leb o n && eqb (slot_of l (o - 1)) s))
      filled b q =
          opened ∙ ap (λ (t : Bool). leb d (cond t 0 1) && (t || (leb o n && eqb (slot_of l (o - 1)) s))) (ne_eqb o 0 p)
          ∙ ap (λ (t : Bool). t && (leb o n && eqb (slot_of l (o - 1)) s)) q

      pub fits-flag : 1 < d → false ≡ fits l n c s
      fits-flag q = sym (filled false (lt-leb d 1 q))

      module _ (q : d ≤ 1) where
        pub fits-past : n < o → false ≡ fits l n c s
        fits-past r = sym (filled true (le-leb d 1 q) ∙ ap (λ (t : Bool). t && eqb (slot_of l (o - 1)) s) (lt-leb o n r))

        pub fits-slot : o ≤ n → eqb (slot_of l (o - 1)) s ≡ fits l n c s
        fits-slot r = sym (filled true (le-leb d 1 q) ∙ ap (λ (t : Bool). t && eqb (slot_of l (o - 1)) s) (le-leb o n r))

-- ---- the turns of the loops

module _ (l n : ℕ) (c : List ℕ) (first m k : ℕ) where
  pub fit-turn : (b : Bool) → k < m → b ≡ fits l n c (first + k)
      → all_fit l n c (first + k) (m - k) ≡ (b && all_fit l n c (first + (k + 1)) (m - (k + 1)))
  unfolding all_fit
  fit-turn b p e =
      let left : m - k ≡ suc (m - (k + 1)) = omega arith in
      let next : suc (first + k) ≡ first + (k + 1) = omega arith in
      ap (all_fit l n c (first + k)) left
      ∙ ap₂ (λ (t : Bool) (s : ℕ). t && all_fit l n c s (m - (k + 1))) (sym e) next

  pub fit-end : m ≤ k → all_fit l n c (first + k) (m - k) ≡ true
  unfolding all_fit
  fit-end p = ap (all_fit l n c (first + k)) (let none : m - k ≡ 0 = omega arith in none)

module _ (c : List ℕ) (n s : ℕ) where
  pub empty-turn : (b : Bool) → s < n → eqb (owner c s) 0 ≡ b
      → any_owner (from (owner c) s (n - s)) ≡ (not b || any_owner (from (owner c) (s + 1) (n - (s + 1))))
  unfolding any_owner from
  empty-turn b p e =
      let left : n - s ≡ suc (n - (s + 1)) = omega arith in
      ap (λ (j : ℕ). any_owner (from (owner c) s j)) left
      ∙ ap₂ (λ (t : Bool) (k : ℕ). not t || any_owner (from (owner c) k (n - (s + 1)))) e (sym (add-one s))

  pub empty-end : n ≤ s → any_owner (from (owner c) s (n - s)) ≡ false
  unfolding any_owner from
  empty-end p = ap (λ (j : ℕ). any_owner (from (owner c) s j)) (let none : n - s ≡ 0 = omega arith in none)

-- ---- all slots

all-and : (p q : ℕ → Bool) (s n : ℕ) → (all p s n && all q s n) ≡ all (λ t. p t && q t) s n
all-and p q s zero = refl
all-and p q s (suc n) = swap (p s) (q s) (all p (suc s) n) (all q (suc s) n) ∙ ap (λ (b : Bool). (p s && q s) && b) (all-and p q (suc s) n)
  where
    swap : (a b x y : Bool) → ((a && x) && (b && y)) ≡ ((a && b) && (x && y))
    swap true true x y = refl
    swap true false true y = refl
    swap true false false y = refl
    swap false b x y = refl

all_same : (p q : ℕ → Bool) (s n : ℕ) → ((t : ℕ) → s ≤ t → t < s + n → p t ≡ q t) → all p s n ≡ all q s n
all_same p q s zero f = refl
all_same p q s (suc n) f =
    ap₂ ◌&&◌ (f s (omega arith) (omega arith)) (all_same p q (suc s) n (λ t l u. f t (omega arith) (omega arith)))

all-add : (p : ℕ → Bool) (s n m : ℕ) → all p s (n + m) ≡ (all p s n && all p (s + n) m)
all-add p s zero m =
    let none : 0 + m ≡ m = omega arith in
    let here : s ≡ s + 0 = omega arith in
    ap (all p s) none ∙ ap (λ (k : ℕ). all p k m) here
all-add p s (suc n) m =
    let more : suc n + m ≡ suc (n + m) = omega arith in
    let next : suc s + n ≡ s + suc n = omega arith in
    ap (all p s) more ∙ ap (λ (b : Bool). p s && b) (all-add p (suc s) n m ∙ ap (λ (k : ℕ). all p (suc s) n && all p k m) next)
    ∙ split (p s) (all p (suc s) n) (all p (s + suc n) m)
  where
    split : (a b x : Bool) → (a && (b && x)) ≡ ((a && b) && x)
    split true b x = refl
    split false b x = refl

fit_all : (l n : ℕ) (c : List ℕ) (s k : ℕ) → all_fit l n c s k ≡ all (fits l n c) s k
unfolding all_fit
fit_all l n c s zero = refl
fit_all l n c s (suc k) = ap (λ (b : Bool). fits l n c s && b) (fit_all l n c (suc s) k)

-- a slot of the level fits where its flag is right and it is in place
module _ (h : ℕ) (c : List ℕ) where
  abbrev fine : ℕ → Bool
  fine t = flagged c t && placed h (owner c) t

  level-fine : (l s : ℕ) → level_of s ≡ l → fits l (nodes h l) c s ≡ fine s
  unfolding fits belongs
  level-fine l s e = ap (λ (b : Bool). flagged c s && b) (go (owner c s))
    where
      go : (o : ℕ) → (eqb o 0 || (leb o (nodes h l) && eqb (slot_of l (o - 1)) s)) ≡ (eqb o 0 || belongs h s o)
      go zero = refl
      go (suc i) =
          let same : suc i - 1 ≡ i = omega arith in
          ap₂ (λ (x : Bool) (j : ℕ). eqb (suc i) 0 || (x && eqb (slot_of l j) s)) (less i (nodes h l)) same
          ∙ ap (λ (k : ℕ). eqb (suc i) 0 || (ltb i (nodes h k) && eqb (slot_of k i) s)) (sym e)

  -- levels l + 1, l + 2, .., j of them
  abbrev pub levels : ℕ → ℕ → Bool
  levels l zero = true
  levels l (suc j) = all_fit (suc l) (nodes h (suc l)) c (2 + 2 * suc l) 2 && levels (suc l) j

  low-fine : all_fit 0 (nodes h 0) c 0 4 ≡ all fine 0 4
  low-fine = fit_all 0 (nodes h 0) c 0 4 ∙ all_same (fits 0 (nodes h 0) c) fine 0 4 (λ t l u. level-fine 0 t (level-low t (omega arith)))

  high-fine : (l : ℕ) → all_fit (suc l) (nodes h (suc l)) c (2 + 2 * suc l) 2 ≡ all fine (4 + 2 * l) 2
  high-fine l =
      let start : 2 + 2 * suc l ≡ 4 + 2 * l = omega arith in
      ap (λ (k : ℕ). all_fit (suc l) (nodes h (suc l)) c k 2) start ∙ fit_all (suc l) (nodes h (suc l)) c (4 + 2 * l) 2
      ∙ all_same (fits (suc l) (nodes h (suc l)) c) fine (4 + 2 * l) 2
      (λ t p q. level-fine (suc l) t (let at : suc ((t - 4) / 2) ≡ suc l = omega arith in level-high t (omega arith) ∙ at))

  levels-fine : (l j : ℕ) → levels l j ≡ all fine (4 + 2 * l) (2 * j)
  levels-fine l zero = refl
  levels-fine l (suc j) =
      let more : 2 + 2 * j ≡ 2 * suc j = omega arith in
      let next : 4 + 2 * suc l ≡ 4 + 2 * l + 2 = omega arith in
      ap₂ ◌&&◌ (high-fine l) (levels-fine (suc l) j ∙ ap (λ (k : ℕ). all fine k (2 * j)) next)
      ∙ sym (all-add fine (4 + 2 * l) 2 (2 * j)) ∙ ap (all fine (4 + 2 * l)) more

  -- if any slot is filled the top's is
  abbrev pub topped : Bool
  topped = not (eqb (owner c (top_slot h)) 0) || not (any_owner (cache_owners h c))

  all-fine : (all (flagged c) 0 (slots h) && all (placed h (owner c)) 0 (slots h)) ≡ (all_fit 0 (nodes h 0) c 0 4 && levels 0 h)
  unfolding slots
  all-fine =
      all-and (flagged c) (placed h (owner c)) 0 (slots h) ∙ all-add fine 0 4 (2 * h) ∙ sym (ap₂ ◌&&◌ low-fine (levels-fine 0 h))

  pub by_level : formed h c ≡ (all_fit 0 (nodes h 0) c 0 4 && (levels 0 h && topped))
  unfolding formed
  by_level =
      let p = all (placed h (owner c)) 0 (slots h) in
      let f = all (flagged c) 0 (slots h) in
      ap₂ ◌&&◌ (bad-all h (owner c)) (flags-all c 0 (slots h))
      ∙ regroup p (all (empty (owner c)) 0 (slots h)) (eqb (owner c (top_slot h)) 0) f
      ∙ ap₂ (λ (a b : Bool). a && (not (eqb (owner c (top_slot h)) 0) || not b)) all-fine (sym (any-all (owner c) 0 (slots h)))
      ∙ shift (all_fit 0 (nodes h 0) c 0 4) (levels 0 h) topped
    where
      regroup : (p e z f : Bool) → ((p && not (not e && z)) && f) ≡ ((f && p) && (not z || not (not e)))
      regroup true true true true = refl
      regroup true true true false = refl
      regroup true true false true = refl
      regroup true true false false = refl
      regroup true false true true = refl
      regroup true false true false = refl
      regroup true false false true = refl
      regroup true false false false = refl
      regroup false e z true = refl
      regroup false e z false = refl

      shift : (a b x : Bool) → ((a && b) && x) ≡ (a && (b && x))
      shift true b x = refl
      shift false b x = refl

  -- the levels from l on, which is not 0
  pub level-turn : (l : ℕ) (b : Bool) → 1 ≤ l → l ≤ h → b ≡ all_fit l (nodes h l) c (2 + 2 * l) 2
      → levels (l - 1) (h + 1 - l) ≡ (b && levels (l + 1 - 1) (h + 1 - (l + 1)))
  level-turn l b p q e =
      let left : h + 1 - l ≡ suc (h - l) = omega arith in
      let here : suc (l - 1) ≡ l = omega arith in
      let next : l ≡ l + 1 - 1 = omega arith in
      let rest : h - l ≡ h + 1 - (l + 1) = omega arith in
      ap (levels (l - 1)) left ∙ ap (λ (k : ℕ). all_fit k (nodes h k) c (2 + 2 * k) 2 && levels k (h - l)) here
      ∙ ap (λ (t : Bool). t && levels l (h - l)) (sym e) ∙ ap₂ (λ (k j : ℕ). b && levels k j) next rest

  pub level-end : (l : ℕ) → h < l → levels (l - 1) (h + 1 - l) ≡ true
  level-end l p = ap (levels (l - 1)) (let none : h + 1 - l ≡ 0 = omega arith in none)
