-- The sum that recovery tells: the total of what each line's counter is above its minor in the array. A page that the shadow does not list
-- adds nothing, and a listed page stands in one slot. Assumes nothing.
use mathlib.Core.Path.{◌≡◌, refl, sym, ap, ap₂, ◌∙◌, subst}
use mathlib.Core.Logic.{◌⊎◌, inl, inr}
use mathlib.Core.Bool.{Bool, cond}
use mathlib.Core.List.{List}
use Prim.Native.Nat.{ℕ, zero, suc, ◌+◌, ◌-◌, ◌*◌, ◌%◌, ◌≤◌, ◌<◌, zero-le}
use native.Mathlib.Nat.{le_refl, mod-lt}
use native.Mathlib.Numerals.{add-one}
use native.Mathlib.Omega.{arith}
use borrow.Author.Tests.{eq-eqb, ne_eqb}
use lib.Dec.{eqb, lit<}
use lib.Seq.{ext_get_or}
use Rattle.words.proofs.Order.{eq-or-not}
use Rattle.memory_map.specs.Map.{page_of, place_of, pages, lines, nodes, slots}
use Rattle.memory_map.proofs.Laws.{nodes-bottom, page-inside}
use Rattle.slot_map.specs.Slots.{slot_of, level_of}
use Rattle.slot_map.proofs.Laws.{level-low, belongs-node}
use Rattle.counter.specs.Counter.{minors, minor}
use Rattle.counter.proofs.Laws.{length-minors}
use Rattle.cache.specs.Cache.{shadow_owner}
use Rattle.calls.specs.Format.{counts_from}
use Rattle.history_laws.specs.History.{total}
use Rattle.history_laws.proofs.Setting.{Setting, Tree, node_in, Opening}
use Rattle.history_laws.proofs.Tree.{length-counts, counts-agree, counts-at, fresh-minors}
use Rattle.history_laws.proofs.Durable.{Durable}
use Rattle.history_laws.proofs.Brought.{page_sum}
use Rattle.history_laws.proofs.Recovered.{added}

-- ---- sums

module _ (f : ℕ → ℕ) where
  sum-append : (s k l : ℕ) → total (counts_from f s (k + l)) ≡ total (counts_from f s k) + total (counts_from f (s + k) l)
  unfolding total counts_from
  sum-append s zero l =
      let here : 0 + l ≡ l = omega arith in
      let there : s ≡ s + 0 = omega arith in
      ap₂ (λ (n x : ℕ). total (counts_from f x n)) here there ∙ omega arith
  sum-append s (suc k) l =
      let here : suc k + l ≡ suc (k + l) = omega arith in
      let there : suc s + k ≡ s + suc k = omega arith in
      ap (λ (n : ℕ). total (counts_from f s n)) here ∙ ap (λ (x : ℕ). f s + x) (sum-append (suc s) k l)
      ∙ omega (arith, ap (λ (x : ℕ). total (counts_from f x l)) there)

  sum-zero : (s k : ℕ) → ((x : ℕ) → s ≤ x → x < s + k → f x ≡ 0) → total (counts_from f s k) ≡ 0
  unfolding total counts_from
  sum-zero s zero e = refl
  sum-zero s (suc k) e = omega (arith, e s (omega arith) (omega arith), sum-zero (suc s) k (λ x p q. e x (omega arith) (omega arith)))

  sum-single : (q s k : ℕ) → s ≤ q → q < s + k → ((x : ℕ) → s ≤ x → x < s + k → (x ≡ q → ⊥) → f x ≡ 0) → total (counts_from f s k) ≡ f q
  unfolding total counts_from
  sum-single q s zero p r e = absurd (omega arith)
  sum-single q s (suc k) p r e = go (λ u w. sum-single q (suc s) k u w (λ x i j z. e x (omega arith) (omega arith) z)) (eq-or-not s q)
    where
      go : (suc s ≤ q → q < suc s + k → total (counts_from f (suc s) k) ≡ f q) → (s ≡ q) ⊎ (s ≡ q → ⊥)
          → f s + total (counts_from f (suc s) k) ≡ f q
      go rest (inl z) = omega (arith, ap f z, sum-zero (suc s) k (λ x u w. e x (omega arith) (omega arith) (λ y. omega arith)))
      go rest (inr z) = omega (arith, e s (omega arith) (omega arith) z, rest (omega (arith, z)) (omega arith))

sum-add : (f g : ℕ → ℕ) (s k : ℕ) → total (counts_from (λ x. f x + g x) s k) ≡ total (counts_from f s k) + total (counts_from g s k)
unfolding total counts_from
sum-add f g s zero = refl
sum-add f g s (suc k) = omega (arith, sum-add f g (suc s) k)

-- a number by its remainder
split4 : (r x : ℕ) → r < 4 → x ≡ cond (eqb r 0) x 0 + (cond (eqb r 1) x 0 + (cond (eqb r 2) x 0 + cond (eqb r 3) x 0))
split4 zero x p = omega arith
split4 (suc zero) x p = omega arith
split4 (suc (suc zero)) x p = omega arith
split4 (suc (suc (suc zero))) x p = omega arith
split4 (suc (suc (suc (suc r)))) x p = absurd (omega arith)

module _ {S : Setting} {T : Tree} {o : Opening} {a : List ℕ} (m : Durable S T o a) where
  open S use {h}
  open T use {count}

  abbrev block : ℕ → List ℕ
  block p = node_in S a 0 p

  -- a line's minor in the array, and what its count is above it
  abbrev pub stored : ℕ → ℕ
  stored n = minor (block (page_of n)) (place_of n)

  abbrev above : ℕ → ℕ
  above n = count n - stored n

  abbrev D : ℕ → ℕ
  D p = page_sum S T a p

  behind : (n : ℕ) → n < lines h → stored n ≤ count n
  behind n q =
      let place : 64 * page_of n + place_of n ≡ n = omega arith in
      subst (λ (x : ℕ). stored n ≤ count x) place (m.behind (page_of n) (place_of n) (page-inside h n q) (omega arith))

  minors-are : (p : ℕ) → minors (block p) ≡ counts_from stored (64 * p) 64
  minors-are p =
      ext_get_or 0 (minors (block p)) (counts_from stored (64 * p) 64) (length-minors (block p) ∙ sym (length-counts stored (64 * p) 64))
      (λ i q. let small : i < 64 = omega (arith, q, length-minors (block p)) in
      let page : page_of (64 * p + i) ≡ p = omega arith in
      let place : place_of (64 * p + i) ≡ i = omega arith in
      sym (counts-at stored (64 * p) 64 i small ∙ ap₂ (λ (x y : ℕ). minor (block x) y) page place))

  differences : (s k : ℕ) → s + k ≤ lines h → total (counts_from above s k) + total (counts_from stored s k) ≡ total (counts_from count s k)
  unfolding total counts_from
  differences s zero p = refl
  differences s (suc k) p = omega (arith, behind s (omega arith), differences (suc s) k (omega arith))

  page-is : (p : ℕ) → p < pages h → total (counts_from above (64 * p) 64) ≡ D p
  unfolding lines page_sum
  page-is p q = omega (arith, differences (64 * p) 64 (omega arith), ap total (minors-are p))

  not_listed : (p : ℕ) → p < pages h → (shadow_owner h a (slot_of 0 p) ≡ suc p → ⊥) → D p ≡ 0
  unfolding page_sum
  not_listed p q o =
      let fresh = m.stored 0 p zero-le (omega (arith, nodes-bottom h)) o in
      omega (arith, ap (λ (b : List ℕ). total (minors b)) fresh ∙ ap total (fresh-minors S m.small p))

  by_pages : (n : ℕ) → n ≤ pages h → total (counts_from above 0 (64 * n)) ≡ total (counts_from D 0 n)
  unfolding total counts_from
  by_pages zero p = refl
  by_pages (suc n) p =
      let lines_next : 64 * suc n ≡ 64 * n + 64 = omega arith in
      let start : 0 + 64 * n ≡ 64 * n = omega arith in
      let last : 0 + n ≡ n = omega arith in
      ap (λ (k : ℕ). total (counts_from above 0 k)) lines_next ∙ sum-append above 0 (64 * n) 64
      ∙ ap₂ ◌+◌ (by_pages n (omega arith)) (ap (λ (k : ℕ). total (counts_from above k 64)) start ∙ page-is n (omega arith))
      ∙ sym (ap (λ (k : ℕ). total (counts_from D 0 k)) (sym (add-one n)) ∙ sum-append D 0 n 1 ∙ omega (arith, ap D last))

  -- ---- slot by slot

  abbrev Z : ℕ → ℕ → ℕ
  Z s p = cond (eqb (p % 4) s) (D p) 0

  Z-off : (s p : ℕ) → (p % 4 ≡ s → ⊥) → Z s p ≡ 0
  Z-off s p e = ap (λ (x : Bool). cond x (D p) 0) (ne_eqb (p % 4) s e)

  Z-on : (s p : ℕ) → p % 4 ≡ s → Z s p ≡ D p
  Z-on s p e = ap (λ (x : Bool). cond x (D p) 0) (eq-eqb (p % 4) s e)

  -- a page of slot s that it does not list
  Z-none : (s p : ℕ) → p < pages h → (shadow_owner h a s ≡ suc p → ⊥) → Z s p ≡ 0
  unfolding slot_of
  Z-none s p q o = go (eq-or-not (p % 4) s)
    where
      go : (p % 4 ≡ s) ⊎ (p % 4 ≡ s → ⊥) → Z s p ≡ 0
      go (inr e) = Z-off s p e
      go (inl e) = Z-on s p e ∙ not_listed p q (λ z. o (ap (shadow_owner h a) (sym e) ∙ z))

  -- the one page that it lists
  lone : (s q : ℕ) → q < pages h → q % 4 ≡ s → shadow_owner h a s ≡ suc q → total (counts_from (Z s) 0 (pages h)) ≡ D q
  lone s q page own e =
      sum-single (Z s) q 0 (pages h) zero-le (omega arith) (λ x u w z. Z-none s x (omega arith) (λ y. z (omega (arith, e, y))))
      ∙ Z-on s q own

  slot-sum : (s : ℕ) → s < 4 → total (counts_from (Z s) 0 (pages h)) ≡ added m (shadow_owner h a s)
  unfolding slot_of slots added
  slot-sum s p = go (shadow_owner h a s) refl
    where
      go : (o : ℕ) → shadow_owner h a s ≡ o → total (counts_from (Z s) 0 (pages h)) ≡ added m o
      go zero e = sum-zero (Z s) 0 (pages h) (λ x u w. Z-none s x (omega arith) (λ z. omega (arith, e, z)))
      go (suc q) e =
          let there = belongs-node h s q (m.owners.belong s q (omega arith) e) in
          let level : level_of s ≡ 0 = level-low s p in
          let page : q < pages h = omega (arith, subst (λ (k : ℕ). q < nodes h k) level there.0, nodes-bottom h) in
          let own : q % 4 ≡ s = subst (λ (k : ℕ). slot_of k q ≡ s) level there.1 in
          lone s q page own e

  all-pages : total (counts_from D 0 (pages h)) ≡ added m (shadow_owner h a 0)
      + (added m (shadow_owner h a 1) + (added m (shadow_owner h a 2) + added m (shadow_owner h a 3)))
  all-pages =
      ap total (counts-agree D (λ p. Z 0 p + (Z 1 p + (Z 2 p + Z 3 p))) 0 (pages h) (λ x u w. split4 (x % 4) (D x) (mod-lt x (lit< tt))))
      ∙ sum-add (Z 0) (λ p. Z 1 p + (Z 2 p + Z 3 p)) 0 (pages h)
      ∙ ap₂ ◌+◌ (slot-sum 0 (lit< tt)) (sum-add (Z 1) (λ p. Z 2 p + Z 3 p) 0 (pages h)
      ∙ ap₂ ◌+◌ (slot-sum 1 (lit< tt)) (sum-add (Z 2) (Z 3) 0 (pages h) ∙ ap₂ ◌+◌ (slot-sum 2 (lit< tt)) (slot-sum 3 (lit< tt))))

  pub told_is : (told : ℕ) → told ≡ 0 + total (counts_from (λ s. added m (shadow_owner h a s)) 0 4)
      → told ≡ total (counts_from above 0 (lines h))
  unfolding total counts_from lines
  told_is told e = omega (arith, e, all-pages, by_pages (pages h) (le_refl (pages h)))
