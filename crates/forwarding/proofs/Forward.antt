-- Minors brought forward one by one. Assumes nothing.
use mathlib.Core.Path.{◌≡◌, refl, sym, ap, ap₂, ◌∙◌, subst}
use mathlib.Core.Bool.{Bool, true, false, cond}
use mathlib.Core.List.{List, []}
use Prim.Native.Nat.{ℕ, zero, suc, ◌+◌, ◌-◌, ◌*◌, ◌≤◌, ◌<◌}
use native.Mathlib.Nat.{add-zero, le_refl}
use native.Mathlib.Numerals.{add-one}
use native.Mathlib.Omega.{arith}
use lib.Dec.{leb}
use lib.ListN.{length, get_or, set, take, drop, length-set, drop_of_length-le}
use lib.Seq.{drop-cons, drop-set-lt, take-suc-set, take_all}
use borrow.Author.Tests.{leb-true, le-leb, lt-leb}
use Rattle.words.proofs.Digits.{Below, below_set}
use Rattle.counter.specs.Counter.{forward}
use Rattle.counter.proofs.Laws.{forward-ge, forward-le}
use Rattle.candidates.specs.Candidates.{choice}
use Rattle.candidates.specs.declared.Choice.{Choice}
use Rattle.candidates.specs.declared.Choice.TheVariants.{None, Only, Several}
use Rattle.candidates.proofs.Choices.{OnlyIs, choice-near}
use Rattle.control.specs.Control.{is_open}
use Rattle.cache.specs.Cache.{cell_bytes}
use Rattle.calls.specs.Recovery.{Step, to, bad, by_phase, by_choice, Source, step_of, line_step, phase_byte}
use Rattle.calls.specs.Recovery.{Forwarded, so_far, failed, onward, stepped, forward_from, forward_page}

-- ---- the step of a line

-- what a step may come to from the minor s
unfoldable pub Within : ℕ → Step → Type 0
Within s (to v) = (s ≤ v) × (v ≤ s + 3) × (v < 128)
Within s (bad k) = Unit {0}

phase-within : (s p : ℕ) → Within s (by_phase s p)
unfolding Within by_phase
phase-within s p = go (leb p 3) (leb (forward s p) 127) refl
  where
    go : (b d : Bool) → leb (forward s p) 127 ≡ d → Within s (cond b (cond d (to (forward s p)) (bad 32)) (bad 28))
    go true true e = (forward-ge s p, forward-le s p, omega (arith, leb-true (forward s p) 127 e))
    go true false e = tt
    go false d e = tt

choice-within : (s : ℕ) (x : Choice) → OnlyIs (λ v. (s ≤ v) × (v ≤ s + 3) × (v < 128)) x → Within s (by_choice x)
unfolding Within by_choice OnlyIs
choice-within s None p = tt
choice-within s (Only v) p = p
choice-within s Several p = tt

line-within : (x : Source) (n s : ℕ) → Within s (line_step x n s)
unfolding step_of
line-within x n s = go x.family
  where
    go : (f : ℕ) → Within s (step_of f x n s)
    go zero = phase-within s (phase_byte x.array n)
    go (suc f) = choice-within s _ (choice-near x.keys (cell_bytes x.array n) n x.major s)

-- how the code of `step` ends, by the family
module _ (x : Source) (n s : ℕ) {t : Step} where
  pub phase-step : x.family ≡ 0 → {p : ℕ} → t ≡ by_phase s p → p ≡ phase_byte x.array n → t ≡ line_step x n s
  unfolding step_of
  phase-step z e q = e ∙ ap (by_phase s) q ∙ ap (λ (f : ℕ). step_of f x n s) (sym z)

  pub choice-step : (x.family ≡ 0 → ⊥) → {b : List ℕ} {y : Choice} → t ≡ by_choice y → b ≡ cell_bytes x.array n
      → y ≡ choice x.keys b n x.major s → t ≡ line_step x n s
  unfolding step_of
  choice-step z {b} {y} e p q = go x.family z
    where
      cell-choice : y ≡ choice x.keys (cell_bytes x.array n) n x.major s
      cell-choice = q ∙ ap (λ (l : List ℕ). choice x.keys l n x.major s) p

      go : (f : ℕ) → (f ≡ 0 → ⊥) → t ≡ step_of f x n s
      go zero w = absurd (w refl)
      go (suc f) w = e ∙ ap by_choice cell-choice

-- how the code of `forwarded` ends
module _ (s p : ℕ) where
  pub phase-out : 3 < p → bad 28 ≡ by_phase s p
  unfolding by_phase
  phase-out q = rw (lt-leb p 3 q) refl

  module _ (l : p ≤ 3) {r : ℕ} (e : r ≡ forward s p) where
    pub minor-out : 127 < r → bad 32 ≡ by_phase s p
    unfolding by_phase
    minor-out q = let past : 127 < forward s p = omega arith in rw (le-leb p 3 l, lt-leb (forward s p) 127 past) refl

    pub minor-in : r ≤ 127 → to r ≡ by_phase s p
    unfolding by_phase
    minor-in q = let few : forward s p ≤ 127 = omega arith in rw (le-leb p 3 l, le-leb (forward s p) 127 few) (ap to e)

-- a step that is made
line-near : (x : Source) (n s : ℕ) {v : ℕ} → to v ≡ line_step x n s → (s ≤ v) × (v ≤ s + 3) × (v < 128)
unfolding Within
line-near x n s e = subst (Within s) (sym e) (line-within x n s)

-- ---- lines one by one

-- the minors ss of lines from n on, of which the first j are brought forward in cur; sum is first and the steps
pub record Forwarding (x : Source) (n : ℕ) (ss : List ℕ) (first : ℕ) (cur : List ℕ) (j sum : ℕ) : Type 0 where
  pub size : length cur ≡ 64
  pub few : Below 128 cur
  pub rest : forward_from x n ss [] first ≡ forward_from x (n + j) (drop j cur) (take j cur) sum
  pub least : sum ≤ first + 3 * j
  pub begun : j ≡ 0 → (cur ≡ ss) × (sum ≡ first)

module _ (x : Source) (n : ℕ) (ss : List ℕ) (first : ℕ) where
  pub forwarding-none : length ss ≡ 64 → Below 128 ss → Forwarding x n ss first ss 0 first
  forwarding-none size few =
      record {
        size = size;
        few = few;
        rest = ap (λ (k : ℕ). forward_from x k ss [] first) (sym (add-zero n));
        least = omega arith;
        begun = λ e. (refl, refl);
      }

  module _ {cur : List ℕ} {j sum : ℕ} (f : Forwarding x n ss first cur j sum) (q : j < 64) where
    abbrev old : ℕ
    old = get_or cur j 0

    -- line n + j, and those after it
    abbrev others : List ℕ → ℕ → Forwarded
    others = forward_from x (suc (n + j)) (drop (suc j) cur)

    opened : {t : Step} → t ≡ line_step x (n + j) old → forward_from x n ss [] first ≡ onward (stepped t (n + j) old (take j cur) sum) others
    unfolding forward_from
    opened d =
        f.rest ∙ ap (λ (l : List ℕ). forward_from x (n + j) l (take j cur) sum) (drop-cons cur j 0 (omega (arith, f.size)))
        ∙ ap (λ (t : Step). onward (stepped t (n + j) old (take j cur) sum) others) (sym d)

    pub forwarding-fails : {k : ℕ} → bad k ≡ line_step x (n + j) old → forward_from x n ss [] first ≡ failed k (n + j)
    unfolding stepped onward
    forwarding-fails e = opened e

    module _ {v : ℕ} (e : to v ≡ line_step x (n + j) old) where
      pub forwarded-ge : old ≤ v
      forwarded-ge = (line-near x (n + j) old e).0

      pub forwarded-le : v ≤ old + 3
      forwarded-le = (line-near x (n + j) old e).1

      pub forwarding-next : Forwarding x n ss first (set cur j v) (j + 1) (sum + (v - old))
      unfolding stepped onward
      forwarding-next =
          let room : j < length cur = omega (arith, f.size) in
          let past : suc (n + j) ≡ n + (j + 1) = omega arith in
          let t = sum + (v - old) in
          record {
            size = length-set cur j v ∙ f.size;
            few = below_set cur j v (line-near x (n + j) old e).2 f.few;
            rest =
                opened e
                ∙ ap₂ {C = Forwarded} (λ (xs ys : List ℕ). forward_from x (suc (n + j)) ys xs t)
                (sym (take-suc-set cur j v room) ∙ ap (λ (k : ℕ). take k (set cur j v)) (sym (add-one j)))
                (sym (drop-set-lt (suc j) cur j v (le_refl (suc j))) ∙ ap (λ (k : ℕ). drop k (set cur j v)) (sym (add-one j)))
                ∙ ap (λ (k : ℕ). forward_from x k (drop (j + 1) (set cur j v)) (take (j + 1) (set cur j v)) t) past;
            least = omega (arith, f.least, forwarded-le);
            begun = λ e. absurd (omega arith);
          }

  -- all of them
  pub forwarding-all : {cur : List ℕ} {j sum : ℕ} → Forwarding x n ss first cur j sum → 64 ≤ j
      → forward_from x n ss [] first ≡ so_far cur sum
  unfolding forward_from
  forwarding-all {cur} {j} {sum} f p =
      f.rest
      ∙ ap₂ {C = Forwarded} (λ (xs ys : List ℕ). forward_from x (n + j) ys xs sum) (take_all j cur (omega (arith, f.size)))
      (drop_of_length-le cur (let past : length cur ≤ j = omega (arith, f.size) in past))

-- ---- a page, of which n lines are brought forward: none where it is open

module _ (k : List ℕ) (x : Source) (p : ℕ) (ss : List ℕ) (first : ℕ) {cur : List ℕ} {j sum n : ℕ}
    (f : Forwarding x (64 * p) ss first cur j sum) (bound : n ≡ cond (is_open k p) 0 64) where
  pub page-fails : j < n → {i : ℕ} → bad i ≡ line_step x (64 * p + j) (get_or cur j 0) → forward_page k x p ss first ≡ failed i (64 * p + j)
  unfolding forward_page
  page-fails q {i} e = go (is_open k p) bound
    where
      go : (b : Bool) → n ≡ cond b 0 64
          → cond b (so_far ss first) (forward_from x (64 * p) ss [] first) ≡ failed i (64 * p + j)
      go true w = absurd (omega arith)
      go false w = forwarding-fails x (64 * p) ss first f (omega arith) e

  pub page-all : j ≤ n → n ≤ j → forward_page k x p ss first ≡ so_far cur sum
  unfolding forward_page
  page-all q r = go (is_open k p) bound
    where
      go : (b : Bool) → n ≡ cond b 0 64 → cond b (so_far ss first) (forward_from x (64 * p) ss [] first) ≡ so_far cur sum
      go true w = let same = f.begun (omega arith) in sym (ap₂ so_far same.0 same.1)
      go false w = forwarding-all x (64 * p) ss first f (omega arith)
