-- Minors brought forward, in either family: where the cells fit, each line comes to its count, unless, in family 1, another candidate
-- fits beside it, which ends it as 34. Assumes nothing.
use mathlib.Core.Path.{◌≡◌, sym, ap, ap₂, ◌∙◌, subst, subst₂}
use mathlib.Core.Logic.{◌⊎◌, inl, inr}
use mathlib.Core.Bool.{Bool, true, false, cond}
use mathlib.Core.List.{List, [], ◌∷◌, ◌++◌, append-nil, append_assoc}
use Prim.Native.Nat.{ℕ, zero, suc, ◌+◌, ◌-◌, ◌*◌, ◌≤◌, ◌<◌}
use native.Mathlib.Nat.{le_refl}
use native.Mathlib.Omega.{arith}
use borrow.Author.Tests.{le-leb}
use lib.Dec.{lit<}
use lib.ListN.{length, get_or}
use Rattle.words.proofs.Puts.{get_d_part}
use Rattle.memory_map.specs.Map.{page_of, place_of, pages, lines}
use Rattle.slot_map.specs.Slots.{slot_of}
use Rattle.counter.specs.Counter.{major, minors, minor, counter_block, phase_of}
use Rattle.counter.proofs.Laws.{length-minors, forward-reaches}
use Rattle.candidates.specs.Candidates.{cell_fits, choice}
use Rattle.candidates.specs.declared.Choice.TheVariants.{Only, Several}
use Rattle.candidates.proofs.Choices.{Rival, choice-fits}
use Rattle.control.specs.Control.{family, is_open}
use Rattle.cache.specs.Cache.{shadow_owner, with_slot, cell_bytes}
use Rattle.journal.specs.Journal.{media}
use Rattle.calls.specs.Recovery.{Step, to, bad, by_phase, by_choice, phase_byte, Source, step_of, line_step, source_of}
use Rattle.calls.specs.Recovery.{Forwarded, so_far, failed, onward, stepped, forward_from, forward_page, rebuild_block}
use Rattle.calls.specs.Format.{counts_from, fresh_node}
use Rattle.history_laws.specs.History.{total}
use Rattle.history_laws.proofs.Setting.{Setting, Tree, tree_node, node_in, Opening, opens, Section}
use Rattle.history_laws.proofs.Tree.{fresh-minors}
use Rattle.history_laws.proofs.Opening.{section-open, not_done, sealed-tree}
use Rattle.history_laws.proofs.Fitting.{Fits, Fitted, phase-fits, count_fits}
use Rattle.history_laws.proofs.Durable.{Durable}

-- ---- what it comes to: what the tree has, or 34 for a reason D

data StepComes (D : Type 0) (t : Step) (v : ℕ) : Type 0 where
  steps : t ≡ to v → StepComes D t v
  halts : D → t ≡ bad 34 → StepComes D t v

pub data Comes (D : Type 0) (r : Forwarded) (x : List ℕ) (sum : ℕ) : Type 0 where
  on : r ≡ so_far x sum → Comes D r x sum
  ended : D → (n : ℕ) → r ≡ failed 34 n → Comes D r x sum

pub then-comes : {D : Type 0} {r : Forwarded} {x y : List ℕ} {s t : ℕ} (next : List ℕ → ℕ → Forwarded) → Comes D r x s
    → Comes D (next x s) y t → Comes D (onward r next) y t
unfolding onward
then-comes next (on e) (on q) = on (ap (λ (r : Forwarded). onward r next) e ∙ q)
then-comes next (on e) (ended d n q) = ended d n (ap (λ (r : Forwarded). onward r next) e ∙ q)
then-comes next (ended d n e) q = ended d n (ap (λ (r : Forwarded). onward r next) e)

step-on : {D : Type 0} {t : Step} {v : ℕ} (n s : ℕ) (ms : List ℕ) (sum : ℕ) → StepComes D t v
    → Comes D (stepped t n s ms sum) (ms ++ (v ∷ [])) (sum + (v - s))
unfolding stepped
step-on n s ms sum (steps e) = on (ap (λ (t : Step). stepped t n s ms sum) e)
step-on n s ms sum (halts d e) = ended d n (ap (λ (t : Step). stepped t n s ms sum) e)

-- the lines from n on, each of which comes to its count, and what these are above the minors
module _ (D : Type 0) (x : Source) (count : ℕ → ℕ) where
  record Reaches (n s : ℕ) : Type 0 where
    behind : s ≤ count n
    comes : StepComes D (line_step x n s) (count n)

  lines-come : (n : ℕ) (ss : List ℕ) → ((k : ℕ) → k < length ss → Reaches (n + k) (get_or ss k 0)) → (ms : List ℕ) (sum : ℕ)
      → (total ss ≤ total (counts_from count n (length ss)))
      × Comes D (forward_from x n ss ms sum) (ms ++ counts_from count n (length ss))
      (sum + (total (counts_from count n (length ss)) - total ss))
  unfolding forward_from counts_from total
  lines-come n [] reaches ms sum = (le_refl 0, on (ap₂ so_far (sym (append-nil ms)) (omega arith)))
  lines-come n (s ∷ ss) reaches ms sum =
      let here : Reaches n s = subst (λ (k : ℕ). Reaches k s) (omega arith) (reaches 0 (omega arith)) in
      let rest = lines-come (suc n) ss
      (λ k q. subst (λ (j : ℕ). Reaches j (get_or ss k 0)) (omega arith) (reaches (suc k) (omega arith)))
      (ms ++ (count n ∷ [])) (sum + (count n - s)) in
      let joined = append_assoc ms (count n ∷ []) (counts_from count (suc n) (length ss)) in
      let all = then-comes (forward_from x (suc n) ss) (step-on n s ms sum here.comes) rest.1 in (
        omega (arith, here.behind, rest.0),
        subst (λ (t : ℕ). Comes D (forward_from x n (s ∷ ss) ms sum) (ms ++ counts_from count n (suc (length ss))) t)
            (omega (arith, here.behind, rest.0))
            (subst (λ (l : List ℕ). Comes D (forward_from x n (s ∷ ss) ms sum) l
            (sum + (count n - s) + (total (counts_from count (suc n) (length ss)) - total ss))) joined all),
      )

-- ---- a line's step

-- a line that a recovery goes through, and another candidate than its count that fits its cell
pub record Doubt (S : Setting) (T : Tree) (o : Opening) (a : List ℕ) : Type 0 where
  pub unphased : S.family ≡ 1
  pub line : ℕ
  pub listed : shadow_owner S.h a (slot_of 0 (page_of line)) ≡ suc (page_of line)
  pub shut : opens o (page_of line) ≡ false
  pub rival : Rival S.keys (cell_bytes a line) line (major (node_in S a 0 (page_of line)))
      (minor (node_in S a 0 (page_of line)) (place_of line)) (T.count line)

-- what the block of a page adds to the sum brought forward
unfoldable pub page_sum : Setting → Tree → List ℕ → ℕ → ℕ
page_sum S T a p = total (counts_from T.count (64 * p) 64) - total (minors (node_in S a 0 p))

module _ {S : Setting} {T : Tree} {o : Opening} {a : List ℕ} (m : Durable S T o a) (cells : Fitted S T o a) where
  open S use {keys, h}
  open T use {count}

  abbrev block : ℕ → List ℕ
  block p = node_in S a 0 p

  abbrev D : Type 0
  D = Doubt S T o a

  module _ (p : ℕ) (page : p < pages h) (shut : opens o p ≡ false) (j : ℕ) (place : j < 64) where
    abbrev n : ℕ
    n = 64 * p + j

    abbrev s : ℕ
    s = minor (block p) j

    abbrev x : ℕ → Source
    x f = record { family = f; keys = keys; array = a; major = major (block p) }

    own-page : p ≡ page_of n
    own-page = omega arith

    own-place : j ≡ place_of n
    own-place = omega arith

    cell-fits : Fits S T n (cell_bytes a n)
    unfolding lines
    cell-fits =
        subst (λ (U : Tree). Fits S U n (cell_bytes a n))
        (sealed-tree o T n (not_done o n (subst (λ (i : ℕ). opens o i ≡ false) own-page shut))) (cells.fits n (omega arith))

    low : s ≤ count n
    low = m.behind p j page place

    near : count n ≤ s + 3
    near = omega (arith, m.near p j page place)

    most : count n ≤ 127
    most = omega (arith, m.small.minor n)

    -- family 0
    by-phase : S.family ≡ 0 → step_of 0 (x 0) n s ≡ to (count n)
    unfolding step_of by_phase
    by-phase z =
        let phase : phase_byte a n ≡ phase_of (count n) =
        sym (get_d_part a (72 * n) 72 64 (lit< tt)) ∙ phase-fits z cell-fits in
        let reach = forward-reaches s (count n) low near in
        rw (phase, reach, le-leb (phase_of (count n)) 3 (omega arith), le-leb (count n) 127 most)

    -- family 1
    by-choice : (f : ℕ) → S.family ≡ 1 → shadow_owner h a (slot_of 0 p) ≡ suc p → StepComes D (step_of (suc f) (x (suc f)) n s) (count n)
    unfolding step_of by_choice
    by-choice f z listed = go (choice-fits keys (cell_bytes a n) n (major (block p)) s (count n) low near most fits)
      where
        fits : cell_fits keys (cell_bytes a n) n (major (block p)) (count n) ≡ true
        fits =
            ap (λ (ma : ℕ). cell_fits keys (cell_bytes a n) n ma (count n)) (m.majors p page ∙ ap T.major own-page)
            ∙ count_fits z cell-fits

        go : (choice keys (cell_bytes a n) n (major (block p)) s ≡ Only (count n))
            ⊎ ((choice keys (cell_bytes a n) n (major (block p)) s ≡ Several) × Rival keys (cell_bytes a n) n (major (block p)) s (count n))
            → StepComes D (by_choice (choice keys (cell_bytes a n) n (major (block p)) s)) (count n)
        go (inl e) = steps (ap by_choice e)
        go (inr e) =
            halts (record {
              unphased = z;
              line = n;
              listed = subst (λ (q : ℕ). shadow_owner h a (slot_of 0 q) ≡ suc q) own-page listed;
              shut = subst (λ (q : ℕ). opens o q ≡ false) own-page shut;
              rival = subst₂ (λ (q i : ℕ). Rival keys (cell_bytes a n) n (major (block q)) (minor (block q) i) (count n)) own-page
                  own-place e.1;
            }) (ap by_choice e.0)

    -- either
    line-comes : (f : ℕ) → f ≡ S.family → shadow_owner h a (slot_of 0 p) ≡ suc p → Reaches D (x f) count n s
    line-comes zero z listed = record { behind = low; comes = steps (by-phase (sym z)) }
    line-comes (suc f) z listed = record { behind = low; comes = by-choice f (omega (arith, z, S.known)) listed }

  -- ---- a page

  module _ {k : List ℕ} (said : Section o k) (alike : family k ≡ S.family) (p : ℕ) (page : p < pages h)
      (listed : shadow_owner h a (slot_of 0 p) ≡ suc p) where
    page-comes : (sum : ℕ) → Comes D (forward_page k (source_of keys (media a k) (major (block p))) p (minors (block p)) sum)
        (counts_from count (64 * p) 64) (sum + page_sum S T a p)
    unfolding forward_page page_sum
    page-comes sum = go (is_open k p) (sym (section-open said p))
      where
        ss : List ℕ
        ss = minors (block p)

        x : Source
        x = source_of keys (media a k) (major (block p))

        go : (b : Bool) → opens o p ≡ b
            → Comes D (cond b (so_far ss sum) (forward_from x (64 * p) ss [] sum)) (counts_from count (64 * p) 64) (sum + page_sum S T a p)
        go true e =
            let same = ap minors (m.open_block p page e) ∙ fresh-minors S m.small p in
            on (ap₂ so_far same (omega (arith, ap total same)))
        go false e =
            subst (λ (n : ℕ). Comes D (forward_from x (64 * p) ss [] sum) (counts_from count (64 * p) n)
            (sum + (total (counts_from count (64 * p) n) - total ss))) (length-minors (block p))
            (lines-come D x count (64 * p) ss
            (λ j r. line-comes p page e j (omega (arith, length-minors (block p))) (family k) alike listed) [] sum).1

    pub block-comes : (c : List ℕ) (sum s : ℕ)
        → Comes D (rebuild_block h keys (media a k) c sum s p) (with_slot c s (suc p) 1 (tree_node S T 0 p)) (sum + page_sum S T a p)
    unfolding rebuild_block fresh_node
    block-comes c sum s =
        then-comes (λ ms t. so_far (with_slot c s (suc p) 1 (counter_block (major (block p)) ms)) t) (page-comes sum)
        (on (ap (λ (i : ℕ). so_far (with_slot c s (suc p) 1 (counter_block i (counts_from count (64 * p) 64))) (sum + page_sum S T a p))
        (m.majors p page)))
