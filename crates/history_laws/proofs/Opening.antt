-- Laws of a turn that is not finished: what the section says of it, which counter the cell of a line has, and which lines are still to
-- turn. Assumes nothing.
use mathlib.Core.Path.{◌≡◌, refl, sym, ap, ap₂, ◌∙◌, subst}
use mathlib.Core.Logic.{◌⊎◌, inl, inr}
use mathlib.Core.Bool.{Bool, true, false, ◌&&◌, ◌||◌, not, cond, false≢true, or-true}
use mathlib.Core.List.{List, [], ◌∷◌, Memᴰ}
use Prim.Native.Nat.{ℕ, suc, ◌+◌, ◌*◌, ◌^◌, ◌≤◌, ◌<◌}
use native.Mathlib.Omega.{arith}
use borrow.Author.Tests.{eq-eqb, ne_eqb, lt-ltb}
use lib.Dec.{eqb, lit<, lit≤}
use lib.Pow.{pow_pos}
use lib.ListN.{length, take, drop}
use lib.Seq.{take_at, drop_at, take_all}
use Rattle.words.specs.Bytes.{from_le, to_le, put}
use Rattle.words.proofs.Digits.{length_digits, number-exact}
use Rattle.words.proofs.Order.{eq-or-not}
use Rattle.words.proofs.Puts.{get_d-put-in, part-put-in, part-put-before}
use Rattle.bits.specs.Bits.{set_bits, with_bits}
use Rattle.bits.proofs.Climbs.{Climbs, end, up}
use Rattle.bits.proofs.Laws.{bits-with, with-lt}
use Rattle.memory_map.specs.Map.{page_of, place_of, pages}
use Rattle.counter.specs.Counter.{minor, written, turned_minor}
use Rattle.turn_block.proofs.Laws.{turned_none, written_stands}
use Rattle.control.specs.Control.{control_length, depth, turn_at, turn_count, turn_page, turn_mask, turn_bytes, is_open}
use Rattle.control.proofs.Laws.{same-depth, same-turn-count, same-turn-page, same-turn-mask, same_turn, length-turn}
use Rattle.control.proofs.Laws.{turn-count-at, turn-page-at, turn-mask-at, turn-none, turn_in}
use Rattle.history_laws.specs.History.{turned_count}
use Rattle.history_laws.proofs.Setting.{Setting, Tree, Small, Agree, Alike, tree_node}
use Rattle.history_laws.proofs.Setting.{Opening, closed, turning, among, opens, is_done, turned_tree, sealed, Says, Section}
use Rattle.history_laws.proofs.Tree.{changed-same, changed-other, fresh-minor}

-- ---- the section

says_same : (o : Opening) (k t : List ℕ) → drop turn_at k ≡ drop turn_at t → Says o k → Says o t
unfolding Says
says_same closed k t e s = sym (same-turn-count k t e) ∙ s
says_same (turning p js) k t e s = (
  sym (same-turn-count k t e) ∙ s.0,
  sym (same-turn-page k t e) ∙ s.1,
  ap set_bits (sym (same-turn-mask k t e)) ∙ s.2,
)

-- records with the same one
pub section-same : {o : Opening} {k : List ℕ} (t : List ℕ) → drop turn_at t ≡ drop turn_at k → depth t ≡ depth k → Section o k → Section o t
section-same {o} {k} t e d s = record { valid = same_turn t k e d ∙ s.valid; says = says_same o k t (sym e) s.says }

pub section-open : {o : Opening} {k : List ℕ} → Section o k → (p : ℕ) → is_open k p ≡ opens o p
unfolding is_open opens Says
section-open {o} {k} s p = go o s.says
  where
    go : (x : Opening) → Says x k → is_open k p ≡ opens x p
    go closed e = ap (λ (n : ℕ). eqb n 1 && eqb (turn_page k) p) e
    go (turning q js) e = ap₂ (λ (n i : ℕ). eqb n 1 && eqb i p) e.0 e.1

-- what the record says once the section is set
module _ (k : List ℕ) (size : length k ≡ control_length) (n p mask : ℕ) where
  abbrev set-section : List ℕ
  set-section = put k turn_at (turn_bytes n p mask)

  room : turn_at ≤ length k
  room = omega (arith, size)

  count_set : turn_count set-section ≡ n
  count_set = turn-count-at set-section ∙ get_d-put-in k turn_at (turn_bytes n p mask) room 0 (omega (arith, length-turn n p mask))

  page-set : p < 2 ^ 64 → turn_page set-section ≡ p
  page-set q =
      turn-page-at set-section
      ∙ ap from_le (part-put-in k turn_at (turn_bytes n p mask) room 1 8 (omega (arith, length-turn n p mask))
      ∙ take_at (to_le 8 p) (to_le 8 mask) 8 (length_digits 256 8 p))
      ∙ number-exact 256 8 p (lit< tt) q

  mask-set : mask < 2 ^ 64 → turn_mask set-section ≡ mask
  mask-set q =
      turn-mask-at set-section
      ∙ ap from_le (part-put-in k turn_at (turn_bytes n p mask) room 9 8 (omega (arith, length-turn n p mask))
      ∙ ap (take 8) (drop_at (n ∷ to_le 8 p) (to_le 8 mask) 9 (omega (arith, length_digits 256 8 p)))
      ∙ take_all 8 (to_le 8 mask) (omega (arith, length_digits 256 8 mask)))
      ∙ number-exact 256 8 mask (lit< tt) q

  depth-set : depth set-section ≡ depth k
  depth-set = same-depth set-section k (part-put-before k turn_at (turn_bytes n p mask) room 0 7 (lit≤ tt))

pub section-closed : (k : List ℕ) → length k ≡ control_length → Section closed (put k turn_at (turn_bytes 0 0 0))
unfolding Says
section-closed k size =
    let none = count_set k size 0 0 0 in
    record { valid = sym (turn-none (put k turn_at (turn_bytes 0 0 0)) (sym (turn-count-at _) ∙ none)); says = none }

some-bit : (js : List ℕ) → 0 < length js → 0 < with_bits js
unfolding with_bits
some-bit [] q = absurd (omega arith)
some-bit (j ∷ js) q = omega (arith, pow_pos j)

pub section-turning : (k : List ℕ) → length k ≡ control_length → (p : ℕ) → p < pages (depth k) → p < 2 ^ 64 → (js : List ℕ) → Climbs 64 0 js
    → 0 < length js → Section (turning p js) (put k turn_at (turn_bytes 1 p (with_bits js)))
unfolding Says
section-turning k size p page word js climb filled =
    let now = put k turn_at (turn_bytes 1 p (with_bits js)) in
    let one = count_set k size 1 p (with_bits js) in
    let its-page = page-set k size 1 p (with_bits js) word in
    let its-mask = mask-set k size 1 p (with_bits js) (with-lt climb) in
    record {
      valid =
          sym (turn_in now (λ z. omega (arith, one, turn-count-at now, z)) (sym (turn-count-at now) ∙ one)
          (omega (arith, its-page, ap pages (depth-set k size 1 p (with_bits js)))))
          ∙ lt-ltb 0 (turn_mask now) (omega (arith, its-mask, some-bit js filled));
      says = (one, its-page, ap set_bits its-mask ∙ bits-with climb);
    }

-- ---- the tree after a turn

module _ (T : Tree) (p : ℕ) where
  pub turned-major : (turned_tree T p).major p ≡ suc (T.major p)
  turned-major = changed-same T.major p (suc (T.major p))

  pub turned-count : (n : ℕ) → page_of n ≡ p → (turned_tree T p).count n ≡ turned_minor (T.count n)
  unfolding turned_count
  turned-count n e = ap (λ (b : Bool). cond b (turned_minor (T.count n)) (T.count n)) (eq-eqb (page_of n) p e)

  -- other pages stay
  pub turned-agree : (q : ℕ) → (q ≡ p → ⊥) → Agree T (turned_tree T p) q
  unfolding turned_count
  turned-agree q e =
      record {
        major = sym (changed-other T.major p (suc (T.major p)) q e);
        count = λ n r. sym (ap (λ (b : Bool). cond b (turned_minor (T.count n)) (T.count n))
            (ne_eqb (page_of n) p (λ z. e (sym r ∙ z))));
      }

-- ---- the counter of a line's cell

-- a page that is not open has no line turned
pub not_done : (o : Opening) (n : ℕ) → opens o (page_of n) ≡ false → is_done o n ≡ false
unfolding opens is_done
not_done closed n e = refl
not_done (turning q js) n e = ap (λ (b : Bool). b && not (among (place_of n) js)) e

pub closed-line : {o : Opening} {k : List ℕ} → Section o k → (n : ℕ) → is_open k (page_of n) ≡ false → is_done o n ≡ false
closed-line {o} s n e = not_done o n (sym (section-open s (page_of n)) ∙ e)

-- the tree's, where the line is not turned
pub sealed-tree : (o : Opening) (T : Tree) (n : ℕ) → is_done o n ≡ false → sealed o T n ≡ T
sealed-tree o T n e = ap (λ (b : Bool). cond b (turned_tree T (page_of n)) T) e

-- in trees that have the same counter for the line it is the same
pub sealed-alike : (o : Opening) (T U : Tree) (n : ℕ) → T.major (page_of n) ≡ U.major (page_of n) → T.count n ≡ U.count n
    → Alike (sealed o T n) (sealed o U n) n
sealed-alike o T U n d e = go (is_done o n)
  where
    go : (b : Bool) → Alike (cond b (turned_tree T (page_of n)) T) (cond b (turned_tree U (page_of n)) U) n
    go true =
        record {
          count = turned-count T (page_of n) n refl ∙ ap turned_minor e ∙ sym (turned-count U (page_of n) n refl);
          major = λ q. turned-major T (page_of n) ∙ ap suc d ∙ sym (turned-major U (page_of n));
        }
    go false = record { count = e; major = λ q. d }

-- ---- places among others

pub among-more : (i j : ℕ) (js : List ℕ) → among i js ≡ true → among i (j ∷ js) ≡ true
unfolding among
among-more i j js e = ap (λ (b : Bool). eqb i j || b) e ∙ or-true (eqb i j)

among-mem : {j : ℕ} {js : List ℕ} → Memᴰ j js → among j js ≡ true
unfolding among
among-mem {j} (Memᴰ.head {x = k} {xs = ks} e) = ap (λ (b : Bool). b || among j ks) (eq-eqb j k e)
among-mem {j} (Memᴰ.tail {x = k} {xs = ks} m) = among-more j k ks (among-mem m)

pub among_first : (j : ℕ) (js : List ℕ) → among j (j ∷ js) ≡ true
unfolding among
among_first j js = ap (λ (b : Bool). b || among j js) (eq-eqb j j refl)

pub among_later : (i j : ℕ) (js : List ℕ) → (i ≡ j → ⊥) → among i (j ∷ js) ≡ among i js
unfolding among
among_later i j js e = ap (λ (b : Bool). b || among i js) (ne_eqb i j e)

pub among_below : {hi lo : ℕ} {js : List ℕ} (j : ℕ) → j < lo → Climbs hi lo js → among j js ≡ false
unfolding among
among_below j q end = refl
among_below j q (up {j = k} {js = ks} l u rest) =
    among_later j k ks (λ z. omega arith) ∙ among_below j (omega arith) rest

-- those that climb are all below their bound
pub among-climbs : {hi lo : ℕ} {js : List ℕ} (j : ℕ) → Climbs hi lo js → among j js ≡ true → j < hi
unfolding among
among-climbs j end e = absurd (false≢true e)
among-climbs {hi} j (up {j = k} {js = ks} l q rest) e = go (eq-or-not j k) (λ m. among-climbs j rest m)
  where
    go : (j ≡ k) ⊎ (j ≡ k → ⊥) → (among j ks ≡ true → j < hi) → j < hi
    go (inl z) later = omega arith
    go (inr z) later = later (sym (among_later j k ks z) ∙ e)

-- ---- the lines still to turn

-- of page p those at the places js; the others of the page are turned, or not written
pub record Still (T : Tree) (o : Opening) (p : ℕ) (js : List ℕ) : Type 0 where
  pub away : (n : ℕ) → (page_of n ≡ p → ⊥) → is_done o n ≡ false
  pub yet : (n : ℕ) → page_of n ≡ p → among (place_of n) js ≡ true → is_done o n ≡ false
  pub gone : (n : ℕ) → page_of n ≡ p → among (place_of n) js ≡ false → (is_done o n ≡ true) ⊎ (T.count n ≡ 0)

-- a turn that is not finished
pub still-turning : (T : Tree) (p : ℕ) (js : List ℕ) → Still T (turning p js) p js
unfolding is_done
still-turning T p js =
    record {
      away = λ n e. ap (λ (b : Bool). b && not (among (place_of n) js)) (ne_eqb p (page_of n) (λ z. e (sym z)));
      yet = λ n e m. ap₂ (λ (a b : Bool). a && not b) (eq-eqb p (page_of n) (sym e)) m;
      gone = λ n e m. inl (ap₂ (λ (a b : Bool). a && not b) (eq-eqb p (page_of n) (sym e)) m);
    }

-- and one that begins
pub still-closed : (S : Setting) {T : Tree} → Small T → (p : ℕ) → Still T closed p (written (tree_node S T 0 p))
unfolding is_done
still-closed S {T} small p = record { away = λ n e. refl; yet = λ n e m. refl; gone = λ n e m. inr (unwritten n e m) }
  where
    unwritten : (n : ℕ) → page_of n ≡ p → among (place_of n) (written (tree_node S T 0 p)) ≡ false → T.count n ≡ 0
    unwritten n e m =
        let at : 64 * p + place_of n ≡ n = omega arith in
        let its-minor = fresh-minor S small p (place_of n) (omega arith) ∙ ap T.count at in
        go its-minor (eq-or-not (T.count n) 0)
      where
        go : minor (tree_node S T 0 p) (place_of n) ≡ T.count n → (T.count n ≡ 0) ⊎ (T.count n ≡ 0 → ⊥) → T.count n ≡ 0
        go f (inl z) = z
        go f (inr z) =
            absurd (false≢true (sym m ∙ among-mem (written_stands (tree_node S T 0 p) (place_of n) (omega arith) (λ y. z (sym f ∙ y)))))

-- the counter of a line that is not among them is that of the turned tree already
pub left-alike : {T : Tree} {o : Opening} {p : ℕ} {js : List ℕ} → Still T o p js → (n : ℕ) → page_of n ≡ p → among (place_of n) js ≡ false
    → Alike (sealed o T n) (turned_tree T p) n
left-alike {T} {o} {p} s n e m = go (is_done o n) refl
  where
    U : Tree
    U = turned_tree T p

    go : (b : Bool) → is_done o n ≡ b → Alike (cond b (turned_tree T (page_of n)) T) U n
    go true d =
        subst (λ (q : ℕ). Alike (turned_tree T (page_of n)) (turned_tree T q) n) e (record { count = refl; major = λ z. refl })
    go false d = none (s.gone n e m)
      where
        none : (is_done o n ≡ true) ⊎ (T.count n ≡ 0) → Alike T U n
        none (inl z) = absurd (false≢true (sym d ∙ z))
        none (inr z) =
            record { count = z ∙ sym (turned-count T p n e ∙ turned_none (T.count n) z); major = λ q. absurd (omega arith) }

-- trees that have the same counter as a third
pub alike-back : {T U W : Tree} {n : ℕ} → Alike T W n → Alike U W n → Alike T U n
alike-back t u =
    record {
      count = t.count ∙ sym u.count;
      major = λ q. t.major q ∙ sym (u.major (omega (arith, q, t.count, u.count)));
    }

pub alike_of : {T U : Tree} {n : ℕ} → T ≡ U → Alike T U n
alike_of {T} {U} {n} e = subst (λ (W : Tree). Alike T W n) e (record { count = refl; major = λ q. refl })
