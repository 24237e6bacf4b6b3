-- The last batch of a turn, which stores the new block: the array then keeps what the book says of the finished turn. Assumes nothing.
use mathlib.Core.Path.{◌≡◌, refl, sym, ap, ap₂, ◌∙◌, subst}
use mathlib.Core.Logic.{◌⊎◌, inl, inr}
use mathlib.Core.Bool.{true, false, false≢true}
use mathlib.Core.List.{List, ◌∷◌, map}
use Prim.Native.Nat.{ℕ, zero, suc, ◌+◌, ◌*◌, ◌^◌, ◌≤◌, ◌<◌}
use native.Mathlib.Nat.{le_refl}
use native.Mathlib.Omega.{arith}
use Rattle.words.specs.Bytes.{part}
use Rattle.words.proofs.Order.{eq-or-not}
use Rattle.memory_map.specs.Map.{page_of, place_of, lines}
use Rattle.counter.specs.Counter.{major, minor, counter_block, lag, turned_minor, turned}
use Rattle.turn_block.proofs.Laws.{turned_lt}
use Rattle.calls.specs.Format.{counts_from, fresh_node}
use Rattle.history_laws.specs.History.{Book, turn_entered}
use Rattle.history_laws.proofs.Setting.{Setting, Tree, Small, Alike, tree_of, tree_node, node_in}
use Rattle.history_laws.proofs.Setting.{Opening, closed, among, opens, is_done, turned_tree, sealed}
use Rattle.history_laws.proofs.Tree.{fresh-major, fresh-minors, fresh-minor}
use Rattle.history_laws.proofs.Opening.{turned-major, turned-count, turned-agree, sealed-tree, Still, left-alike}
use Rattle.history_laws.proofs.Durable.{Durable}
use Rattle.history_laws.proofs.Reached.{Reached, Blocked, page-cases, owners-new, stored-new}
use Rattle.history_laws.proofs.State.{RowOk, row_moved, Keeps}

pub turned-fresh : (S : Setting) {T : Tree} → Small T → (p : ℕ) → turned (tree_node S T 0 p) ≡ tree_node S (turned_tree T p) 0 p
unfolding turned fresh_node counts_from
turned-fresh S {T} small p =
    ap₂ (λ (m : ℕ) (ms : List ℕ). counter_block (suc m) (map turned_minor ms)) (fresh-major S small p) (fresh-minors S small p)
    ∙ ap₂ counter_block (sym (turned-major T p)) (counts-turned (64 * p) 64 (λ x q r. turned-count T p x (omega arith)))
  where
    counts-turned : (s n : ℕ) → ((x : ℕ) → s ≤ x → x < s + n → (turned_tree T p).count x ≡ turned_minor (T.count x))
        → map turned_minor (counts_from T.count s n) ≡ counts_from (turned_tree T p).count s n
    counts-turned s zero e = refl
    counts-turned s (suc n) e =
        ap₂ (λ (x : ℕ) (l : List ℕ). x ∷ l) (sym (e s (le_refl s) (omega arith)))
        (counts-turned (suc s) n (λ x q r. e x (omega arith) (omega arith)))

module _ {S : Setting} {b : Book} {o : Opening} {a c : List ℕ} {p : ℕ} (k : Keeps S b o a) (w : Reached S (tree_of b) o a c p) where
  open S use {h}

  abbrev T : Tree
  T = tree_of b

  abbrev U : Tree
  U = turned_tree T p

  -- a line that is not among those still to turn, and whose cell stays
  pub cell-kept : {js : List ℕ} → Still T o p js → (d : List ℕ) (n : ℕ) → n < lines h
      → (page_of n ≡ p → among (place_of n) js ≡ false) → part d (72 * n) 72 ≡ part a (72 * n) 72 → RowOk S U n (b.text n) d
  cell-kept s d n q left same =
      row_moved S (go (eq-or-not (page_of n) p)) a d (b.text n) same (k.rows n q)
    where
      go : (page_of n ≡ p) ⊎ (page_of n ≡ p → ⊥) → Alike (sealed o T n) U n
      go (inl e) = left-alike s n e (left e)
      go (inr e) =
          let other = turned-agree T p (page_of n) e in
          subst (λ (W : Tree). Alike W U n) (sym (sealed-tree o T n (s.away n e)))
          (record { count = other.count n refl; major = λ z. other.major })

  module _ (room : suc (b.turns p) < 2 ^ 64) where
    U-small : Small U
    U-small = record { major = λ q. majors q (eq-or-not q p); minor = λ n. counts n (eq-or-not (page_of n) p) }
      where
        small : Small T
        small = w.live.durable.small

        majors : (q : ℕ) → (q ≡ p) ⊎ (q ≡ p → ⊥) → U.major q < 2 ^ 64
        majors q (inl e) = omega (arith, ap U.major e ∙ turned-major T p, room)
        majors q (inr e) = omega (arith, (turned-agree T p q e).major, small.major q)

        counts : (n : ℕ) → (page_of n ≡ p) ⊎ (page_of n ≡ p → ⊥) → U.count n < 128
        counts n (inl e) = omega (arith, turned-count T p n e, turned_lt (b.count n))
        counts n (inr e) = omega (arith, (turned-agree T p (page_of n) e).count n refl, small.minor n)

    -- an array with the new block, and cells that are the turned tree's
    module _ {d : List ℕ} (x : Blocked w (turned-agree T p) true d) (cells : (n : ℕ) → n < lines h → RowOk S U n (b.text n) d) where
      other-page : {q : ℕ} → (q ≡ p → true ≡ false) → q ≡ p → ⊥
      other-page e z = false≢true (sym (e z))

      pub durable-last : Durable S U closed d
      unfolding opens is_done
      durable-last =
          let same = turned-agree T p in
          let old = w.live.durable in
          record {
            whole = x.whole;
            small = U-small;
            owners = owners-new w same x;
            stored = stored-new w same x;
            majors = λ q r. page-cases w same x (λ y. major y ≡ U.major q) q r (λ e. fresh-major S U-small q)
                (λ e. old.majors q r ∙ (same q (other-page e)).major);
            behind = λ q j r l. page-cases w same x (λ y. minor y j ≤ U.count (64 * q + j)) q r
                (λ e. omega (arith, fresh-minor S U-small q j l))
                (λ e. omega (arith, old.behind q j r l, (same q (other-page e)).count (64 * q + j) (omega arith)));
            near = λ q j r l. page-cases w same x (λ y. U.count (64 * q + j) ≤ minor y j + lag (U.count (64 * q + j))) q r
                (λ e. omega (arith, fresh-minor S U-small q j l))
                (λ e. subst (λ (i : ℕ). i ≤ minor (node_in S a 0 q) j + lag i)
                ((same q (other-page e)).count (64 * q + j) (omega arith)) (old.near q j r l));
            open_block = λ q r e. absurd (false≢true e);
            spare = x.spare;
          }

      pub keeps-last : Keeps S (turn_entered true p b) closed d
      unfolding turn_entered is_done
      keeps-last = record { durable = durable-last; rows = cells }
