-- A line turned in a batch of a turn that is not the last: the array keeps what the book says, with one line less still to turn.
-- Assumes nothing.
use mathlib.Core.Path.{◌≡◌, refl, sym, ap, ◌∙◌, subst, subst₂}
use mathlib.Core.Logic.{◌⊎◌, inl, inr}
use mathlib.Core.Bool.{Bool, true, false}
use mathlib.Core.List.{List, ◌∷◌}
use mathlib.Core.Option.{Option, some}
use Prim.Native.Nat.{ℕ, ◌+◌, ◌*◌, ◌≤◌, ◌<◌, zero-le}
use native.Mathlib.Omega.{arith}
use borrow.Author.Tests.{eqb-true}
use lib.ListN.{length}
use Rattle.words.specs.Bytes.{part, put}
use Rattle.words.proofs.Order.{eq-or-not}
use Rattle.bits.proofs.Climbs.{Climbs, up}
use Rattle.memory_map.specs.Map.{page_of, place_of, pages, lines, nodes, slots, cell_of}
use Rattle.memory_map.specs.Map.Item.{line}
use Rattle.slot_map.specs.Slots.{slot_of, level_of}
use Rattle.slot_map.proofs.Laws.{slot-within, level-within}
use Rattle.counter.specs.Counter.{major, minor, lag}
use Rattle.turn_block.proofs.Laws.{turned-some}
use Rattle.cache.specs.Cache.{shadow_owner}
use Rattle.cache.proofs.Laws.{owned-same, slot-holds}
use Rattle.calls.specs.Turn.{line_at}
use Rattle.history_laws.specs.History.{Book}
use Rattle.call_laws.proofs.Turn.{line-inside, line-page, line-place}
use Rattle.history_laws.proofs.Setting.{Setting, Tree, Alike, tree_of, tree_node, node_in}
use Rattle.history_laws.proofs.Setting.{Opening, turning, among, opens, turned_tree, sealed}
use Rattle.history_laws.proofs.Opening.{turned-count, sealed-tree, among_first, among_later, among_below}
use Rattle.history_laws.proofs.Opening.{Still, still-turning, left-alike, alike-back, alike_of}
use Rattle.history_laws.proofs.Durable.{Spare, Durable}
use Rattle.history_laws.proofs.Stores.{kind, page-in, in-line, Put, length-after, nodes-apart, shadows-apart, spare-put}
use Rattle.history_laws.proofs.Stores.{row_same, row_other}
use Rattle.history_laws.proofs.Live.{Live}
use Rattle.history_laws.proofs.Data.{data_bytes, length-data}
use Rattle.history_laws.proofs.State.{RowOk, row_moved, row-some, Keeps}

climbs-head : {hi lo j : ℕ} {js : List ℕ} → Climbs hi lo (j ∷ js) → (j < hi) × (among j js ≡ false)
climbs-head {j = j} (up l q rest) = (q, among_below j (omega arith) rest)

-- the lowest of them, which has the text t, encrypted afresh
module _ {S : Setting} {b : Book} {o : Opening} {a : List ℕ} (k : Keeps S b o a) {p j lo : ℕ} {js : List ℕ}
    (s : Still (tree_of b) o p (j ∷ js)) (climb : Climbs 64 lo (j ∷ js)) (page : p < pages S.h) {t : List ℕ}
    (says : b.text (line_at p j) ≡ some t) where
  open S use {h}

  abbrev T : Tree
  T = tree_of b

  abbrev U : Tree
  U = turned_tree T p

  abbrev n : ℕ
  n = line_at p j

  place : j < 64
  place = (climbs-head climb).0

  on-page : page_of n ≡ p
  on-page = line-page h p j place

  row : RowOk S T n (some t) a
  row =
      subst₂ (λ (W : Tree) (x : Option (List ℕ)). RowOk S W n x a)
      (sealed-tree o T n (s.yet n on-page (ap (λ (i : ℕ). among i (j ∷ js)) (line-place h p j place) ∙ among_first j js))) says
      (k.rows n (line-inside h p j place page))

  abbrev bytes : List ℕ
  bytes = data_bytes S U n t

  -- any array as long takes its cell, and has it then
  pub line-put : {e : List ℕ} → length e ≡ length a → Put h e (line n) bytes
  unfolding RowOk
  line-put e =
      record { whole = e ∙ k.durable.whole; inside = in-line h n (line-inside h p j place page); size = length-data S U n t row.1 }

  pub line_ok : (e : List ℕ) → part e (72 * n) 72 ≡ bytes → RowOk S U n (b.text n) e
  unfolding RowOk
  line_ok e q =
      subst (λ (x : Option (List ℕ)). RowOk S U n x e) (sym says)
      (row-some S U n e t (omega (arith, turned-count T p n on-page, turned-some (b.count n) (λ z. omega (arith, row.0, z))))
      row.1 row.2 q)

  -- ---- in a batch that is not the last

  abbrev pub line-turned : List ℕ
  line-turned = put a (72 * cell_of h (line n)) bytes

  u : Put h a (line n) bytes
  u = line-put refl

  -- the counter of every other line stays
  others : (x : ℕ) → (x ≡ n → ⊥) → Alike (sealed o T x) (sealed (turning p js) T x) x
  others x z = go (eq-or-not (page_of x) p)
    where
      now : Still T (turning p js) p js
      now = still-turning T p js

      here : page_of x ≡ p → among (place_of x) (j ∷ js) ≡ among (place_of x) js
      here e = among_later (place_of x) j js (λ i. z (omega arith))

      by : page_of x ≡ p → (y : Bool) → among (place_of x) js ≡ y → Alike (sealed o T x) (sealed (turning p js) T x) x
      by e true m =
          alike-back (alike_of (sealed-tree o T x (s.yet x e (here e ∙ m)))) (alike_of (sealed-tree (turning p js) T x (now.yet x e m)))
      by e false m = alike-back (left-alike s x e (here e ∙ m)) (left-alike now x e m)

      go : (page_of x ≡ p) ⊎ (page_of x ≡ p → ⊥) → Alike (sealed o T x) (sealed (turning p js) T x) x
      go (inl e) = by e (among (place_of x) js) refl
      go (inr e) =
          alike-back (alike_of (sealed-tree o T x (s.away x e))) (alike_of (sealed-tree (turning p js) T x (now.away x e)))

  -- and its own is the turned tree's
  own : Alike U (sealed (turning p js) T n) n
  own =
      alike-back (alike_of refl)
      (left-alike (still-turning T p js) n on-page (ap (λ (i : ℕ). among i js) (line-place h p j place) ∙ (climbs-head climb).1))

  cells : (x : ℕ) → x < lines h → RowOk S (sealed (turning p js) T x) x (b.text x) line-turned
  cells x q = go (eq-or-not x n)
    where
      go : (x ≡ n) ⊎ (x ≡ n → ⊥) → RowOk S (sealed (turning p js) T x) x (b.text x) line-turned
      go (inl z) =
          subst (λ (i : ℕ). RowOk S (sealed (turning p js) T i) i (b.text i) line-turned) (sym z)
          (row_moved S own line-turned line-turned (b.text n) refl (line_ok line-turned (row_same u)))
      go (inr z) = row_moved S (others x z) a line-turned (b.text x) (row_other u x q z) (k.rows x q)

  nodes-same : (l i : ℕ) → l ≤ h → i < nodes h l → node_in S line-turned l i ≡ node_in S a l i
  unfolding kind
  nodes-same = nodes-apart u (λ (z : ◌≡◌ {A = ℕ} 0 1). omega arith)

  shadows-same : (i : ℕ) → i < slots h → shadow_owner h line-turned i ≡ shadow_owner h a i
  unfolding kind
  shadows-same = shadows-apart u (λ (z : ◌≡◌ {A = ℕ} 0 2). omega arith)

  -- where the array has the block
  module _ (block : node_in S a 0 p ≡ tree_node S T 0 p) where
    turned-durable : Durable S T (turning p js) line-turned
    unfolding opens Spare
    turned-durable =
        let d = k.durable in
        let same : (q : ℕ) → q < pages h → node_in S line-turned 0 q ≡ node_in S a 0 q = λ q r. nodes-same 0 q zero-le (page-in h q r) in
        record {
          whole = length-after u ∙ d.whole;
          small = d.small;
          owners = owned-same d.owners shadows-same;
          stored = λ l i q r e. nodes-same l i q r
              ∙ d.stored l i q r (λ z. e (shadows-same (slot_of l i) (slot-within h l i q) ∙ z));
          majors = λ q r. ap major (same q r) ∙ d.majors q r;
          behind = λ q i r l. subst (λ (x : List ℕ). minor x i ≤ b.count (64 * q + i)) (sym (same q r)) (d.behind q i r l);
          near = λ q i r l. subst (λ (x : List ℕ). b.count (64 * q + i) ≤ minor x i + lag (b.count (64 * q + i))) (sym (same q r))
              (d.near q i r l);
          open_block = λ q r e.
              same q r ∙ subst (λ (i : ℕ). node_in S a 0 i ≡ tree_node S T 0 i) (eqb-true p q e) block;
          spare = spare-put u d.spare tt;
        }

    pub keeps-turned : Keeps S b (turning p js) line-turned
    keeps-turned = record { durable = turned-durable; rows = cells }

    pub live-turned : {c : List ℕ} → Live S T o a c → Live S T (turning p js) line-turned c
    live-turned {c} v =
        record {
          durable = turned-durable;
          fit = v.fit;
          listed = λ i q. v.listed i q ∙ sym (shadows-same i q);
          fresh = v.fresh;
          clean = λ i x q e z.
              nodes-same (level_of i) x (level-within h i q) (slot-holds h c i x v.fit.formed q e).0 ∙ v.clean i x q e z;
        }
