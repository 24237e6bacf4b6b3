-- What a write stores: array and cache go together again, for the counts with its line's raised by one, and the line's cell has its text.
-- Assumes nothing.
use mathlib.Core.Path.{◌≡◌, refl, sym, ap, ap₂, ◌∙◌, subst}
use mathlib.Core.Logic.{◌⊎◌, inl, inr}
use mathlib.Core.Bool.{Bool, true, false, cond, false≢true}
use mathlib.Core.List.{List}
use Prim.Native.Nat.{ℕ, suc, ◌+◌, ◌*◌, ◌≤◌, ◌<◌, zero-le}
use native.Mathlib.Omega.{arith}
use borrow.Author.Tests.{eq-eqb}
use lib.Dec.{eqb}
use lib.ListN.{length}
use Rattle.words.specs.Bytes.{part, put}
use Rattle.words.proofs.Order.{eq-or-not}
use Rattle.memory_map.specs.Map.{page_of, place_of, pages, lines, cell_of}
use Rattle.memory_map.specs.Map.Item.{line}
use Rattle.memory_map.proofs.Laws.{path-bottom}
use Rattle.counter.specs.Counter.{major, minor, with_minor, lag}
use Rattle.journal.proofs.Again.{put-cells}
use Rattle.calls.specs.Read.{page_block, line_minor}
use Rattle.calls.specs.Write.{new_block}
use Rattle.calls.specs.Path.{renew_path, renewed_root}
use Rattle.history_laws.proofs.Setting.{Setting, Tree, Small, Agree, raised, tree_node, tree_root, node_in}
use Rattle.history_laws.proofs.Setting.{Opening, opens, sealed}
use Rattle.history_laws.proofs.Tree.{raised-same, raised-other, fresh-major}
use Rattle.history_laws.proofs.Tree.{fresh-minor, fresh-with, off-path}
use Rattle.history_laws.proofs.Opening.{not_done, sealed-tree}
use Rattle.history_laws.proofs.Durable.{Durable}
use Rattle.history_laws.proofs.Stores.{second, page-in, in-line, Put, row_same, row_other}
use Rattle.history_laws.proofs.Live.{Live}
use Rattle.history_laws.proofs.Reached.{Reached, block-is, minor-at, major-at, root-renewed, Blocked, block_cells, blocked}
use Rattle.history_laws.proofs.Reached.{block-rows, with-line, page-cases, owners-new, stored-new, live-blocked}
use Rattle.history_laws.proofs.Data.{data_bytes, length-data}

-- array and cache go together, and the cache holds the path of line n
pub record AtLine (S : Setting) (T : Tree) (o : Opening) (a c : List ℕ) (n : ℕ) : Type 0 where
  pub path : Reached S T o a c (page_of n)
  pub inside : n < lines S.h

module _ {S : Setting} {T : Tree} {o : Opening} {a c : List ℕ} {n : ℕ} (w : AtLine S T o a c n) where
  open S use {keys, h}
  open T use {count}
  open w use {path, inside}
  open path use {live as v}

  abbrev p : ℕ
  p = page_of n

  -- the tree after a write of it
  abbrev U : Tree
  U = raised T n

  other : (x : ℕ) → (x ≡ n → ⊥) → count x ≡ U.count x
  other = raised-other T n

  same : (q : ℕ) → (q ≡ p → ⊥) → Agree T U q
  same q e = record { major = refl; count = λ x r. other x (λ z. e (sym r ∙ ap page_of z)) }

  place : 64 * p + place_of n ≡ n
  place = omega arith

  pub minor_is : line_minor c n ≡ count n
  minor_is = minor-at path (place_of n) (omega arith) ∙ ap count place

  pub major_is : major (page_block c n) ≡ T.major p
  major_is = major-at path

  pub new-block : new_block c n ≡ tree_node S U 0 p
  unfolding new_block
  new-block =
      ap₂ (λ (b : List ℕ) (m : ℕ). with_minor b (place_of n) m) (block-is path)
      (ap suc minor_is ∙ sym (ap U.count place ∙ raised-same T n))
      ∙ fresh-with S v.durable.small p U (place_of n) refl (λ x e. other x (λ z. e (z ∙ sym place)))

  pub new-root : renewed_root h keys c p (new_block c n) ≡ tree_root S U
  new-root = ap (λ (b : List ℕ). renewed_root h keys c p b) new-block ∙ root-renewed path same

  -- ---- the data cell

  -- a text for the line, whose page is not open, and whether the block is stored with it
  pub record Entry (text : List ℕ) (stop : Bool) : Type 0 where
    pub not-open : opens o p ≡ false
    pub room : count n < 127
    pub full : length text ≡ 64
    pub when : stop ≡ eqb (lag (suc (count n))) 0

  module _ {text : List ℕ} {stop : Bool} (t : Entry text stop) where
    U-small : Small U
    U-small = record { major = v.durable.small.major; minor = λ x. go x (eq-or-not x n) }
      where
        go : (x : ℕ) → (x ≡ n) ⊎ (x ≡ n → ⊥) → U.count x < 128
        go x (inl z) = omega (arith, ap U.count z ∙ raised-same T n, t.room)
        go x (inr z) = omega (arith, other x z, v.durable.small.minor x)

    -- the line's cell is encrypted under its new counter
    pub own-counter : sealed o U n ≡ U
    own-counter = sealed-tree o U n (not_done o n t.not-open)

    abbrev bytes : List ℕ
    bytes = data_bytes S U n text

    size : length bytes ≡ 72
    size = length-data S U n text t.full

    abbrev before : List ℕ
    before = put-cells a (block_cells S U p stop)

    its-cell : Put h before (line n) bytes
    its-cell = record { whole = (blocked path same stop).whole; inside = in-line h n inside; size = size }

    abbrev pub written : List ℕ
    written = put before (72 * cell_of h (line n)) bytes

    b : Blocked path same stop written
    b = with-line path same (blocked path same stop) its-cell

    pub row_written : part written (72 * n) 72 ≡ bytes
    row_written = row_same its-cell

    pub row_kept : (x : ℕ) → x < lines h → (x ≡ n → ⊥) → part written (72 * x) 72 ≡ part a (72 * x) 72
    row_kept x q e = row_other its-cell x q e ∙ block-rows path same stop x q

    new-minor : (q j : ℕ) → j < 64 → minor (tree_node S U 0 q) j ≡ U.count (64 * q + j)
    new-minor q j r = fresh-minor S U-small q j r

    behind : (q j : ℕ) → q < pages h → j < 64 → minor (node_in S written 0 q) j ≤ U.count (64 * q + j)
    behind q j r s =
        page-cases path same b (λ x. minor x j ≤ U.count (64 * q + j)) q r (λ e. omega (arith, new-minor q j s))
        (λ e. go (eq-or-not (64 * q + j) n))
      where
        go : (64 * q + j ≡ n) ⊎ (64 * q + j ≡ n → ⊥) → minor (node_in S a 0 q) j ≤ U.count (64 * q + j)
        go (inl z) = omega (arith, v.durable.behind q j r s, ap count z, ap U.count z ∙ raised-same T n)
        go (inr z) = omega (arith, v.durable.behind q j r s, other (64 * q + j) z)

    near : (q j : ℕ) → q < pages h → j < 64 → U.count (64 * q + j) ≤ minor (node_in S written 0 q) j + lag (U.count (64 * q + j))
    near q j r s =
        page-cases path same b (λ x. U.count (64 * q + j) ≤ minor x j + lag (U.count (64 * q + j))) q r
        (λ e. omega (arith, new-minor q j s)) (λ e. go e (eq-or-not (64 * q + j) n))
      where
        go : (q ≡ p → stop ≡ false) → (64 * q + j ≡ n) ⊎ (64 * q + j ≡ n → ⊥)
            → U.count (64 * q + j) ≤ minor (node_in S a 0 q) j + lag (U.count (64 * q + j))
        go e (inr z) = subst (λ (x : ℕ). x ≤ minor (node_in S a 0 q) j + lag x) (other (64 * q + j) z) (v.durable.near q j r s)
        go e (inl z) =
            let there : q ≡ p = omega arith in
            let part-way : lag (suc (count n)) ≡ 0 → ⊥ =
            λ w. false≢true (sym (sym t.when ∙ e there) ∙ eq-eqb (lag (suc (count n))) 0 w) in
            let old : count n ≤ minor (node_in S a 0 q) j + lag (count n) =
            subst (λ (x : ℕ). count x ≤ minor (node_in S a 0 q) j + lag (count x)) z (v.durable.near q j r s) in
            subst (λ (x : ℕ). x ≤ minor (node_in S a 0 q) j + lag x) (sym (ap U.count z ∙ raised-same T n))
            (omega (arith, part-way, old))

    -- the block of an open page, which is another
    open_blocks : (q : ℕ) → q < pages h → opens o q ≡ true → node_in S written 0 q ≡ tree_node S U 0 q
    unfolding second
    open_blocks q r e =
        let away : q ≡ p → ⊥ = λ z. false≢true (sym t.not-open ∙ ap (opens o) (sym z) ∙ e) in
        b.others 0 q zero-le (page-in h q r) (λ z. away (ap second z)) ∙ v.durable.open_block q r e
        ∙ off-path S T U p same 0 q (λ z. away (z ∙ path-bottom p))

    written-durable : Durable S U o written
    written-durable =
        record {
          whole = b.whole;
          small = U-small;
          owners = owners-new path same b;
          stored = stored-new path same b;
          majors = λ q r. page-cases path same b (λ x. major x ≡ T.major q) q r (λ e. fresh-major S U-small q)
              (λ e. v.durable.majors q r);
          behind = behind;
          near = near;
          open_block = open_blocks;
          spare = b.spare;
        }

    -- ---- and the cache

    pub live_written : Live S U o written (renew_path keys c p (tree_node S U 0 p) (cond stop 0 1) h)
    live_written = live-blocked path same b written-durable
