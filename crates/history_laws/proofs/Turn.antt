-- A turn of a page on a module that is ready: what its batches leave, for every allowance. Assumes nothing.
use mathlib.Core.Path.{◌≡◌, refl, sym, ap, ap₂, ◌∙◌, subst}
use mathlib.Core.Logic.{◌⊎◌, inl, inr}
use mathlib.Core.Bool.{true, false}
use mathlib.Core.List.{List, [], ◌∷◌, ◌++◌, append-nil}
use mathlib.Core.Option.{Option, none, some}
use Prim.Native.Nat.{ℕ, suc, ◌+◌, ◌*◌, ◌^◌, ◌≤◌, ◌<◌, zero-le}
use native.Mathlib.Omega.{arith}
use borrow.Author.Tests.{eq-eqb}
use lib.ListN.{length}
use Rattle.words.specs.Bytes.{put}
use Rattle.words.proofs.Order.{eq-or-not}
use Rattle.bits.proofs.Climbs.{Climbs, climbs-lower, climbs-tail}
use Rattle.memory_map.specs.Map.{page_of, place_of, pages, lines, cell_of}
use Rattle.memory_map.specs.Map.Item.{line}
use Rattle.memory_map.proofs.Laws.{nodes-small, nodes-bottom}
use Rattle.slot_map.specs.Slots.{slot_of}
use Rattle.counter.specs.Counter.{major, minor, turned}
use Rattle.turn_block.proofs.Laws.{turned-some}
use Rattle.pad.specs.Pad.{pad, xor_bytes}
use Rattle.control.specs.Control.{Cell, root, count, turn_bytes}
use Rattle.cache.specs.Cache.{content}
use Rattle.journal.specs.Journal.{Store, turn_stores}
use Rattle.journal.proofs.Each.{Each, none as nil, more}
use Rattle.journal.proofs.Again.{put-cells, put-cells-append}
use Rattle.calls.specs.Path.{node_cell, renew_path, renewed_root}
use Rattle.side.specs.Side.{side_bytes}
use Rattle.calls.specs.Call.{Module}
use Rattle.calls.specs.Read.{page_block, line_minor}
use Rattle.calls.specs.Write.{line_cell}
use Rattle.calls.specs.Turn.{line_at, block_of, turned_cell, left_bytes, new_block_cell, turned_root, last_batch, batches_of, stores_for, before_last}
use Rattle.calls.specs.Turn.{Batch as Spec-as-Batch}
use Rattle.history_laws.specs.History.{Book, turn_entered}
use Rattle.call_laws.proofs.Turn.{Proper, line-inside, line-page, line-place}
use Rattle.history_laws.proofs.Setting.{Setting, Tree, tree_of, tree_node, tree_root, node_in}
use Rattle.history_laws.proofs.Setting.{Opening, closed, turning, among, opens, is_done, turned_tree}
use Rattle.history_laws.proofs.Tree.{tree-tag}
use Rattle.history_laws.proofs.Opening.{section-closed, section-turning, turned-major, turned-count, turned-agree, sealed-tree}
use Rattle.history_laws.proofs.Opening.{among_first, among_later, among-more, Still, still-turning}
use Rattle.history_laws.proofs.Stores.{line-cell, Put, row_same, row_other}
use Rattle.history_laws.proofs.Live.{Live}
use Rattle.history_laws.proofs.Reached.{Reached, block-is, minor-at, major-at, root-renewed, Blocked, block_cells, blocked}
use Rattle.history_laws.proofs.Reached.{block-rows, with-line, live-blocked}
use Rattle.history_laws.proofs.Data.{data_bytes, text-is}
use Rattle.history_laws.proofs.State.{RowOk, Keeps, Holds, settled-holds}
use Rattle.history_laws.proofs.Batch.{Batch, turn-batch, array_whole, settled-whole}
use Rattle.history_laws.proofs.Outcome.{Course, one_batch, after_batch, then-more}
use Rattle.history_laws.proofs.Page.{Paged, settled, walk, reached}
use Rattle.history_laws.proofs.Turning.{line-put, line_ok, line-turned, keeps-turned, live-turned}
use Rattle.history_laws.proofs.Finished.{turned-fresh, cell-kept, durable-last, keeps-last}

module _ {S : Setting} {b : Book} {o : Opening} {m : Module} {p : ℕ} (w : Paged S b o m p) where
  open S use {keys, h, high}
  open w use {page}

  abbrev T : Tree
  T = tree_of b

  abbrev U : Tree
  U = turned_tree T p

  abbrev finished : Book
  finished = turn_entered true p b

  abbrev pub c : List ℕ
  c = (walk w).cache

  -- ---- a line's text, and its cell encrypted afresh

  pub record Fresh (j : ℕ) : Type 0 where
    pub text : List ℕ
    pub says : b.text (line_at p j) ≡ some text
    pub cell : turned_cell S.family keys m.array c p j ≡ record { number = line_at p j; bytes = data_bytes S U (line_at p j) text }

  module _ (j : ℕ) (place : j < 64) (not-turned : is_done o (line_at p j) ≡ false) (is-written : line_minor c (line_at p j) ≡ 0 → ⊥) where
    abbrev n : ℕ
    n = line_at p j

    on-page : page_of n ≡ p
    on-page = line-page h p j place

    minor_is : line_minor c n ≡ b.count n
    minor_is =
        ap₂ (λ (q i : ℕ). minor (content c (slot_of 0 q)) i) on-page (line-place h p j place) ∙ minor-at (reached w) j place

    major_is : major (page_block c n) ≡ b.turns (page_of n)
    major_is = ap (λ (q : ℕ). major (content c (slot_of 0 q))) on-page ∙ major-at (reached w) ∙ ap b.turns (sym on-page)

    pub fresh : Fresh j
    unfolding RowOk line_cell data_bytes
    fresh = go (b.text n) refl
        (subst (λ (W : Tree). RowOk S W n (b.text n) m.array) (sealed-tree o T n not-turned)
        ((settled w).keeps.rows n (line-inside h p j place page)))
      where
        go : (x : Option (List ℕ)) → b.text n ≡ x → RowOk S T n x m.array → Fresh j
        go none e row = absurd (is-written (minor_is ∙ row.0))
        go (some t) e row =
            record {
              text = t;
              says = e;
              cell =
                  ap (λ (l : List ℕ). line_cell S.family keys n l (suc (major (block_of c p))) 1)
                  (text-is S T n m.array t row.1 row.3 c major_is minor_is)
                  ∙ ap₂ {C = Cell} (λ (ma mi : ℕ). record {
                    number = n;
                    bytes = xor_bytes t (pad keys n ma mi) ++ side_bytes S.family keys (xor_bytes t (pad keys n ma mi)) n ma mi;
                  }) (ap suc (major-at (reached w)) ∙ sym (ap U.major on-page ∙ turned-major T p))
                  (sym (turned-count T p n on-page ∙ turned-some (b.count n) (λ z. is-written (minor_is ∙ z))));
            }

  -- ---- the batches

  abbrev line_cells : ℕ → List Cell
  line_cells j = turned_cell S.family keys m.array c p j ∷ []

  -- a line's cell stored
  line-stored : {j : ℕ} (f : Fresh j) (e : List ℕ)
      → put-cells e (line_cells j) ≡ put e (72 * cell_of h (line (line_at p j))) (data_bytes S U (line_at p j) f.text)
  unfolding put-cells
  line-stored {j} f e =
      ap (λ (d : Cell). put-cells e (d ∷ [])) f.cell
      ∙ ap (λ (k : ℕ). put e (72 * k) (data_bytes S U (line_at p j) f.text)) (sym (line-cell h (line_at p j)))

  abbrev pub batches : List Cell → List ℕ → List Spec-as-Batch
  batches = batches_of h S.family keys m.array c p (root m.control)

  pub new-block : turned (block_of c p) ≡ tree_node S U 0 p
  new-block = ap turned (block-is (reached w)) ∙ turned-fresh S (walk w).live.durable.small p

  new-root : turned_root h keys c p ≡ tree_root S U
  new-root = ap (renewed_root h keys c p) new-block ∙ root-renewed (reached w) (turned-agree T p)

  abbrev pub cache-new : List ℕ
  cache-new = renew_path keys c p (tree_node S U 0 p) 0 h

  -- between batches: the module, the opening, the cells that come first in the next batch, the places still to turn
  pub record Stage (now : Module) (v : Opening) (front : List Cell) (js : List ℕ) : Type 0 where
    pub held : Holds S b v now
    pub idle : count now.control ≡ 0
    pub keeps : Keeps S b v (put-cells now.array front)
    pub live : Live S T v (put-cells now.array front) c
    pub still : Still T v p js
    pub climb : Climbs 64 0 js
    pub block : 2 ≤ length js → node_in S (put-cells now.array front) 0 p ≡ tree_node S T 0 p

  -- ---- a batch that is not the last

  module _ {now : Module} {v : Opening} {front : List Cell} {j i : ℕ} {js : List ℕ} (g : Stage now v front (j ∷ i ∷ js)) (f : Fresh j)
      (pr : Proper h (record {
        cells = front ++ (line_cells j);
        root = root m.control;
        section = left_bytes p (i ∷ js);
      })) where
    abbrev x : List Cell
    x = front ++ (line_cells j)

    abbrev u : Opening
    u = turning p (i ∷ js)

    after : List ℕ
    after = line-turned g.keeps g.still g.climb page f.says

    array-is : put-cells now.array x ≡ after
    unfolding after
    array-is = put-cells-append now.array front (line_cells j) ∙ line-stored f (put-cells now.array front)

    two : 2 ≤ length (j ∷ i ∷ js)
    two = omega arith

    keeps_then : Keeps S b u (put-cells now.array x)
    unfolding after
    keeps_then =
        subst (Keeps S b u) (sym array-is) (keeps-turned g.keeps g.still g.climb page f.says (g.block two))

    climb-then : Climbs 64 0 (i ∷ js)
    climb-then = climbs-lower 0 zero-le (climbs-tail g.climb)

    early : Batch S b v b u now x (root m.control) (turn_stores x (root m.control) (left_bytes p (i ∷ js)))
    early =
        turn-batch g.held g.idle (left_bytes p (i ∷ js)) pr.size pr.bytes
        (section-turning now.control g.held.formed.control_length p (subst (λ (d : ℕ). p < pages d) (sym g.held.deep) page)
        (omega (arith, page, nodes-small {h = h} 0 refl high, nodes-bottom h)) (i ∷ js) climb-then (omega arith))
        (record {
          sound = pr.sound;
          few = omega (arith, pr.few, high);
          filled = pr.some;
          word = omega (arith, (settled w).top, tree-tag S T h 0);
          keeps = keeps_then;
          top = (settled w).top;
        })

    pub next : Stage (after_batch now (turn_stores x (root m.control) (left_bytes p (i ∷ js)))) u [] (i ∷ js)
    unfolding put-cells opens after
    next =
        let same = array_whole early in
        let kept = subst (Keeps S b u) (sym same) keeps_then in
        record {
          held = settled-holds now.cache g.held.sized g.held.plain (settled-whole early);
          idle = (settled-whole early).idle;
          keeps = kept;
          live = subst (λ (a : List ℕ). Live S T u a c) (sym (same ∙ array-is))
              (live-turned g.keeps g.still g.climb page f.says (g.block two) g.live);
          still = still-turning T p (i ∷ js);
          climb = climb-then;
          block = λ q. kept.durable.open_block p page (eq-eqb p p refl);
        }

  -- ---- the last one

  -- its cells, and its stores
  abbrev last_cells : List Cell → List Cell → List Cell
  last_cells front rest = front ++ (new_block_cell h c p ∷ rest)

  abbrev last_stores : List Cell → List Cell → List Store
  last_stores front rest = turn_stores (last_cells front rest) (turned_root h keys c p) (turn_bytes 0 0 0) ++ []

  module _ (room : suc (b.turns p) < 2 ^ 64) {now : Module} {v : Opening} {front : List Cell} {js : List ℕ} (g : Stage now v front js)
    where
      abbrev a : List ℕ
      a = put-cells now.array front

      at : Reached S T v a c p
      at = record { live = g.live; page = page; held = (walk w).path }

      with-block : Blocked at (turned-agree T p) true (put-cells a (block_cells S U p true))
      with-block = blocked at (turned-agree T p) true

      array-last : (rest : List Cell)
          → put-cells now.array (last_cells front rest) ≡ put-cells (put-cells a (block_cells S U p true)) rest
      unfolding put-cells
      array-last rest =
          put-cells-append now.array front (new_block_cell h c p ∷ rest)
          ∙ ap (λ (l : List ℕ). put-cells a (node_cell h 0 p l ∷ rest)) new-block

      -- the cells behind the block, which leave d
      last-course : (rest : List Cell) (d : List ℕ) → put-cells (put-cells a (block_cells S U p true)) rest ≡ d
          → Blocked at (turned-agree T p) true d → ((n : ℕ) → n < lines h → RowOk S U n (b.text n) d)
          → Proper h (last_batch h keys c p front rest)
          → Course S b finished now (last_stores front rest) (length (last_cells front rest)) cache-new
      unfolding turn_entered
      last-course rest d same x cells pr =
          let whole = array-last rest ∙ same in
          subst (λ (xs : List Store). Course S b finished now xs (length (last_cells front rest)) cache-new)
          (sym (append-nil (turn_stores (last_cells front rest) (turned_root h keys c p) (turn_bytes 0 0 0))))
          (one_batch (turn-batch g.held g.idle (turn_bytes 0 0 0) pr.size pr.bytes
          (section-closed now.control g.held.formed.control_length)
          (record {
            sound = pr.sound;
            few = omega (arith, pr.few, high);
            filled = pr.some;
            word = omega (arith, new-root, tree-tag S U h 0);
            keeps = subst (Keeps S finished closed) (sym whole) (keeps-last g.keeps at room x cells);
            top = new-root;
          }))
          (subst (λ (l : List ℕ). Live S U closed l cache-new) (sym whole)
          (live-blocked at (turned-agree T p) x (durable-last g.keeps at room x cells))))

  -- no line is left, or one
  module _ (room : suc (b.turns p) < 2 ^ 64) {now : Module} {v : Opening} {front : List Cell} where
    last_none : (g : Stage now v front []) → Proper h (last_batch h keys c p front [])
        → Course S b finished now (last_stores front []) (length (last_cells front [])) cache-new
    unfolding put-cells among
    last_none g pr =
        last-course room g [] _ refl (with-block room g)
        (λ n q. cell-kept g.keeps (at room g) g.still _ n q (λ e. refl) (block-rows (at room g) (turned-agree T p) true n q)) pr

    last_one : {j : ℕ} (g : Stage now v front (j ∷ [])) (f : Fresh j) → Proper h (last_batch h keys c p front (line_cells j))
        → Course S b finished now (last_stores front (line_cells j))
        (length (last_cells front (line_cells j))) cache-new
    unfolding put-cells among
    last_one {j} g f pr =
        last-course room g (line_cells j) after (line-stored f before)
        (with-line (at room g) (turned-agree T p) (with-block room g) its-cell) (λ n q. cells n q (eq-or-not n (line_at p j))) pr
      where
        before : List ℕ
        before = put-cells (a room g) (block_cells S U p true)

        after : List ℕ
        after = put before (72 * cell_of h (line (line_at p j))) (data_bytes S U (line_at p j) f.text)

        its-cell : Put h before (line (line_at p j)) (data_bytes S U (line_at p j) f.text)
        its-cell = line-put g.keeps g.still g.climb page f.says ((with-block room g).whole ∙ sym g.keeps.durable.whole)

        cells : (n : ℕ) → n < lines h → (n ≡ line_at p j) ⊎ (n ≡ line_at p j → ⊥) → RowOk S U n (b.text n) after
        cells n q (inl z) =
            subst (λ (i : ℕ). RowOk S U i (b.text i) after) (sym z)
            (line_ok g.keeps g.still g.climb page f.says after (row_same its-cell))
        cells n q (inr z) =
            cell-kept g.keeps (at room g) g.still after n q
            (λ e. among_later (place_of n) j [] (λ i. z (omega arith)))
            (row_other its-cell n q z ∙ block-rows (at room g) (turned-agree T p) true n q)

  -- ---- all of them

  before_more : (x : Spec-as-Batch) (i : ℕ) (js : List ℕ)
      → before_last (x ∷ batches [] (i ∷ js)) ≡ length (turn_stores x.cells x.root x.section) + before_last (batches [] (i ∷ js))
  unfolding before_last batches_of
  before_more x i [] = refl
  before_more x i (k ∷ js) = refl

  pub course : suc (b.turns p) < 2 ^ 64 → (js : List ℕ) (front : List Cell) {now : Module} {v : Opening} → Stage now v front js
      → ((j : ℕ) → among j js ≡ true → Fresh j) → Each (Proper h) (batches front js)
      → Course S b finished now (stores_for (batches front js)) (before_last (batches front js)) cache-new
  unfolding batches_of stores_for before_last
  course room [] front g f (more pr nil) = last_none room g pr
  course room (j ∷ []) front g f (more pr nil) = last_one room g (f j (among_first j [])) pr
  course room (j ∷ i ∷ js) front {now} g f (more {x = x} pr prs) =
      let one = f j (among_first j (i ∷ js)) in
      subst (λ (n : ℕ). Course S b finished now (stores_for (x ∷ batches [] (i ∷ js))) n cache-new) (sym (before_more x i js))
      (then-more (early g one pr) (course room (i ∷ js) [] (next g one pr) (λ k e. f k (later k e)) prs))
    where
      later : (k : ℕ) → among k (i ∷ js) ≡ true → among k (j ∷ i ∷ js) ≡ true
      later k e = among-more k j (i ∷ js) e
