-- The path of a page, loaded into a cache that goes with its array: no tag differs, and the batch leaves array and cache going together,
-- with the path in the cache. Assumes nothing.
use mathlib.Core.Path.{◌≡◌, refl, sym, ap, ap₂, ◌∙◌, subst}
use mathlib.Core.Logic.{◌⊎◌, inl, inr}
use mathlib.Core.Bool.{Bool, true, false, cond}
use mathlib.Core.List.{List, [], ◌∷◌, ◌++◌}
use Prim.Native.Nat.{ℕ, zero, suc, ◌-◌, ◌*◌, ◌≤◌, ◌<◌}
use native.Mathlib.Nat.{le_refl, suc_inj}
use native.Mathlib.Omega.{arith}
use borrow.Author.Tests.{eq-eqb}
use lib.Dec.{eqb}
use lib.ListN.{length}
use Rattle.memory_map.proofs.Laws.{path-up, path-top, path-within}
use Rattle.words.specs.Bytes.{part}
use Rattle.words.proofs.Digits.{Below}
use Rattle.words.proofs.Order.{eq-or-not}
use Rattle.memory_map.specs.Map.{pages, lines, nodes, array_length, on_path}
use Rattle.slot_map.specs.Slots.{slot_of, level_of}
use Rattle.slot_map.proofs.Laws.{slot-within, level-slot}
use Rattle.control.specs.Control.{Cell}
use Rattle.cache.specs.Cache.{owner, content, with_slot, top_slot, holds}
use Rattle.cache.proofs.Laws.{holds-owner}
use Rattle.journal.proofs.Again.{put-cells, put-cells-append}
use Rattle.calls.specs.Path.{child_tag, evicted, shadow_cell, Loaded, loaded, differs, load_node, load_levels, load_path}
use Rattle.call_laws.proofs.Loads.{Fit, slot-fit}
use Rattle.history_laws.proofs.Setting.{Setting, Tree, tree_node, tree_root, node_in, tag_of, Opening}
use Rattle.history_laws.proofs.Tree.{child-fresh}
use Rattle.history_laws.proofs.Live.{Live, Missing, not_listed, own_same, own-other, array-next, live-next, lower-next, rows_next}

-- the bytes of an array
pub record Array (S : Setting) (a : List ℕ) : Type 0 where
  pub whole : length a ≡ array_length S.h
  pub plain : Below 256 a

module _ {S : Setting} (T : Tree) (o : Opening) {base : List ℕ} (ok : Array S base) where
  open S use {keys, h, high}

  -- ---- one node

  -- node i of level l, loaded into the cache c over the array a
  record Step (a c : List ℕ) (l i t : ℕ) : Type 0 where
    cache : List ℕ
    cells : List Cell
    same : load_node h keys base c l i t ≡ loaded cache cells
    live : Live S T o (put-cells a cells) cache
    held : owner cache (slot_of l i) ≡ suc i
    others : (k j : ℕ) → (k ≡ l → ⊥) → owner cache (slot_of k j) ≡ owner c (slot_of k j)
    lower : (k j : ℕ) → k < l → j < nodes h k → node_in S (put-cells a cells) k j ≡ node_in S a k j
    rows : (n : ℕ) → n < lines h → part (put-cells a cells) (72 * n) 72 ≡ part a (72 * n) 72

  module _ {a c : List ℕ} (v : Live S T o a c) (l i : ℕ) (lh : l ≤ h) (inside : i < nodes h l) (top : owner c (top_slot h) ≡ 0 → l ≡ h)
      (there : node_in S base l i ≡ node_in S a l i)
      (t : ℕ) (tag : t ≡ tag_of S (tree_node S T l i) l i) where
    abbrev b : List ℕ
    b = node_in S base l i

    abbrev batch : List Cell
    batch = evicted h c l (slot_of l i) ++ (shadow_cell h (slot_of l i) (suc i) ∷ [])

    chosen : Bool → Bool → List ℕ → Loaded
    chosen x y n = cond x (loaded c []) (cond y (loaded (with_slot c (slot_of l i) (suc i) 0 n) batch) (differs l i))

    stay : holds c l i ≡ true → Step a c l i t
    unfolding load_node put-cells chosen
    stay e =
        record {
          cache = c;
          cells = [];
          same = ap (λ (x : Bool). chosen x (eqb (tag_of S b l i) t) b) e;
          live = v;
          held = holds-owner c l i e;
          others = λ k j z. refl;
          lower = λ k j p q. refl;
          rows = λ n p. refl;
        }

    module _ (absent : holds c l i ≡ false) where
      missing : Missing v l i
      missing = record { level = lh; inside = inside; absent = absent; top = top }

      fresh : b ≡ tree_node S T l i
      fresh = there ∙ v.durable.stored l i lh inside (not_listed v missing)

      abbrev with_it : List ℕ
      with_it = with_slot c (slot_of l i) (suc i) 0 (tree_node S T l i)

      loads : load_node h keys base c l i t ≡ loaded with_it batch
      unfolding load_node chosen
      loads =
          ap (λ (x : Bool). chosen x (eqb (tag_of S b l i) t) b) absent
          ∙ ap (λ (y : Bool). chosen false y b)
          (eq-eqb (tag_of S b l i) t (ap (λ (n : List ℕ). tag_of S n l i) fresh ∙ sym tag))
          ∙ ap (chosen false true) fresh

      fits : Fit h with_it
      fits =
          subst (λ (n : List ℕ). Fit h (with_slot c (slot_of l i) (suc i) 0 n)) fresh
          (slot-fit h high base ok.whole ok.plain c v.fit l i lh inside top)

      stored : put-cells a batch ≡ array-next v missing
      unfolding put-cells
      stored = put-cells-append a (evicted h c l (slot_of l i)) (shadow_cell h (slot_of l i) (suc i) ∷ [])

      load : Step a c l i t
      load =
          record {
            cache = with_it;
            cells = batch;
            same = loads;
            live = subst (λ (n : List ℕ). Live S T o n with_it) (sym stored) (live-next v missing fits);
            held = own_same v missing;
            others = λ k j z. own-other v missing (slot_of k j) (λ e. z (sym (level-slot k j) ∙ ap level_of e ∙ level-slot l i));
            lower = λ k j p q. ap (λ (n : List ℕ). node_in S n k j) stored ∙ lower-next v missing k j p q;
            rows = λ n p. ap (λ (a : List ℕ). part a (72 * n) 72) stored ∙ rows_next v missing n p;
          }

    load_step : Step a c l i t
    load_step = go (holds c l i) refl
      where
        go : (x : Bool) → holds c l i ≡ x → Step a c l i t
        go true e = stay e
        go false e = load e

  -- ---- the levels

  module _ (p : ℕ) (page : p < pages h) where
    top-node : on_path p h ≡ 0
    top-node = path-top h p page

    -- n levels to load into the cache c, after the cells x
    record Before (n t : ℕ) (c : List ℕ) (x : List Cell) : Type 0 where
      few : n ≤ suc h
      live : Live S T o (put-cells base x) c
      -- the array lower down is as it was
      lower : (k j : ℕ) → k < n → j < nodes h k → node_in S base k j ≡ node_in S (put-cells base x) k j
      top : owner c (top_slot h) ≡ 0 → n ≡ suc h
      -- the tag that the highest of them must have
      tag : (l : ℕ) → n ≡ suc l → t ≡ tag_of S (tree_node S T l (on_path p l)) l (on_path p l)

    record Levels (n t : ℕ) (c : List ℕ) (x : List Cell) : Type 0 where
      cache : List ℕ
      cells : List Cell
      same : load_levels h keys base p n t c x ≡ loaded cache cells
      live : Live S T o (put-cells base cells) cache
      path : (k : ℕ) → k < n → owner cache (slot_of k (on_path p k)) ≡ suc (on_path p k)
      rows : (n : ℕ) → n < lines h → part (put-cells base cells) (72 * n) 72 ≡ part (put-cells base x) (72 * n) 72
      above : (k : ℕ) → n ≤ k → owner cache (slot_of k (on_path p k)) ≡ owner c (slot_of k (on_path p k))

    module _ {l t : ℕ} {c : List ℕ} {x : List Cell} (w : Before (suc l) t c x) where
      lh : l ≤ h
      lh = omega (arith, w.few)

      inside : on_path p l < nodes h l
      inside = path-within h p l page lh

      step : Step (put-cells base x) c l (on_path p l) t
      step =
          load_step w.live l (on_path p l) lh inside (λ e. suc_inj (w.top e)) (w.lower l (on_path p l) (le_refl (suc l)) inside) t
          (w.tag l refl)

      abbrev next-tag : ℕ
      next-tag = child_tag (content step.cache (slot_of l (on_path p l))) (on_path p (l - 1))

      appended : put-cells base (x ++ step.cells) ≡ put-cells (put-cells base x) step.cells
      appended = put-cells-append base x step.cells

      top-step : owner step.cache (top_slot h) ≡ 0 → l ≡ suc h
      top-step e = absurd (go (eq-or-not l h))
        where
          go : (l ≡ h) ⊎ (l ≡ h → ⊥) → ⊥
          go (inl z) =
              omega (
                arith,
                e,
                subst (λ (k : ℕ). owner step.cache (slot_of h k) ≡ suc k) top-node
                    (subst (λ (k : ℕ). owner step.cache (slot_of k (on_path p k)) ≡ suc (on_path p k)) z step.held),
              )
          go (inr z) = z (suc_inj (w.top (sym (step.others h 0 (λ w. z (sym w))) ∙ e)))

      tag-step : (k : ℕ) → l ≡ suc k → next-tag ≡ tag_of S (tree_node S T k (on_path p k)) k (on_path p k)
      tag-step k e =
          let one : l - 1 ≡ k = omega arith in
          let parent : content step.cache (slot_of l (on_path p l)) ≡ tree_node S T l (on_path p l) =
          step.live.fresh (slot_of l (on_path p l)) (on_path p l) (slot-within h l (on_path p l) lh) step.held
          ∙ ap (λ (n : ℕ). tree_node S T n (on_path p l)) (level-slot l (on_path p l)) in
          ap₂ (λ (b : List ℕ) (n : ℕ). child_tag b (on_path p n)) parent one
          ∙ ap (λ (n : ℕ). child_tag (tree_node S T n (on_path p n)) (on_path p k)) e
          ∙ ap (λ (n : ℕ). child_tag (tree_node S T (suc k) n) (on_path p k)) (path-up p k)
          ∙ child-fresh S T k (on_path p k)

      next : Before l next-tag step.cache (x ++ step.cells)
      next =
          record {
            few = omega (arith, w.few);
            live = subst (λ (n : List ℕ). Live S T o n step.cache) (sym appended) step.live;
            lower = λ k j r s. w.lower k j (omega arith) s ∙ sym (step.lower k j r s)
                ∙ sym (ap (λ (n : List ℕ). node_in S n k j) appended);
            top = top-step;
            tag = tag-step;
          }

      -- the levels below l, and then with level l before them
      joined : Levels l next-tag step.cache (x ++ step.cells) → Levels (suc l) t c x
      unfolding load_levels
      joined r =
          record {
            cache = r.cache;
            cells = r.cells;
            same = ap (λ (y : Loaded). elim y as (λ z. Loaded) [
              | differs k i ↦ differs k i
              | loaded d y ↦ load_levels h keys base p l (child_tag (content d (slot_of l (on_path p l))) (on_path p (l - 1))) d (x ++ y)
            ]) step.same ∙ r.same;
            live = r.live;
            rows = λ n s. r.rows n s ∙ ap (λ (a : List ℕ). part a (72 * n) 72) appended ∙ step.rows n s;
            path = λ k s. on k s (eq-or-not k l);
            above = λ k s. r.above k (omega arith) ∙ step.others k (on_path p k) (λ z. omega arith);
          }
        where
          on : (k : ℕ) → k < suc l → (k ≡ l) ⊎ (k ≡ l → ⊥) → owner r.cache (slot_of k (on_path p k)) ≡ suc (on_path p k)
          on k s (inl z) =
              subst (λ (n : ℕ). owner r.cache (slot_of n (on_path p n)) ≡ suc (on_path p n)) (sym z) (r.above l (le_refl l) ∙ step.held)
          on k s (inr z) = r.path k (omega (arith, z))

    levels : (n t : ℕ) (c : List ℕ) (x : List Cell) → Before n t c x → Levels n t c x
    unfolding load_levels
    levels zero t c x w =
        record {
          cache = c;
          cells = x;
          same = refl;
          live = w.live;
          rows = λ n s. refl;
          path = λ k s. absurd (omega arith);
          above = λ k s. refl;
        }
    levels (suc l) t c x w = joined w (levels l _ _ _ (next w))

    -- ---- the path

    pub record Walked (c : List ℕ) : Type 0 where
      pub cache : List ℕ
      pub cells : List Cell
      pub same : load_path h keys base (tree_root S T) p c ≡ loaded cache cells
      pub live : Live S T o (put-cells base cells) cache
      pub rows : (n : ℕ) → n < lines h → part (put-cells base cells) (72 * n) 72 ≡ part base (72 * n) 72
      pub path : (k : ℕ) → k ≤ h → owner cache (slot_of k (on_path p k)) ≡ suc (on_path p k)

    pub walked : (c : List ℕ) → Live S T o base c → Walked c
    unfolding put-cells
    walked c v =
        let r = levels (suc h) (tree_root S T) c [] (record {
          few = le_refl (suc h);
          live = v;
          lower = λ k j s u. refl;
          top = λ e. refl;
          tag = λ l e. ap (λ (k : ℕ). tag_of S (tree_node S T h k) h k) (sym top-node)
              ∙ ap (λ (n : ℕ). tag_of S (tree_node S T n (on_path p n)) n (on_path p n)) (suc_inj e);
        }) in
        record { cache = r.cache; cells = r.cells; same = r.same; live = r.live; rows = r.rows; path = λ k s. r.path k (omega arith) }
