-- A cache that goes with its array: it holds what the shadow lists, all of it of the fresh tree, and what is clean stands in the array too.
-- Loading a path then never finds a wrong tag, and keeps both so. Assumes nothing.
use mathlib.Core.Path.{◌≡◌, refl, sym, ap, ap₂, ◌∙◌, subst}
use mathlib.Core.Logic.{◌⊎◌, inl, inr}
use mathlib.Core.Bool.{Bool, true, false, cond, false≢true}
use mathlib.Core.List.{List, [], ◌∷◌, ◌++◌}
use Prim.Native.Nat.{ℕ, zero, suc, ◌-◌, ◌*◌, ◌≤◌, ◌<◌}
use native.Mathlib.Nat.{le_refl}
use native.Mathlib.Omega.{arith}
use borrow.Author.Tests.{eq-eqb, ne_eqb}
use lib.ListN.{length, replicate}
use Rattle.words.specs.Bytes.{to_le, part, put}
use Rattle.words.proofs.Order.{eq-or-not}
use Rattle.memory_map.specs.Map.{lines, nodes, slots, cell_of}
use Rattle.memory_map.specs.Map.Item.{shadow}
use Rattle.memory_map.proofs.Laws.{nodes-small, nodes-top}
use Rattle.slot_map.specs.Slots.{slot_of, level_of}
use Rattle.slot_map.proofs.Laws.{slot-within, level-slot, level-within}
use Rattle.control.specs.Control.{Cell}
use Rattle.cache.specs.Cache.{owner, dirty, content, shadow_owner, with_slot, top_slot, holds, current}
use Rattle.cache.proofs.Laws.{owner-same, content-same, owner-other, dirty-other, content-other}
use Rattle.cache.proofs.Laws.{holds-owner, owner-holds, slot-holds, current-cached, current-missing}
use Rattle.journal.proofs.Again.{put-cells}
use Rattle.calls.specs.Path.{evicted, node_cell}
use Rattle.call_laws.proofs.Loads.{Fit}
use Rattle.history_laws.proofs.Setting.{Setting, Tree, tree_node, node_in, Opening}
use Rattle.history_laws.proofs.Tree.{tree-length}
use Rattle.history_laws.proofs.Durable.{Durable}
use Rattle.history_laws.proofs.Stores.{with-node, node-same, other-level, node_lines, shadow-kept, fresh_kept, node-durable}
use Rattle.history_laws.proofs.Stores.{Vacant, shadow-lines, listed_same, listed-other, nodes-kept, shadow-durable}

module _ (S : Setting) (T : Tree) (o : Opening) where
  open S use {h}

  pub record Live (a c : List ℕ) : Type 0 where
    pub durable : Durable S T o a
    pub fit : Fit h c
    pub listed : (s : ℕ) → s < slots h → owner c s ≡ shadow_owner h a s
    pub fresh : (s i : ℕ) → s < slots h → owner c s ≡ suc i → content c s ≡ tree_node S T (level_of s) i
    pub clean : (s i : ℕ) → s < slots h → owner c s ≡ suc i → dirty c s ≡ 0 → node_in S a (level_of s) i ≡ tree_node S T (level_of s) i

module _ {S : Setting} {T : Tree} {o : Opening} {a c : List ℕ} (v : Live S T o a c) where
  open S use {keys, h, high}

  -- every block and node is then the fresh tree's
  pub live-current : (l i : ℕ) → l ≤ h → i < nodes h l → current h a c l i ≡ tree_node S T l i
  live-current l i p q = go (holds c l i) refl
    where
      within : slot_of l i < slots h
      within = slot-within h l i p

      go : (b : Bool) → holds c l i ≡ b → current h a c l i ≡ tree_node S T l i
      go true e =
          current-cached h a c l i e ∙ v.fresh (slot_of l i) i within (holds-owner c l i e)
          ∙ ap (λ (k : ℕ). tree_node S T k i) (level-slot l i)
      go false e =
          current-missing h a c l i e
          ∙ v.durable.stored l i p q (λ o. false≢true (sym e ∙ owner-holds c l i (v.listed (slot_of l i) within ∙ o)))

  -- a node that the cache lacks; it is the top where the cache lacks that
  pub record Missing (l i : ℕ) : Type 0 where
    pub level : l ≤ h
    pub inside : i < nodes h l
    pub absent : holds c l i ≡ false
    pub top : owner c (top_slot h) ≡ 0 → l ≡ h

  module _ {l i : ℕ} (w : Missing l i) where
    within : slot_of l i < slots h
    within = slot-within h l i w.level

    -- ---- its slot freed: the dirty former owner's cell stored

    record Freed (b : List ℕ) : Type 0 where
      durable : Durable S T o b
      shadows : (t : ℕ) → t < slots h → shadow_owner h b t ≡ shadow_owner h a t
      kept : (k j : ℕ) → k ≤ h → j < nodes h k → node_in S a k j ≡ tree_node S T k j → node_in S b k j ≡ tree_node S T k j
      old : (j : ℕ) → j < nodes h l → owner c (slot_of l i) ≡ suc j → node_in S b l j ≡ tree_node S T l j
      lower : (k j : ℕ) → k < l → j < nodes h k → node_in S b k j ≡ node_in S a k j
      rows : (n : ℕ) → n < lines h → part b (72 * n) 72 ≡ part a (72 * n) 72

    -- what a filled slot has
    of-level : (j : ℕ) → owner c (slot_of l i) ≡ suc j → (j < nodes h l) × (content c (slot_of l i) ≡ tree_node S T l j)
    of-level j e =
        let level = level-slot l i in (
          subst (λ (k : ℕ). j < nodes h k) level (slot-holds h c (slot_of l i) j v.fit.formed within e).0,
          v.fresh (slot_of l i) j within e ∙ ap (λ (k : ℕ). tree_node S T k j) level,
        )

    freed-clean : dirty c (slot_of l i) ≡ 0 → Freed a
    freed-clean e =
        record {
          durable = v.durable;
          shadows = λ t p. refl;
          kept = λ k j p q r. r;
          old = λ j p o. subst (λ (k : ℕ). node_in S a k j ≡ tree_node S T k j) (level-slot l i)
              (v.clean (slot_of l i) j within o e);
          lower = λ k j p q. refl;
          rows = λ n p. refl;
        }

    freed-dirty : (j : ℕ) (q : j < nodes h l) → owner c (slot_of l i) ≡ suc j → Freed (with-node v.durable l j w.level q)
    freed-dirty j q e =
        record {
          durable = node-durable v.durable l j w.level q;
          shadows = shadow-kept v.durable l j w.level q;
          kept = fresh_kept v.durable l j w.level q;
          old = λ k p o. let same : j ≡ k = omega (arith, e, o) in
              subst (λ (n : ℕ). node_in S (with-node v.durable l j w.level q) l n ≡ tree_node S T l n) same
              (node-same v.durable l j w.level q);
          lower = λ k n p r. other-level v.durable l j w.level q k n (omega (arith, w.level)) r (λ z. omega arith);
          rows = node_lines v.durable l j w.level q;
        }

    abbrev former : List Cell
    former = evicted h c l (slot_of l i)

    abbrev array-freed : List ℕ
    array-freed = put-cells a former

    freed : Freed array-freed
    unfolding evicted put-cells
    freed = by_flag (dirty c (slot_of l i)) refl (v.fit.formed.flag (slot_of l i) within)
      where
        stored : Bool → List ℕ
        stored b = put-cells a (cond b (node_cell h l (owner c (slot_of l i) - 1) (content c (slot_of l i)) ∷ []) [])

        filled : (o : ℕ) → owner c (slot_of l i) ≡ o → dirty c (slot_of l i) ≡ 1
            → Freed (put-cells a (node_cell h l (o - 1) (content c (slot_of l i)) ∷ []))
        filled zero e d = absurd (omega (arith, d, v.fit.formed.clean (slot_of l i) within e))
        filled (suc j) e d =
            let index : suc j - 1 ≡ j = omega arith in
            subst Freed (sym (ap₂ (λ (n : ℕ) (b : List ℕ). put-cells a (node_cell h l n b ∷ [])) index (of-level j e).1))
            (freed-dirty j (of-level j e).0 e)

        by_flag : (n : ℕ) → dirty c (slot_of l i) ≡ n → n ≤ 1 → Freed array-freed
        by_flag zero e p = subst Freed (sym (ap stored (ne_eqb (dirty c (slot_of l i)) 1 (λ z. omega arith)))) (freed-clean e)
        by_flag (suc n) e p =
            let one : dirty c (slot_of l i) ≡ 1 = omega arith in
            subst Freed (sym (ap stored (eq-eqb (dirty c (slot_of l i)) 1 one))) (filled (owner c (slot_of l i)) refl one)

    -- ---- and the missing node put into it

    pub not_listed : shadow_owner h a (slot_of l i) ≡ suc i → ⊥
    not_listed o = false≢true (sym w.absent ∙ owner-holds c l i (v.listed (slot_of l i) within ∙ o))

    vacant : Vacant freed.durable l i
    vacant =
        record {
          low = w.level;
          inside = w.inside;
          word = omega (arith, w.inside, nodes-small {h = h} l refl high);
          old = λ j p e. freed.old j p (v.listed (slot_of l i) within ∙ sym (freed.shadows (slot_of l i) within) ∙ e);
          topped = λ e.
              let there = slot-within h h 0 (le_refl h) in
              let level : l ≡ h = w.top (v.listed (top_slot h) there ∙ sym (freed.shadows (top_slot h) there) ∙ e) in
              let index : i ≡ 0 = omega (arith, subst (λ (k : ℕ). i < nodes h k) level w.inside, nodes-top h) in
              ap₂ slot_of level index;
        }

    abbrev pub array-next : List ℕ
    array-next = put array-freed (72 * cell_of h (shadow (slot_of l i))) (to_le 8 (suc i) ++ replicate 64 0)

    abbrev pub next : List ℕ
    next = with_slot c (slot_of l i) (suc i) 0 (tree_node S T l i)

    size : length (tree_node S T l i) ≡ 64
    size = tree-length S T l i

    pub own_same : owner next (slot_of l i) ≡ suc i
    own_same = owner-same h c v.fit.sized (slot_of l i) within (suc i) 0 (tree_node S T l i) size vacant.word

    pub own-other : (t : ℕ) → (t ≡ slot_of l i → ⊥) → owner next t ≡ owner c t
    own-other = owner-other h c v.fit.sized (slot_of l i) within (suc i) 0 (tree_node S T l i) size

    kept_next : (k j : ℕ) → k ≤ h → j < nodes h k → node_in S a k j ≡ tree_node S T k j → node_in S array-next k j ≡ tree_node S T k j
    kept_next k j p q e = nodes-kept freed.durable vacant k j p q ∙ freed.kept k j p q e

    -- data cells stay as they were
    pub rows_next : (n : ℕ) → n < lines h → part array-next (72 * n) 72 ≡ part a (72 * n) 72
    rows_next n p = shadow-lines freed.durable vacant n p ∙ freed.rows n p

    -- nodes of lower levels stay as they were
    pub lower-next : (k j : ℕ) → k < l → j < nodes h k → node_in S array-next k j ≡ node_in S a k j
    lower-next k j p q = nodes-kept freed.durable vacant k j (omega (arith, w.level)) q ∙ freed.lower k j p q

    listed_next : (t : ℕ) → t < slots h → (t ≡ slot_of l i) ⊎ (t ≡ slot_of l i → ⊥) → owner next t ≡ shadow_owner h array-next t
    listed_next t p (inl z) =
        subst (λ (k : ℕ). owner next k ≡ shadow_owner h array-next k) (sym z) (own_same ∙ sym (listed_same freed.durable vacant))
    listed_next t p (inr z) =
        own-other t z ∙ v.listed t p ∙ sym (freed.shadows t p) ∙ sym (listed-other freed.durable vacant t p z)

    -- what a slot owns that is the node's own
    its-level : (t : ℕ) → t ≡ slot_of l i → level_of t ≡ l
    its-level t z = ap level_of z ∙ level-slot l i

    its-index : (t j : ℕ) → t ≡ slot_of l i → owner next t ≡ suc j → i ≡ j
    its-index t j z o = omega (arith, own_same, subst (λ (k : ℕ). owner next k ≡ suc j) z o)

    fresh-next : (t j : ℕ) → t < slots h → owner next t ≡ suc j → (t ≡ slot_of l i) ⊎ (t ≡ slot_of l i → ⊥)
        → content next t ≡ tree_node S T (level_of t) j
    fresh-next t j p o (inl z) =
        ap (content next) z ∙ content-same h c v.fit.sized (slot_of l i) within (suc i) 0 (tree_node S T l i) size
        ∙ ap₂ (λ (k n : ℕ). tree_node S T k n) (sym (its-level t z)) (its-index t j z o)
    fresh-next t j p o (inr z) =
        content-other h c v.fit.sized (slot_of l i) within (suc i) 0 (tree_node S T l i) size t z
        ∙ v.fresh t j p (sym (own-other t z) ∙ o)

    clean-next : (t j : ℕ) → t < slots h → owner next t ≡ suc j → dirty next t ≡ 0 → (t ≡ slot_of l i) ⊎ (t ≡ slot_of l i → ⊥)
        → node_in S array-next (level_of t) j ≡ tree_node S T (level_of t) j
    clean-next t j p o e (inl z) =
        subst (λ (k : ℕ). node_in S array-next k j ≡ tree_node S T k j) (sym (its-level t z))
        (subst (λ (n : ℕ). node_in S array-next l n ≡ tree_node S T l n) (its-index t j z o)
        (kept_next l i w.level w.inside (v.durable.stored l i w.level w.inside not_listed)))
    clean-next t j p o e (inr z) =
        let o' = sym (own-other t z) ∙ o in
        kept_next (level_of t) j (level-within h t p) (slot-holds h c t j v.fit.formed p o').0
        (v.clean t j p o' (sym (dirty-other h c v.fit.sized (slot_of l i) within (suc i) 0 (tree_node S T l i) size t z) ∙ e))

    pub live-next : Fit h next → Live S T o array-next next
    live-next fit =
        record {
          durable = shadow-durable freed.durable vacant;
          fit = fit;
          listed = λ t p. listed_next t p (eq-or-not t (slot_of l i));
          fresh = λ t j p o. fresh-next t j p o (eq-or-not t (slot_of l i));
          clean = λ t j p o e. clean-next t j p o e (eq-or-not t (slot_of l i));
        }

-- a node stored as it is in the tree
pub live-node : {S : Setting} {T : Tree} {o : Opening} {a c : List ℕ} (v : Live S T o a c) (l i : ℕ) (low : l ≤ S.h)
    (inside : i < nodes S.h l) → Live S T o (with-node v.durable l i low inside) c
live-node {S} {c = c} v l i low inside =
    record {
      durable = node-durable v.durable l i low inside;
      fit = v.fit;
      listed = λ s p. v.listed s p ∙ sym (shadow-kept v.durable l i low inside s p);
      fresh = v.fresh;
      clean = λ s j p o e. fresh_kept v.durable l i low inside (level_of s) j (level-within S.h s p)
          (slot-holds S.h c s j v.fit.formed p o).0 (v.clean s j p o e);
    }
