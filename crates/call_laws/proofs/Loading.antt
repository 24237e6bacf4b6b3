-- Loading a path, seen in the cache before it: the same nodes are checked, with the same tags, and the batch and the slots are those of the
-- nodes that the cache lacks. Assumes nothing.
use mathlib.Core.Path.{◌≡◌, refl, sym, ap, ap₂, ◌∙◌}
use mathlib.Core.Bool.{Bool, true, false, cond}
use mathlib.Core.List.{List, [], ◌∷◌, ◌++◌, append-nil, append_assoc}
use mathlib.Core.Option.{Option, none, some}
use Prim.Native.Nat.{ℕ, zero, suc, ◌-◌, ◌≤◌, ◌<◌}
use native.Mathlib.Nat.{le_refl}
use native.Mathlib.Decide.{ℕ_discrete}
use native.Mathlib.Omega.{arith}
use borrow.Author.Tests.{eq-eqb, ne_eqb}
use lib.Dec.{eqb}
use lib.ListN.{length}
use Rattle.memory_map.specs.Map.{pages, slots, cell_of, on_path, array_length, InMap}
use Rattle.memory_map.specs.Map.Item.{node}
use Rattle.memory_map.proofs.Laws.{path-node}
use Rattle.slot_map.specs.Slots.{cache_length, slot_of, level_of}
use Rattle.slot_map.proofs.Laws.{slot-within, level-slot}
use Rattle.tag.specs.Tag.{node_tag}
use Rattle.control.specs.Control.{Cell}
use Rattle.cache.specs.Cache.{owner, dirty, content, with_slot, cell_content, holds, current}
use Rattle.cache.proofs.Laws.{cell-length, length-with, owner-other, dirty-other}
use Rattle.cache.proofs.Laws.{content-same, content-other, current-cached, current-missing}
use Rattle.calls.specs.Path.{child_tag, node_cell, shadow_cell, evicted, Loaded, loaded, differs, load_node, load_levels, load_path}
use Rattle.call_laws.specs.Walk.{expected_tag, node_cells, path_cells, with_node, with_path}

-- the content of the array's node of level l on the path
abbrev stored_node : ℕ → List ℕ → ℕ → ℕ → List ℕ
stored_node h a p l = cell_content a (cell_of h (node l (on_path p l)))

-- whether it has the tag that it must carry
abbrev pub right_tag : ℕ → List ℕ → List ℕ → List ℕ → ℕ → ℕ → ℕ → Bool
right_tag h keys a c r p l = eqb (node_tag keys (stored_node h a p l) l (on_path p l)) (expected_tag h a c r p l)

-- the first of the n lowest levels, from above, whose node is missing and has another tag
unfoldable pub first_wrong : ℕ → List ℕ → List ℕ → List ℕ → ℕ → ℕ → ℕ → Option ℕ
first_wrong h keys a c r p zero = none
first_wrong h keys a c r p (suc l) =
    cond (holds c l (on_path p l)) (first_wrong h keys a c r p l) (cond (right_tag h keys a c r p l) (first_wrong h keys a c r p l) (some l))

-- what is found and gathered, as the definition answers it
abbrev pub outcome : ℕ → Option ℕ → List ℕ → List Cell → Loaded
outcome p none d x = loaded d x
outcome p (some l) d x = differs l (on_path p l)

module _ (h : ℕ) (high : h ≤ 3) (keys a : List ℕ) (whole : length a ≡ array_length h) (r p : ℕ) (page : p < pages h) (c : List ℕ) where
  abbrev stored : ℕ → List ℕ
  stored l = stored_node h a p l

  abbrev right : ℕ → Bool
  right l = right_tag h keys a c r p l

  abbrev wrong : ℕ → Option ℕ
  wrong n = first_wrong h keys a c r p n

  -- d has c's slots of the levels below n
  record Like (n : ℕ) (d : List ℕ) : Type 0 where
    sized : length d ≡ cache_length h
    owners : (k j : ℕ) → k < n → owner d (slot_of k j) ≡ owner c (slot_of k j)
    flags : (k j : ℕ) → k < n → dirty d (slot_of k j) ≡ dirty c (slot_of k j)
    contents : (k j : ℕ) → k < n → content d (slot_of k j) ≡ content c (slot_of k j)

  holds-like : {n : ℕ} {d : List ℕ} → Like n d → (l i : ℕ) → l < n → holds d l i ≡ holds c l i
  unfolding holds
  holds-like s l i q = ap (λ (o : ℕ). eqb o (suc i)) (s.owners l i q)

  evicted-like : {n : ℕ} {d : List ℕ} → Like n d → (l i : ℕ) → l < n → evicted h d l (slot_of l i) ≡ evicted h c l (slot_of l i)
  unfolding evicted
  evicted-like {n} {d} s l i q =
      ap₂ {C = List Cell} (λ (f : ℕ) (o : ℕ). cond (eqb f 1) (node_cell h l (o - 1) (content d (slot_of l i)) ∷ []) [])
      (s.flags l i q) (s.owners l i q)
      ∙ ap (λ (b : List ℕ). cond (eqb (dirty c (slot_of l i)) 1) (node_cell h l (owner c (slot_of l i) - 1) b ∷ []) []) (s.contents l i q)

  module _ (l : ℕ) (lh : l ≤ h) where
    inside : InMap h (node l (on_path p l))
    inside = path-node h p l page lh

    stored-size : length (stored l) ≡ 64
    stored-size = cell-length h a (node l (on_path p l)) whole inside

    in-slots : slot_of l (on_path p l) < slots h
    in-slots = slot-within h l (on_path p l) lh

    abbrev loaded_into : List ℕ → List ℕ
    loaded_into d = with_slot d (slot_of l (on_path p l)) (suc (on_path p l)) 0 (stored l)

    -- a node of another level takes another slot
    apart : (k j : ℕ) → k < l → slot_of k j ≡ slot_of l (on_path p l) → ⊥
    apart k j q e = let same : k ≡ l = sym (level-slot k j) ∙ ap level_of e ∙ level-slot l (on_path p l) in omega arith

    like-less : {d : List ℕ} → Like (suc l) d → Like l d
    like-less s =
        record {
          sized = s.sized;
          owners = λ k j q. s.owners k j (omega arith);
          flags = λ k j q. s.flags k j (omega arith);
          contents = λ k j q. s.contents k j (omega arith);
        }

    like_loaded : {d : List ℕ} → Like (suc l) d → Like l (loaded_into d)
    like_loaded {d} s =
        record {
          sized = length-with h d s.sized _ in-slots _ 0 (stored l) stored-size ∙ s.sized;
          owners = λ k j q. owner-other h d s.sized _ in-slots _ 0 (stored l) stored-size (slot_of k j) (apart k j q)
              ∙ s.owners k j (omega arith);
          flags = λ k j q. dirty-other h d s.sized _ in-slots _ 0 (stored l) stored-size (slot_of k j) (apart k j q)
              ∙ s.flags k j (omega arith);
          contents = λ k j q. content-other h d s.sized _ in-slots _ 0 (stored l) stored-size (slot_of k j) (apart k j q)
              ∙ s.contents k j (omega arith);
        }

    -- the node's content, once it is in its slot
    held-content : {d : List ℕ} → Like (suc l) d → holds c l (on_path p l) ≡ true
        → content d (slot_of l (on_path p l)) ≡ current h a c l (on_path p l)
    held-content s e = s.contents l (on_path p l) (omega arith) ∙ sym (current-cached h a c l (on_path p l) e)

    loaded-content : {d : List ℕ} → Like (suc l) d → holds c l (on_path p l) ≡ false
        → content (loaded_into d) (slot_of l (on_path p l)) ≡ current h a c l (on_path p l)
    loaded-content {d} s e =
        content-same h d s.sized _ in-slots _ 0 (stored l) stored-size ∙ sym (current-missing h a c l (on_path p l) e)

  -- the tag that the highest of n levels must carry
  abbrev Expects : ℕ → ℕ → Type 0
  Expects zero t = Unit {0}
  Expects (suc l) t = t ≡ expected_tag h a c r p l

  expects-next : (l : ℕ) → l ≤ h → (d : List ℕ) → content d (slot_of l (on_path p l)) ≡ current h a c l (on_path p l)
      → Expects l (child_tag (content d (slot_of l (on_path p l))) (on_path p (l - 1)))
  unfolding expected_tag
  expects-next zero q d e = tt
  expects-next (suc l) q d e =
      let below : suc l - 1 ≡ l = omega arith in
      ap₂ {C = ℕ} (λ (b : List ℕ) (i : ℕ). child_tag b (on_path p i)) e below
      ∙ ap (λ (t : Bool). cond t r (child_tag (current h a c (suc l) (on_path p (suc l))) (on_path p l))) (sym (ne_eqb l h (λ z. omega arith)))

  regroup : (o : Option ℕ) (d : List ℕ) (x y z : List Cell) → outcome p o d ((x ++ y) ++ z) ≡ outcome p o d (x ++ (y ++ z))
  regroup none d x y z = ap (loaded d) (append_assoc x y z)
  regroup (some l) d x y z = refl

  module _ (l : ℕ) (lh : l ≤ h) (d : List ℕ) (s : Like (suc l) d) where
    abbrev i : ℕ
    i = on_path p l

    -- the cells of the node, where it is missing
    abbrev y : List Cell
    y = evicted h c l (slot_of l i) ++ (shadow_cell h (slot_of l i) (suc i) ∷ [])

    node-load : (t : ℕ) → t ≡ expected_tag h a c r p l
        → load_node h keys a d l i t ≡ cond (holds c l i) (loaded d []) (cond (right l) (loaded (loaded_into l lh d) y) (differs l i))
    unfolding load_node
    node-load t e = rw (holds-like s l i (le_refl (suc l)), e, evicted-like s l i (le_refl (suc l)))

    with-node : with_node h a d l i ≡ cond (holds c l i) d (loaded_into l lh d)
    unfolding with_node
    with-node = rw (holds-like s l i (le_refl (suc l)))

    module _ (x : List Cell)
        (ih : (u : ℕ) (f : List ℕ) (z : List Cell) → Like l f → Expects l u
        → load_levels h keys a p l u f z ≡ outcome p (wrong l) (with_path h a p l f) (z ++ path_cells h c p l)) where
      cases : (u v : Bool) → holds c l i ≡ u
          → (elim (cond u (loaded d []) (cond v (loaded (loaded_into l lh d) y) (differs l i))) as (λ z. Loaded) [
            | differs k j ↦ differs k j
            | loaded f w ↦ load_levels h keys a p l (child_tag (content f (slot_of l i)) (on_path p (l - 1))) f (x ++ w)
          ])
          ≡ outcome p (cond u (wrong l) (cond v (wrong l) (some l))) (with_path h a p l (cond u d (loaded_into l lh d)))
          (x ++ (cond u [] y ++ path_cells h c p l))
      cases true v e =
          ih _ d (x ++ []) (like-less l lh s) (expects-next l lh d (held-content l lh s e)) ∙ regroup (wrong l) _ x [] (path_cells h c p l)
      cases false true e =
          ih _ (loaded_into l lh d) (x ++ y) (like_loaded l lh s) (expects-next l lh (loaded_into l lh d) (loaded-content l lh s e))
          ∙ regroup (wrong l) _ x y (path_cells h c p l)
      cases false false e = refl

      level-step : (t : ℕ) → t ≡ expected_tag h a c r p l
          → load_levels h keys a p (suc l) t d x ≡ outcome p (wrong (suc l)) (with_path h a p (suc l) d) (x ++ path_cells h c p (suc l))
      unfolding load_levels with_path path_cells first_wrong node_cells
      level-step t e =
          ap (λ (z : Loaded). elim z as (λ w. Loaded) [
            | differs k j ↦ differs k j
            | loaded f w ↦ load_levels h keys a p l (child_tag (content f (slot_of l i)) (on_path p (l - 1))) f (x ++ w)
          ])
          (node-load t e)
          ∙ cases (holds c l i) (right l) refl
          ∙ ap (λ (f : List ℕ). outcome p (wrong (suc l)) (with_path h a p l f) (x ++ (node_cells h c l i ++ path_cells h c p l)))
          (sym with-node)

  load-levels : (n t : ℕ) (d : List ℕ) (x : List Cell) → n ≤ suc h → Like n d → Expects n t
      → load_levels h keys a p n t d x ≡ outcome p (wrong n) (with_path h a p n d) (x ++ path_cells h c p n)
  unfolding load_levels with_path path_cells first_wrong
  load-levels zero t d x q s e = ap (loaded d) (sym (append-nil x))
  load-levels (suc l) t d x q s e = level-step l (omega arith) d s x (λ u f z k g. load-levels l u f z (omega arith) k g) t e

  like-self : length c ≡ cache_length h → Like (suc h) c
  like-self q = record { sized = q; owners = λ k j z. refl; flags = λ k j z. refl; contents = λ k j z. refl }

  -- the whole path
  pub load-path : length c ≡ cache_length h
      → load_path h keys a r p c ≡ outcome p (wrong (suc h)) (with_path h a p (suc h) c) (path_cells h c p (suc h))
  unfolding expected_tag
  load-path q =
      load-levels (suc h) r c [] (le_refl (suc h)) (like-self q)
      (ap (λ (t : Bool). cond t r (child_tag (current h a c (suc h) (on_path p (suc h))) (on_path p h))) (sym (eq-eqb h h refl)))

  -- ---- the cache with the path

  -- slots of levels that are not loaded stay
  module _ (l : ℕ) (lh : l ≤ h) where
    node-other : (d : List ℕ) → length d ≡ cache_length h → (k j : ℕ) → (k ≡ l → ⊥)
        → (length (with_node h a d l (on_path p l)) ≡ cache_length h)
        × (content (with_node h a d l (on_path p l)) (slot_of k j) ≡ content d (slot_of k j))
    unfolding with_node
    node-other d q k j e = go (holds d l (on_path p l))
      where
        go : (u : Bool) → (length (cond u d (loaded_into l lh d)) ≡ cache_length h)
            × (content (cond u d (loaded_into l lh d)) (slot_of k j) ≡ content d (slot_of k j))
        go true = (q, refl)
        go false = (
          length-with h d q _ (in-slots l lh) _ 0 (stored l) (stored-size l lh) ∙ q,
          content-other h d q _ (in-slots l lh) _ 0 (stored l) (stored-size l lh) (slot_of k j)
              (λ z. e (sym (level-slot k j) ∙ ap level_of z ∙ level-slot l (on_path p l))),
        )

  path-other : (n : ℕ) (d : List ℕ) → n ≤ suc h → length d ≡ cache_length h → (k j : ℕ) → n ≤ k
      → (length (with_path h a p n d) ≡ cache_length h) × (content (with_path h a p n d) (slot_of k j) ≡ content d (slot_of k j))
  unfolding with_path
  path-other zero d q e k j f = (e, refl)
  path-other (suc l) d q e k j f =
      let one = node-other l (omega arith) d e k j (λ z. omega arith) in
      let rest = path-other l (with_node h a d l (on_path p l)) (omega arith) one.0 k j (omega arith) in
      (rest.0, rest.1 ∙ one.1)

  -- each node of the path is in its slot
  module _ (l : ℕ) (lh : l ≤ h) (d : List ℕ) (s : Like (suc l) d) where
    node-like : Like l (with_node h a d l (on_path p l))
    node-like = rw (with-node l lh d s) (go (holds c l (on_path p l)))
      where
        go : (u : Bool) → Like l (cond u d (loaded_into l lh d))
        go true = like-less l lh s
        go false = like_loaded l lh s

    node_in : content (with_node h a d l (on_path p l)) (slot_of l (on_path p l)) ≡ current h a c l (on_path p l)
    node_in = rw (with-node l lh d s) (go (holds c l (on_path p l)) refl)
      where
        go : (u : Bool) → holds c l (on_path p l) ≡ u
            → content (cond u d (loaded_into l lh d)) (slot_of l (on_path p l)) ≡ current h a c l (on_path p l)
        go true e = held-content l lh s e
        go false e = loaded-content l lh s e

  path-in : (n : ℕ) (d : List ℕ) → n ≤ suc h → Like n d → (l : ℕ) → l < n
      → content (with_path h a p n d) (slot_of l (on_path p l)) ≡ current h a c l (on_path p l)
  unfolding with_path
  path-in zero d q s l f = absurd (omega arith)
  path-in (suc k) d q s l f =
      path-step (ℕ_discrete l k) (path-in k (with_node h a d k (on_path p k)) (omega arith) (node-like k (omega arith) d s) l)
    where
      e : List ℕ
      e = with_node h a d k (on_path p k)

      path-step : Dec (l ≡ k) → (l < k → content (with_path h a p k e) (slot_of l (on_path p l)) ≡ current h a c l (on_path p l))
          → content (with_path h a p k e) (slot_of l (on_path p l)) ≡ current h a c l (on_path p l)
      path-step (yes z) ih =
          ap (λ (j : ℕ). content (with_path h a p k e) (slot_of j (on_path p j))) z
          ∙ (path-other k e (omega arith) (node-like k (omega arith) d s).sized k (on_path p k) (le_refl k)).1
          ∙ node_in k (omega arith) d s ∙ ap (λ (j : ℕ). current h a c j (on_path p j)) (sym z)
      path-step (no z) ih = ih (omega arith)

  module _ (size : length c ≡ cache_length h) where
    pub path-content : (l : ℕ) → l ≤ h → content (with_path h a p (suc h) c) (slot_of l (on_path p l)) ≡ current h a c l (on_path p l)
    path-content l q = path-in (suc h) c (le_refl (suc h)) (like-self size) l (omega arith)

    pub path-length : length (with_path h a p (suc h) c) ≡ cache_length h
    path-length = (path-other (suc h) c (le_refl (suc h)) size (suc h) 0 (le_refl (suc h))).0

    -- another array that has the same missing nodes gives the same cache
    module _ (b : List ℕ) (same : (l : ℕ) → l ≤ h → holds c l (on_path p l) ≡ false → stored_node h b p l ≡ stored l) where
      node-same : (l : ℕ) → l ≤ h → (d : List ℕ) → Like (suc l) d → with_node h b d l (on_path p l) ≡ with_node h a d l (on_path p l)
      unfolding with_node
      node-same l q d s = go (holds d l (on_path p l)) refl
        where
          go : (u : Bool) → holds d l (on_path p l) ≡ u
              → cond u d (with_slot d (slot_of l (on_path p l)) (suc (on_path p l)) 0 (stored_node h b p l)) ≡ cond u d (loaded_into l q d)
          go true e = refl
          go false e =
              ap (with_slot d (slot_of l (on_path p l)) (suc (on_path p l)) 0)
              (same l q (sym (holds-like s l (on_path p l) (le_refl (suc l))) ∙ e))

      levels-same : (n : ℕ) (d : List ℕ) → n ≤ suc h → Like n d → with_path h b p n d ≡ with_path h a p n d
      unfolding with_path
      levels-same zero d q s = refl
      levels-same (suc l) d q s =
          ap (with_path h b p l) (node-same l (omega arith) d s)
          ∙ levels-same l (with_node h a d l (on_path p l)) (omega arith) (node-like l (omega arith) d s)

      pub path-same : with_path h b p (suc h) c ≡ with_path h a p (suc h) c
      path-same = levels-same (suc h) c (le_refl (suc h)) (like-self size)
