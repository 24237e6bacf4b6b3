-- The cache once the missing nodes of a path are loaded: each slot of the path holds its node, and what the block's slot was loaded from is
-- nothing to a write, which renews it. Assumes nothing.
use mathlib.Core.Path.{◌≡◌, refl, sym, ap, ap₂, ◌∙◌}
use mathlib.Core.Bool.{Bool, true, false, cond}
use mathlib.Core.List.{List, ◌∷◌, ◌++◌}
use Prim.Native.Nat.{ℕ, zero, suc, ◌*◌, ◌%◌, ◌≤◌, ◌<◌, zero-le}
use native.Mathlib.Nat.{le_refl}
use native.Mathlib.Decide.{ℕ_discrete}
use native.Mathlib.Omega.{arith}
use lib.ListN.{length, get_or, length-append}
use Rattle.words.specs.Bytes.{to_le, put}
use Rattle.words.proofs.Digits.{length_digits}
use Rattle.words.proofs.Puts.{put-put}
use Rattle.memory_map.specs.Map.{pages, cell_of, on_path, array_length}
use Rattle.memory_map.specs.Map.Item.{node}
use Rattle.memory_map.proofs.Laws.{path-node, path-within, path-bottom, nodes-small}
use Rattle.slot_map.specs.Slots.{cache_length, slot_of, level_of}
use Rattle.slot_map.proofs.Laws.{slot-within, level-slot}
use Rattle.cache.specs.Cache.{owner, content, with_slot, cell_content, holds}
use Rattle.cache.proofs.Laws.{cell-length, length-with, content-other, slot-room, holds-owner, holds_same, holds-other}
use Rattle.call_laws.specs.Walk.{with_node, with_path}
use Rattle.renewal.specs.Renewed.{renewed_by}

module _ (h : ℕ) (high : h ≤ 3) (p : ℕ) (page : p < pages h) where
  -- ---- one node

  module _ (a : List ℕ) (whole : length a ≡ array_length h) (l : ℕ) (lh : l ≤ h) (d : List ℕ) (size : length d ≡ cache_length h) where
    abbrev i : ℕ
    i = on_path p l

    abbrev b : List ℕ
    b = cell_content a (cell_of h (node l i))

    abbrev loaded : List ℕ
    loaded = with_slot d (slot_of l i) (suc i) 0 b

    full : length b ≡ 64
    full = cell-length h a (node l i) whole (path-node h p l page lh)

    node-size : length (with_node h a d l i) ≡ cache_length h
    unfolding with_node
    node-size = go (holds d l i)
      where
        go : (u : Bool) → length (cond u d loaded) ≡ cache_length h
        go true = size
        go false = length-with h d size (slot_of l i) (slot-within h l i lh) (suc i) 0 b full ∙ size

    node-held : holds (with_node h a d l i) l i ≡ true
    unfolding with_node
    node-held = go (holds d l i) refl
      where
        go : (u : Bool) → holds d l i ≡ u → holds (cond u d loaded) l i ≡ true
        go true e = e
        go false e =
            holds_same h d size (slot_of l i) (slot-within h l i lh) (suc i) 0 b full l i refl refl
            (omega (arith, path-within h p l page lh, nodes-small {h = h} l refl high))

    node-keeps : (k j : ℕ) → (k ≡ l → ⊥) → holds (with_node h a d l i) k j ≡ holds d k j
    unfolding with_node
    node-keeps k j e = go (holds d l i)
      where
        go : (u : Bool) → holds (cond u d loaded) k j ≡ holds d k j
        go true = refl
        go false =
            holds-other h d size (slot_of l i) (slot-within h l i lh) (suc i) 0 b full k j
            (λ z. e (sym (level-slot k j) ∙ ap level_of z ∙ level-slot l i))

  -- ---- the path

  module _ (a : List ℕ) (whole : length a ≡ array_length h) where
    path-keeps : (n : ℕ) (d : List ℕ) → n ≤ suc h → length d ≡ cache_length h → (k j : ℕ) → n ≤ k
        → holds (with_path h a p n d) k j ≡ holds d k j
    unfolding with_path
    path-keeps zero d q e k j f = refl
    path-keeps (suc l) d q e k j f =
        path-keeps l (with_node h a d l (on_path p l)) (omega arith) (node-size a whole l (omega arith) d e) k j (omega arith)
        ∙ node-keeps a whole l (omega arith) d e k j (λ z. omega arith)

    path-holds : (n : ℕ) (d : List ℕ) → n ≤ suc h → length d ≡ cache_length h → (l : ℕ) → l < n
        → holds (with_path h a p n d) l (on_path p l) ≡ true
    unfolding with_path
    path-holds zero d q e l f = absurd (omega arith)
    path-holds (suc k) d q e l f =
        one (ℕ_discrete l k) (path-holds k (with_node h a d k (on_path p k)) (omega arith) (node-size a whole k (omega arith) d e) l)
      where
        next : List ℕ
        next = with_node h a d k (on_path p k)

        one : Dec (l ≡ k) → (l < k → holds (with_path h a p k next) l (on_path p l) ≡ true) → holds (with_path h a p k next) l (on_path p l)
            ≡ true
        one (yes z) ih =
            ap (λ (j : ℕ). holds (with_path h a p k next) j (on_path p j)) z
            ∙ path-keeps k next (omega arith) (node-size a whole k (omega arith) d e) k (on_path p k) (le_refl k)
            ∙ node-held a whole k (omega arith) d e
        one (no z) ih = ih (omega arith)

    pub path-owners : (c : List ℕ) → length c ≡ cache_length h → (l : ℕ) → l ≤ h
        → owner (with_path h a p (suc h) c) (slot_of l (on_path p l)) ≡ suc (on_path p l)
    path-owners c e l q = holds-owner _ l (on_path p l) (path-holds (suc h) c (le_refl (suc h)) e l (omega arith))

  -- ---- the block renewed, whatever its slot was loaded from

  module _ (t : List ℕ) (wide : length t ≡ 64) (f : ℕ) where
    abbrev over : List ℕ → List ℕ
    over x = with_slot x (slot_of 0 p) (suc p) f t

    over-with : (d : List ℕ) → length d ≡ cache_length h → (s o g : ℕ) (b : List ℕ) → length b ≡ 64 → s ≡ slot_of 0 p
        → over (with_slot d s o g b) ≡ over d
    unfolding with_slot
    over-with d size s o g b full e =
        let w = length_digits 256 8 o in
        let v = length_digits 256 8 (suc p) in
        let room = slot-room h (slot_of 0 p) d size (slot-within h 0 p zero-le) in
        ap (λ (j : ℕ). put (put d (73 * j) (to_le 8 o ++ (g ∷ b))) (73 * slot_of 0 p) (to_le 8 (suc p) ++ (f ∷ t))) e
        ∙ put-put d (73 * slot_of 0 p) (to_le 8 o ++ (g ∷ b)) (omega (arith, length-append (to_le 8 o) (g ∷ b)))
        (to_le 8 (suc p) ++ (f ∷ t)) (omega (arith, length-append (to_le 8 o) (g ∷ b), length-append (to_le 8 (suc p)) (f ∷ t)))

    over-node : (a : List ℕ) → length a ≡ array_length h → (d : List ℕ) → length d ≡ cache_length h
        → over (with_node h a d 0 (on_path p 0)) ≡ over d
    unfolding with_node
    over-node a whole d size = go (holds d 0 (on_path p 0))
      where
        go : (u : Bool) → over (cond u d (loaded a whole 0 zero-le d size)) ≡ over d
        go true = refl
        go false = over-with d size (slot_of 0 (on_path p 0)) _ 0 _ (full a whole 0 zero-le d size) (ap (slot_of 0) (path-bottom p))

    module _ (a b c : List ℕ) (whole : length a ≡ array_length h) (whole-b : length b ≡ array_length h)
        (same : (l : ℕ) → 1 ≤ l → l ≤ h → holds c l (on_path p l) ≡ false
        → cell_content b (cell_of h (node l (on_path p l))) ≡ cell_content a (cell_of h (node l (on_path p l)))) where
      node-same : (l : ℕ) → 1 ≤ l → l ≤ h → (d : List ℕ) → holds d l (on_path p l) ≡ holds c l (on_path p l)
          → with_node h b d l (on_path p l) ≡ with_node h a d l (on_path p l)
      unfolding with_node
      node-same l q lh d e = go (holds d l (on_path p l)) refl
        where
          go : (u : Bool) → holds d l (on_path p l) ≡ u
              → cond u d (with_slot d (slot_of l (on_path p l)) (suc (on_path p l)) 0 (cell_content b (cell_of h (node l (on_path p l)))))
              ≡ cond u d (with_slot d (slot_of l (on_path p l)) (suc (on_path p l)) 0 (cell_content a (cell_of h (node l (on_path p l)))))
          go true g = refl
          go false g = ap (with_slot d (slot_of l (on_path p l)) (suc (on_path p l)) 0) (same l q lh (sym e ∙ g))

      levels-over : (n : ℕ) (d : List ℕ) → n ≤ suc h → length d ≡ cache_length h
          → ((k : ℕ) → k < n → holds d k (on_path p k) ≡ holds c k (on_path p k)) → over (with_path h b p n d) ≡ over (with_path h a p n d)
      unfolding with_path
      levels-over zero d q size e = refl
      levels-over (suc zero) d q size e = over-node b whole-b d size ∙ sym (over-node a whole d size)
      levels-over (suc (suc l)) d q size e =
          ap (λ (x : List ℕ). over (with_path h b p (suc l) x)) (node-same (suc l) (omega arith) (omega arith) d (e (suc l) (omega arith)))
          ∙ levels-over (suc l) (with_node h a d (suc l) (on_path p (suc l))) (omega arith) (node-size a whole (suc l) (omega arith) d size)
          (λ k r. node-keeps a whole (suc l) (omega arith) d size k (on_path p k) (λ z. omega arith) ∙ e k (omega arith))

      pub path-over : length c ≡ cache_length h → over (with_path h b p (suc h) c) ≡ over (with_path h a p (suc h) c)
      path-over size = levels-over (suc h) c (le_refl (suc h)) size (λ k r. refl)

    -- so the renewed path is the same
    pub renewed-over : (tags x y : List ℕ) → length x ≡ cache_length h → length y ≡ cache_length h → over x ≡ over y
        → (l : ℕ) → l ≤ h → renewed_by x p t f tags l ≡ renewed_by y p t f tags l
    unfolding renewed_by
    renewed-over tags x y size-x size-y e zero q = e
    renewed-over tags x y size-x size-y e (suc l) q =
        let s = slot_of (suc l) (on_path p (suc l)) in
        let other : (s ≡ slot_of 0 p) → ⊥ = λ z. omega (arith, level-slot (suc l) (on_path p (suc l)), level-slot 0 p, ap level_of z) in
        let at : content x s ≡ content y s =
        sym (content-other h x size-x (slot_of 0 p) (slot-within h 0 p zero-le) (suc p) f t wide s other)
        ∙ ap (λ (z : List ℕ). content z s) e ∙ content-other h y size-y (slot_of 0 p) (slot-within h 0 p zero-le) (suc p) f t wide s other in
        ap₂ {C = List ℕ} (λ (z w : List ℕ). with_slot z s (suc (on_path p (suc l))) 1 (put w (8 * (on_path p l % 8)) (to_le 8 (get_or tags l 0))))
        (renewed-over tags x y size-x size-y e l (omega arith)) at
