-- Loading a path: the cache stays formed, each cell of the batch is a whole cell of the map, and they are few. Assumes nothing.
use mathlib.Core.Path.{◌≡◌, refl, sym, ap, ap₂, ◌∙◌, subst}
use mathlib.Core.Bool.{Bool, true, false, cond}
use mathlib.Core.List.{List, [], ◌∷◌, ◌++◌}
use mathlib.Core.Option.{Option, none as nothing, some}
use Prim.Native.Nat.{ℕ, zero, suc, ◌+◌, ◌-◌, ◌*◌, ◌^◌, ◌≤◌, ◌<◌, zero-le}
use native.Mathlib.Nat.{le_refl, div-eq_of_lt, suc_inj}
use native.Mathlib.Decide.{ℕ_discrete}
use native.Mathlib.Omega.{arith}
use lib.Dec.{eqb, lit<}
use lib.ListN.{length, replicate, length-append}
use borrow.Author.Tests.{ne_eqb, eqb-true}
use Rattle.words.specs.Bytes.{to_le}
use Rattle.words.proofs.Digits.{Below, below-replicate, below-append, below-digits, length_digits}
use Rattle.memory_map.specs.Map.{pages, nodes, slots, cells, array_length, cell_of, InMap, on_path}
use Rattle.slot_map.specs.Slots.{cache_length, slot_of}
use Rattle.memory_map.specs.Map.Item.{node, shadow}
use Rattle.memory_map.proofs.Laws.{cell-within, cells-small, level-shadow, shadow-cells, nodes-top, path-within}
use Rattle.slot_map.proofs.Laws.{slot-within, node-belongs}
use Rattle.control.specs.Control.{Cell}
use Rattle.cache.specs.Cache.{owner, dirty, content, with_slot, cell_content, holds, top_slot}
use Rattle.cache.proofs.Laws.{Formed, top-cached, dirty-owner, formed-with, length-with, owner-same, owner-other}
use Rattle.cache.proofs.Laws.{below-with, holds-owner, content-length, content-below, cell-length, cell_below, slot-room}
use Rattle.journal.proofs.Each.{Each, none, more, each_append}
use Rattle.calls.specs.Path.{node_cell, shadow_cell, evicted, Loaded, loaded, differs, load_path}
use Rattle.call_laws.specs.Walk.{missing, node_cells, path_cells, with_node, with_path}
use Rattle.call_laws.proofs.Loading.{first_wrong, outcome, load-path}

pub zeros-bytes : (n : ℕ) → Below 256 (replicate n 0)
zeros-bytes n = below-replicate n (lit< tt)

-- 72 bytes for a cell of a module of depth h
pub record Sound (h : ℕ) (x : Cell) : Type 0 where
  pub inside : x.number < cells h
  pub size : length x.bytes ≡ 72
  pub bytes : Below 256 x.bytes

-- a cache of a module of depth h
pub record Fit (h : ℕ) (c : List ℕ) : Type 0 where
  pub sized : length c ≡ cache_length h
  pub formed : Formed h c
  pub bytes : Below 256 c

-- whole cells
pub sound-node : (h l i : ℕ) (b : List ℕ) → InMap h (node l i) → length b ≡ 64 → Below 256 b → Sound h (node_cell h l i b)
sound-node h l i b m e q =
    record {
      inside = cell-within h (node l i) m;
      size = length-append b (replicate 8 0) ∙ ap (λ (n : ℕ). n + 8) e;
      bytes = below-append b (replicate 8 0) q (zeros-bytes 8);
    }

pub sound-shadow : (h s o : ℕ) → s < slots h → Sound h (shadow_cell h s o)
unfolding InMap
sound-shadow h s o p =
    record {
      inside = cell-within h (shadow s) p;
      size = length-append (to_le 8 o) (replicate 64 0) ∙ ap (λ (n : ℕ). n + 64) (length_digits 256 8 o);
      bytes = below-append (to_le 8 o) (replicate 64 0) (below-digits 256 8 o (lit< tt)) (zeros-bytes 64);
    }

-- ---- the cells of a node

module _ (h : ℕ) (c : List ℕ) (fit : Fit h c) (l i : ℕ) (lh : l ≤ h) where
  in-slots : slot_of l i < slots h
  in-slots = slot-within h l i lh

  evicted-sound : Each (Sound h) (evicted h c l (slot_of l i))
  unfolding evicted
  evicted-sound = go (eqb (dirty c (slot_of l i)) 1) refl
    where
      go : (t : Bool) → eqb (dirty c (slot_of l i)) 1 ≡ t
          → Each (Sound h) (cond t (node_cell h l (owner c (slot_of l i) - 1) (content c (slot_of l i)) ∷ []) [])
      go true e =
          more (sound-node h l (owner c (slot_of l i) - 1) (content c (slot_of l i))
          (dirty-owner h c l i fit.formed lh (eqb-true _ _ e)).1
          (content-length c (slot_of l i) (slot-room h (slot_of l i) c fit.sized in-slots))
          (content-below c (slot_of l i) fit.bytes)) none
      go false e = none

  evicted-few : length (evicted h c l (slot_of l i)) ≤ 1
  unfolding evicted
  evicted-few = go (eqb (dirty c (slot_of l i)) 1)
    where
      go : (t : Bool) → length (cond t (node_cell h l (owner c (slot_of l i) - 1) (content c (slot_of l i)) ∷ []) []) ≤ 1
      go true = le_refl 1
      go false = zero-le

  evicted-clean : dirty c (slot_of l i) ≡ 0 → length (evicted h c l (slot_of l i)) ≡ 0
  unfolding evicted
  evicted-clean e = rw (ne_eqb (dirty c (slot_of l i)) 1 (λ q. omega arith))

  -- where it is missing
  abbrev y : List Cell
  y = evicted h c l (slot_of l i) ++ (shadow_cell h (slot_of l i) (suc i) ∷ [])

  y-length : length y ≡ length (evicted h c l (slot_of l i)) + 1
  y-length = length-append (evicted h c l (slot_of l i)) (shadow_cell h (slot_of l i) (suc i) ∷ [])

  node-sound : Each (Sound h) (node_cells h c l i)
  unfolding node_cells
  node-sound = go (holds c l i)
    where
      go : (t : Bool) → Each (Sound h) (cond t [] y)
      go true = none
      go false = each_append evicted-sound (more (sound-shadow h (slot_of l i) (suc i) in-slots) none)

  node-few : length (node_cells h c l i) ≤ 2
  unfolding node_cells
  node-few = go (holds c l i)
    where
      go : (t : Bool) → length (cond t [] y) ≤ 2
      go true = zero-le
      go false = omega (arith, y-length, evicted-few)

  node-lean : dirty c (slot_of l i) ≡ 0 → length (node_cells h c l i) ≤ 1
  unfolding node_cells
  node-lean e = go (holds c l i)
    where
      go : (t : Bool) → length (cond t [] y) ≤ 1
      go true = zero-le
      go false = omega (arith, y-length, evicted-clean e)

-- ---- the cells of a path

module _ (h : ℕ) (c : List ℕ) (fit : Fit h c) (p : ℕ) (page : p < pages h) where
  pub cells-sound : (n : ℕ) → n ≤ suc h → Each (Sound h) (path_cells h c p n)
  unfolding path_cells
  cells-sound zero q = none
  cells-sound (suc l) q = each_append (node-sound h c fit l (on_path p l) (omega arith)) (cells-sound l (omega arith))

  cells-few : (n : ℕ) → n ≤ suc h → length (path_cells h c p n) ≤ 2 * n
  unfolding path_cells
  cells-few zero q = zero-le
  cells-few (suc l) q =
      omega (
        arith,
        length-append (node_cells h c l (on_path p l)) (path_cells h c p l),
        node-few h c fit l (on_path p l) (omega arith),
        cells-few l (omega arith),
      )

  -- where no slot is dirty
  cells-lean : ((k j : ℕ) → k ≤ h → dirty c (slot_of k j) ≡ 0) → (n : ℕ) → n ≤ suc h → length (path_cells h c p n) ≤ n
  unfolding path_cells
  cells-lean idle zero q = zero-le
  cells-lean idle (suc l) q =
      omega (
        arith,
        length-append (node_cells h c l (on_path p l)) (path_cells h c p l),
        node-lean h c fit l (on_path p l) (omega arith) (idle l (on_path p l) (omega arith)),
        cells-lean idle l (omega arith),
      )

  top-node : on_path p h ≡ 0
  unfolding pages
  top-node = div-eq_of_lt page

  -- a filled top's slot holds the top
  top-holds : (o : ℕ) → owner c (top_slot h) ≡ suc o → holds c h (on_path p h) ≡ true
  top-holds o e =
      ap (holds c h) top-node ∙ top-cached h c (top_slot h) o fit.formed (slot-within h h 0 (le_refl h)) e

  top-free : (o : ℕ) → owner c (top_slot h) ≡ suc o → path_cells h c p (suc h) ≡ path_cells h c p h
  unfolding path_cells node_cells
  top-free o e = rw (top-holds o e)

  -- at most 2h cells: where the top is missing nothing is dirty
  pub path-few : 1 ≤ h → length (path_cells h c p (suc h)) ≤ 2 * h
  path-few low = go (owner c (top_slot h)) refl
    where
      go : (o : ℕ) → owner c (top_slot h) ≡ o → length (path_cells h c p (suc h)) ≤ 2 * h
      go zero e =
          let idle : (k j : ℕ) → k ≤ h → dirty c (slot_of k j) ≡ 0 =
          λ k j q. let w = slot-within h k j q in fit.formed.clean (slot_of k j) w (fit.formed.owners.top e (slot_of k j) w) in
          omega (arith, cells-lean idle (suc h) (le_refl (suc h)))
      go (suc o) e = omega (arith, cells-few h (omega arith), ap length (top-free o e))

-- ---- the cache with a node, and with a path

module _ (h : ℕ) (high : h ≤ 3) (a : List ℕ) (whole : length a ≡ array_length h) (plain : Below 256 a) where
  module _ (c : List ℕ) (fit : Fit h c) (l i : ℕ) (lh : l ≤ h) (within : i < nodes h l) (top : owner c (top_slot h) ≡ 0 → l ≡ h) where
    in_map_lem : InMap h (node l i)
    unfolding InMap
    in_map_lem = (lh, within)

    abbrev b : List ℕ
    b = cell_content a (cell_of h (node l i))

    b-length : length b ≡ 64
    b-length = cell-length h a (node l i) whole in_map_lem

    small : suc i < 2 ^ 64
    small = omega (arith, level-shadow h l i lh within, shadow-cells h, cells-small h high)

    at_top : owner c (top_slot h) ≡ 0 → slot_of l i ≡ top_slot h
    at_top e =
        let one : i < 1 = subst (λ (k : ℕ). i < k) (nodes-top h) (subst (λ (k : ℕ). i < nodes h k) (top e) within) in
        let first : i ≡ 0 = omega arith in
        ap₂ slot_of (top e) first

    pub slot-fit : Fit h (with_slot c (slot_of l i) (suc i) 0 b)
    slot-fit =
        record {
          sized = length-with h c fit.sized (slot_of l i) (slot-within h l i lh) (suc i) 0 b b-length ∙ fit.sized;
          formed = formed-with h c fit.sized (slot_of l i) (slot-within h l i lh) i 0 b b-length small
              (node-belongs h l i within) zero-le at_top fit.formed;
          bytes = below-with h c fit.sized (slot_of l i) (slot-within h l i lh) (suc i) 0 b b-length (lit< tt)
              (cell_below a (cell_of h (node l i)) plain) fit.bytes;
        }

    slot-owner : owner (with_slot c (slot_of l i) (suc i) 0 b) (top_slot h) ≡ 0 → ⊥
    slot-owner e = go (ℕ_discrete (top_slot h) (slot_of l i))
      where
        same : owner (with_slot c (slot_of l i) (suc i) 0 b) (slot_of l i) ≡ suc i
        same = owner-same h c fit.sized (slot_of l i) (slot-within h l i lh) (suc i) 0 b b-length small

        go : Dec (top_slot h ≡ slot_of l i) → ⊥
        go (yes q) = omega (arith, sym (ap (owner (with_slot c (slot_of l i) (suc i) 0 b)) q) ∙ e, same)
        go (no q) =
            q (sym (at_top (sym (owner-other h c fit.sized (slot_of l i) (slot-within h l i lh) (suc i) 0 b b-length (top_slot h) q) ∙ e)))

    -- it stays fit, and the top's slot is filled then
    node-fit : Fit h (with_node h a c l i) × (owner (with_node h a c l i) (top_slot h) ≡ 0 → ⊥)
    unfolding with_node
    node-fit = go (holds c l i) refl
      where
        go : (t : Bool) → holds c l i ≡ t
            → Fit h (cond t c (with_slot c (slot_of l i) (suc i) 0 b))
            × (owner (cond t c (with_slot c (slot_of l i) (suc i) 0 b)) (top_slot h) ≡ 0 → ⊥)
        go true e = (fit, λ z. omega (arith, ap (owner c) (at_top z), z, holds-owner c l i e))
        go false e = (slot-fit, slot-owner)

  module _ (p : ℕ) (page : p < pages h) where
    pub path-fit : (n : ℕ) (c : List ℕ) → n ≤ suc h → Fit h c → (owner c (top_slot h) ≡ 0 → n ≡ suc h) → Fit h (with_path h a p n c)
    unfolding with_path
    path-fit zero c q fit top = fit
    path-fit (suc l) c q fit top =
        let one = node-fit c fit l (on_path p l) (omega arith) (path-within h p l page (omega arith)) (λ e. suc_inj (top e)) in
        path-fit l (with_node h a c l (on_path p l)) (omega arith) one.0 (λ e. absurd (one.1 e))

-- ---- the whole path

pub record Loads (h : ℕ) (d : List ℕ) (y : List Cell) : Type 0 where
  pub fit : Fit h d
  pub sound : Each (Sound h) y
  pub few : length y ≤ 2 * h

unfoldable pub LoadsIf : ℕ → Loaded → Type 0
LoadsIf h (differs k j) = Unit {0}
LoadsIf h (loaded d y) = Loads h d y

module _ (h : ℕ) (low : 1 ≤ h) (high : h ≤ 3) (keys a : List ℕ) (whole : length a ≡ array_length h) (plain : Below 256 a) (p : ℕ)
    (page : p < pages h) where
  pub path-loads : (r : ℕ) (c : List ℕ) → Fit h c → LoadsIf h (load_path h keys a r p c)
  unfolding LoadsIf
  path-loads r c fit = rw (load-path h high keys a whole r p page c fit.sized) (go (first_wrong h keys a c r p (suc h)))
    where
      go : (o : Option ℕ) → LoadsIf h (outcome p o (with_path h a p (suc h) c) (path_cells h c p (suc h)))
      go nothing =
          record {
            fit = path-fit h high a whole plain p page (suc h) c (le_refl (suc h)) fit (λ e. refl);
            sound = cells-sound h c fit p page (suc h) (le_refl (suc h));
            few = path-few h c fit p page low;
          }
      go (some l) = tt

-- ---- a path that the cache has, and one of which it lacks nodes

module _ (h : ℕ) (a c : List ℕ) (p : ℕ) where
  level-held : (l : ℕ) → holds c l (on_path p l) ≡ true
      → (path_cells h c p (suc l) ≡ path_cells h c p l) × (with_path h a p (suc l) c ≡ with_path h a p l c)
  unfolding path_cells node_cells with_path with_node
  level-held l e = (rw e, rw e)

  pub none-missing : (n : ℕ) → missing c p n ≡ 0 → (path_cells h c p n ≡ []) × (with_path h a p n c ≡ c)
  unfolding missing path_cells with_path
  none-missing zero e = (refl, refl)
  none-missing (suc l) e = go (holds c l (on_path p l)) refl e (none-missing l)
    where
      go : (t : Bool) → holds c l (on_path p l) ≡ t → cond t 0 1 + missing c p l ≡ 0
          → (missing c p l ≡ 0 → (path_cells h c p l ≡ []) × (with_path h a p l c ≡ c))
          → (path_cells h c p (suc l) ≡ []) × (with_path h a p (suc l) c ≡ c)
      go true f g ih = let r = ih (omega arith) in ((level-held l f).0 ∙ r.0, (level-held l f).1 ∙ r.1)
      go false f g ih = absurd (omega arith)

  level-missing : (l : ℕ) → holds c l (on_path p l) ≡ false → 0 < length (path_cells h c p (suc l))
  unfolding path_cells node_cells
  level-missing l e =
      let i = on_path p l in
      let x = evicted h c l (slot_of l i) in
      let s = shadow_cell h (slot_of l i) (suc i) ∷ [] in
      rw e (omega (arith, length-append (x ++ s) (path_cells h c p l), length-append x s))

  pub some-missing : (n : ℕ) → (missing c p n ≡ 0 → ⊥) → 0 < length (path_cells h c p n)
  unfolding missing
  some-missing zero e = absurd (e refl)
  some-missing (suc l) e = go (holds c l (on_path p l)) refl e (some-missing l)
    where
      go : (t : Bool) → holds c l (on_path p l) ≡ t → (cond t 0 1 + missing c p l ≡ 0 → ⊥)
          → ((missing c p l ≡ 0 → ⊥) → 0 < length (path_cells h c p l)) → 0 < length (path_cells h c p (suc l))
      go true f g ih = rw (level-held l f).0 (ih (λ z. g (omega arith)))
      go false f g ih = level-missing l f
