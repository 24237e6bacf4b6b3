-- The batch of a path names no data cell, and none of the nodes that it loads: they are in the array after the stores as before.
-- Assumes nothing.
use mathlib.Core.Path.{◌≡◌, refl, sym, ap, ◌∙◌}
use mathlib.Core.Bool.{Bool, true, false, cond, false≢true}
use mathlib.Core.List.{List, [], ◌∷◌, ◌++◌}
use Prim.Native.Nat.{ℕ, zero, suc, ◌-◌, ◌*◌, ◌/◌, ◌≤◌, ◌<◌}
use native.Mathlib.Nat.{le_refl}
use native.Mathlib.Omega.{arith}
use borrow.Author.Tests.{eqb-true}
use lib.Dec.{eqb, lit≤}
use lib.ListN.{length, take, drop}
use lib.Seq.{take-take}
use Rattle.words.specs.Bytes.{part}
use Rattle.words.proofs.Digits.{Below}
use Rattle.memory_map.specs.Map.{pages, lines, cells, array_length, cell_of, InMap, Item, on_path}
use Rattle.memory_map.specs.Map.Item.{line, node, shadow}
use Rattle.memory_map.proofs.Laws.{cell-injective, path-node}
use Rattle.slot_map.specs.Slots.{slot_of}
use Rattle.slot_map.proofs.Laws.{slot-within}
use Rattle.control.specs.Control.{Cell, control_length}
use Rattle.cache.specs.Cache.{owner, dirty, content, cell_content, holds}
use Rattle.cache.proofs.Laws.{Formed, dirty-owner, owner-holds}
use Rattle.journal.specs.Journal.{Store, Media, media, store_all, made, batch_stores}
use Rattle.journal.proofs.Each.{Each, none, more, each_append, each_take}
use Rattle.journal.proofs.Kept.{Within, Avoids, within-batch, avoids-batch, stores_apart, made_kept, Formed as Media-as-Formed}
use Rattle.calls.specs.Path.{node_cell, shadow_cell, evicted}
use Rattle.call_laws.specs.Walk.{node_cells, path_cells, with_path}
use Rattle.call_laws.proofs.Loads.{Sound, Fit, cells-sound, path-few}
use Rattle.call_laws.proofs.Loading.{path-same}
use Rattle.call_laws.proofs.Kept.{wholes, in_map_lem, array-cells}

-- a cell that is not the one of an item
abbrev pub Other : ℕ → Item → Cell → Type 0
Other h y x = x.number ≡ cell_of h y → ⊥

-- ---- an item that no cell of the path is

module _ (h : ℕ) (c : List ℕ) (f : Formed h c) (p : ℕ) (page : p < pages h) (y : Item) (there : InMap h y)
    (no-shadow : (s : ℕ) → shadow s ≡ y → ⊥)
    (no-owner : (l : ℕ) → l ≤ h → holds c l (on_path p l) ≡ false → dirty c (slot_of l (on_path p l)) ≡ 1
    → node l (owner c (slot_of l (on_path p l)) - 1) ≡ y → ⊥) where
  other : (x : Item) → InMap h x → (x ≡ y → ⊥) → cell_of h x ≡ cell_of h y → ⊥
  other x m e q = e (cell-injective h x y m there q)

  node-other : (l : ℕ) → l ≤ h → Each (Other h y) (node_cells h c l (on_path p l))
  unfolding node_cells evicted InMap
  node-other l q = go (holds c l i) refl (eqb (dirty c (slot_of l i)) 1) refl
    where
      i : ℕ
      i = on_path p l

      last : Each (Other h y) (shadow_cell h (slot_of l i) (suc i) ∷ [])
      last = more {x = shadow_cell h (slot_of l i) (suc i)} (other (shadow (slot_of l i)) (slot-within h l i q) (no-shadow (slot_of l i))) none

      go : (t : Bool) → holds c l i ≡ t → (u : Bool) → eqb (dirty c (slot_of l i)) 1 ≡ u
          → Each (Other h y) (cond t [] (cond u (node_cell h l (owner c (slot_of l i) - 1) (content c (slot_of l i)) ∷ []) []
          ++ (shadow_cell h (slot_of l i) (suc i) ∷ [])))
      go true e u d = none
      go false e true d =
          let one = eqb-true (dirty c (slot_of l i)) 1 d in
          more {x = node_cell h l (owner c (slot_of l i) - 1) (content c (slot_of l i))}
          (other (node l (owner c (slot_of l i) - 1)) (dirty-owner h c l i f q one).1 (no-owner l q e one)) last
      go false e false d = last

  path-other : (n : ℕ) → n ≤ suc h → Each (Other h y) (path_cells h c p n)
  unfolding path_cells
  path-other zero q = none
  path-other (suc l) q = each_append (node-other l (omega arith)) (path-other l (omega arith))

  pub path-avoids : Each (Other h y) (path_cells h c p (suc h))
  path-avoids = path-other (suc h) (le_refl (suc h))

-- no cell of the path is a node that it loads
module _ (h : ℕ) (c : List ℕ) (f : Formed h c) (p : ℕ) (page : p < pages h) where
  pub line-avoids : (n : ℕ) → n < lines h → Each (Other h (line n)) (path_cells h c p (suc h))
  unfolding InMap
  line-avoids n q =
      path-avoids h c f p page (line n) q (λ s e. let z : ◌≡◌ {A = ℕ} 0 1 = cc in omega arith)
      (λ l _ _ _ e. let z : ◌≡◌ {A = ℕ} 0 1 = cc in omega arith)

  pub node-avoids : (l : ℕ) → l ≤ h → holds c l (on_path p l) ≡ false → Each (Other h (node l (on_path p l))) (path_cells h c p (suc h))
  node-avoids l q e =
      path-avoids h c f p page (node l (on_path p l)) (path-node h p l page q) (λ s z. let w : ◌≡◌ {A = ℕ} 0 1 = cc in omega arith) own
    where
      own : (j : ℕ) → j ≤ h → holds c j (on_path p j) ≡ false → dirty c (slot_of j (on_path p j)) ≡ 1
          → node j (owner c (slot_of j (on_path p j)) - 1) ≡ node l (on_path p l) → ⊥
      own j b g d z =
          let level : j ≡ l = cc in
          let index : owner c (slot_of j (on_path p j)) - 1 ≡ on_path p l = cc in
          let some-owner = (dirty-owner h c j (on_path p j) f b d).0 in
          false≢true (sym g ∙ owner-holds c j (on_path p j) (omega (arith, ap (on_path p) level)))

-- ---- what the stores of a batch leave

front : (s : List ℕ) (n : ℕ) → part s (72 * n) 64 ≡ take 64 (part s (72 * n) 72)
front s n = sym (take-take 64 72 (drop (72 * n) s) (lit≤ tt))

-- any stores, of a cell that they do not name
pub made-content : {size : ℕ} {m : Media} (allowance n : ℕ) {xs : List Store} → Media-as-Formed size m → Each (Within (size / 72)) xs
    → Each (Avoids n) xs → cell_content (store_all m (made allowance xs)).array n ≡ cell_content m.array n
unfolding cell_content
made-content {m = m} allowance n {xs} f w e =
    front (store_all m (made allowance xs)).array n ∙ ap (take 64) (stores_apart n f (each_take allowance w) (each_take allowance e))
    ∙ sym (front m.array n)

module _ (h : ℕ) (high : h ≤ 3) (a k : List ℕ) (whole : length a ≡ array_length h) (control_length : length k ≡ control_length)
    (plain : Below 256 a) (plain-k : Below 256 k) (cs : List Cell) (sound : Each (Sound h) cs) (few : length cs ≤ 8) (allowance r : ℕ) where
  abbrev pub stored : List ℕ
  stored = (store_all (media a k) (made allowance (batch_stores cs r))).array

  formed : Media-as-Formed (length a) (media a k)
  formed = record { array-length = refl; control_length = control_length; array-bytes = plain; control-bytes = plain-k }

  within : Each (Within (length a / 72)) (batch_stores cs r)
  within = rw (array-cells h (length a) whole) (within-batch (cells h) r (wholes h high sound) (in_map_lem h sound) few)

  pub stored-length : length stored ≡ length a
  stored-length = (made_kept allowance formed within).array-length

  pub content-kept : (y : Item) → Each (Other h y) cs → cell_content stored (cell_of h y) ≡ cell_content a (cell_of h y)
  content-kept y e = made-content allowance (cell_of h y) formed within (avoids-batch (cell_of h y) r e)

-- ---- of the path's own batch

module _ (h : ℕ) (low : 1 ≤ h) (high : h ≤ 3) (a k c : List ℕ) (whole : length a ≡ array_length h)
    (control_length : length k ≡ control_length) (plain : Below 256 a) (plain-k : Below 256 k)
    (fit : Fit h c) (p : ℕ) (page : p < pages h) (allowance r : ℕ) where
  abbrev after : List ℕ
  after = (store_all (media a k) (made allowance (batch_stores (path_cells h c p (suc h)) r))).array

  kept : (y : Item) → Each (Other h y) (path_cells h c p (suc h)) → cell_content after (cell_of h y) ≡ cell_content a (cell_of h y)
  kept =
      content-kept h high a k whole control_length plain plain-k (path_cells h c p (suc h))
      (cells-sound h c fit p page (suc h) (le_refl (suc h))) (omega (arith, path-few h c fit p page low)) allowance r

  pub line-content : (n : ℕ) → n < lines h → cell_content after n ≡ cell_content a n
  unfolding cell_of
  line-content n q = kept (line n) (line-avoids h c fit.formed p page n q)

  -- the cache with the path, from the array after the stores
  pub path-kept : with_path h after p (suc h) c ≡ with_path h a p (suc h) c
  path-kept =
      path-same h high [] a whole r p page c fit.sized after
      (λ l q e. kept (node l (on_path p l)) (node-avoids h c fit.formed p page l q e))
