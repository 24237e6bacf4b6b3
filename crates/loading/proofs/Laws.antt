-- The turns of the loops that stage the batch of a path and load it, level by level from the top. Assumes nothing.
use mathlib.Core.Path.{◌≡◌, refl, sym, ap, ap₂, ◌∙◌}
use mathlib.Core.Bool.{true, false}
use mathlib.Core.List.{List, [], ◌∷◌, ◌++◌}
use Prim.Native.Nat.{ℕ, suc, ◌+◌, ◌-◌, ◌≤◌, ◌<◌}
use native.Mathlib.Numerals.{add-one}
use native.Mathlib.Omega.{arith}
use borrow.Author.Tests.{eq-eqb, ne_eqb}
use lib.ListN.{length, length-append}
use Rattle.words.specs.Bytes.{digits}
use Rattle.memory_map.specs.Map.{on_path, cell_of}
use Rattle.memory_map.specs.Map.Item.{node, shadow}
use Rattle.slot_map.specs.Slots.{slot_of}
use Rattle.control.specs.Control.{Cell}
use Rattle.cache.specs.Cache.{owner, dirty, content, with_slot, cell_content, holds}
use Rattle.calls.specs.Path.{node_cell, shadow_cell, evicted}
use Rattle.batch.specs.Batch.{cell_with, shadow_for, staged, staged_from}
use Rattle.batch.proofs.Laws.{staged-append}
use Rattle.call_laws.specs.Walk.{node_cells, path_cells, with_node, with_path}

-- ---- gathering

module _ (h : ℕ) (c : List ℕ) (l i : ℕ) (lacks : holds c l i ≡ false) where
  node-clean : (dirty c (slot_of l i) ≡ 1 → ⊥) → node_cells h c l i ≡ shadow_cell h (slot_of l i) (suc i) ∷ []
  unfolding node_cells evicted
  node-clean e = rw (lacks, ne_eqb (dirty c (slot_of l i)) 1 e)

  node-dirty : dirty c (slot_of l i) ≡ 1
      → node_cells h c l i ≡ node_cell h l (owner c (slot_of l i) - 1) (content c (slot_of l i)) ∷ shadow_cell h (slot_of l i) (suc i) ∷ []
  unfolding node_cells evicted
  node-dirty e = rw (lacks, eq-eqb (dirty c (slot_of l i)) 1 e)

  shadow-is : (s x o : ℕ) → s ≡ slot_of l i → x ≡ cell_of h (shadow s) → o ≡ i + 1 → shadow_for x o ≡ shadow_cell h (slot_of l i) (suc i)
  shadow-is s x o e f g = ap₂ {C = Cell} shadow_for (f ∙ ap (λ (t : ℕ). cell_of h (shadow t)) e) (g ∙ add-one i)

  cell-is : (x j : ℕ) (b : List ℕ) → x ≡ cell_of h (node l j) → cell_with x b 0 ≡ node_cell h l j b
  unfolding digits
  cell-is x j b e = ap (λ (y : ℕ). cell_with y b 0) e

  -- it has cells, dirty or not
  pub cells-some : 1 ≤ length (node_cells h c l i)
  unfolding node_cells
  cells-some = rw lacks (omega (arith, length-append (evicted h c l (slot_of l i)) (shadow_cell h (slot_of l i) (suc i) ∷ [])))

  pub cells-dirty : (s : ℕ) → s ≡ slot_of l i → dirty c s ≡ 1 → length (node_cells h c l i) ≡ 2
  cells-dirty s e d = ap length (node-dirty (ap (dirty c) (sym e) ∙ d))

  -- what a node adds to n staged cells
  pub record Gathered (allowance : ℕ) (before after : List ℕ) (n m : ℕ) : Type 0 where
    pub cells : after ≡ staged_from allowance n (node_cells h c l i) before
    pub number : m ≡ n + length (node_cells h c l i)

  module _ (allowance : ℕ) (before : List ℕ) (n s : ℕ) (slot : s ≡ slot_of l i) where
    pub gathered-clean : (dirty c s ≡ 1 → ⊥) → (after : List ℕ) (x : ℕ) → x ≡ cell_of h (shadow s)
        → after ≡ staged allowance n (shadow_for x (i + 1)) before → Gathered allowance before after n (n + 1)
    unfolding staged_from
    gathered-clean e after x f g =
        let is = node-clean (λ q. e (ap (dirty c) slot ∙ q)) in
        record {
          cells =
              g ∙ ap (λ (z : Cell). staged allowance n z before) (shadow-is s x (i + 1) slot f refl)
              ∙ ap (λ (z : List Cell). staged_from allowance n z before) (sym is);
          number = sym (ap (λ (z : List Cell). n + length z) is);
        }

    pub gathered-dirty : dirty c s ≡ 1 → (middle after : List ℕ) (o x y : ℕ) (b : List ℕ) → o ≡ owner c s → b ≡ content c s
        → x ≡ cell_of h (node l (o - 1)) → y ≡ cell_of h (shadow s) → middle ≡ staged allowance n (cell_with x b 0) before
        → after ≡ staged allowance (n + 1) (shadow_for y (i + 1)) middle → Gathered allowance before after n (n + 2)
    unfolding staged_from
    gathered-dirty e middle after o x y b f q u v g k =
        let is = node-dirty (ap (dirty c) (sym slot) ∙ e) in
        let first : cell_with x b 0 ≡ node_cell h l (owner c (slot_of l i) - 1) (content c (slot_of l i)) =
        cell-is x (o - 1) b u ∙ ap₂ {C = Cell} (λ (j : ℕ) (z : List ℕ). node_cell h l (j - 1) z) (f ∙ ap (owner c) slot)
        (q ∙ ap (content c) slot) in
        record {
          cells =
              k ∙ ap (λ (t : ℕ). staged allowance t (shadow_for y (i + 1)) middle) (add-one n)
              ∙ ap₂ {C = List ℕ} (λ (z : Cell) (w : List ℕ). staged allowance (suc n) z w) (shadow-is s y (i + 1) slot v refl)
              (g ∙ ap (λ (z : Cell). staged allowance n z before) first)
              ∙ ap (λ (z : List Cell). staged_from allowance n z before) (sym is);
          number = sym (ap (λ (z : List Cell). n + length z) is);
        }

-- m cells are staged, and those of the n lowest levels are left
pub record Gathering (h : ℕ) (c : List ℕ) (p allowance : ℕ) (before now : List ℕ) (m n : ℕ) : Type 0 where
  pub levels : n ≤ suc h
  pub cells : staged_from allowance m (path_cells h c p n) now ≡ staged_from allowance 0 (path_cells h c p (suc h)) before
  pub number : m + length (path_cells h c p n) ≡ length (path_cells h c p (suc h))

module _ (h : ℕ) (c : List ℕ) (p allowance : ℕ) (before : List ℕ) where
  pub gathering-none : Gathering h c p allowance before before 0 (h + 1)
  gathering-none =
      record {
        levels = omega arith;
        cells = ap (λ (n : ℕ). staged_from allowance 0 (path_cells h c p n) before) (add-one h);
        number = ap (λ (n : ℕ). 0 + length (path_cells h c p n)) (add-one h) ∙ omega arith;
      }

  module _ {now : List ℕ} {m n : ℕ} (g : Gathering h c p allowance before now m n) (some_left : 0 < n) where
    one_more : suc (n - 1) ≡ n
    one_more = omega arith

    next-cells : staged_from allowance m (node_cells h c (n - 1) (on_path p (n - 1)) ++ path_cells h c p (n - 1)) now
        ≡ staged_from allowance 0 (path_cells h c p (suc h)) before
    unfolding path_cells
    next-cells = ap (λ (j : ℕ). staged_from allowance m (path_cells h c p j) now) one_more ∙ g.cells

    next-number : m + length (node_cells h c (n - 1) (on_path p (n - 1))) + length (path_cells h c p (n - 1))
        ≡ length (path_cells h c p (suc h))
    unfolding path_cells
    next-number =
        omega (
          arith,
          length-append (node_cells h c (n - 1) (on_path p (n - 1))) (path_cells h c p (n - 1)),
          ap (λ (j : ℕ). length (path_cells h c p j)) one_more,
          g.number,
        )

    -- room for the cells of level n - 1
    pub gathering-room : length (path_cells h c p (suc h)) ≤ 8 → m + length (node_cells h c (n - 1) (on_path p (n - 1))) ≤ 8
    gathering-room q = omega (arith, next-number)

    pub gathering-held : holds c (n - 1) (on_path p (n - 1)) ≡ true → Gathering h c p allowance before now m (n - 1)
    unfolding node_cells
    gathering-held e =
        record { levels = omega (arith, g.levels); cells = rw e at next-cells; number = omega (arith, rw e at next-number) }

    pub gathering-more : (after : List ℕ) (k i : ℕ) → i ≡ on_path p (n - 1) → after ≡ staged_from allowance m (node_cells h c (n - 1) i) now
        → k ≡ m + length (node_cells h c (n - 1) i) → Gathering h c p allowance before after k (n - 1)
    gathering-more after k i e f q =
        let x = node_cells h c (n - 1) (on_path p (n - 1)) in
        let many : k ≡ m + length x = q ∙ ap (λ (j : ℕ). m + length (node_cells h c (n - 1) j)) e in
        record {
          levels = omega (arith, g.levels);
          cells =
              ap₂ {C = List ℕ} (λ (t : ℕ) (z : List ℕ). staged_from allowance t (path_cells h c p (n - 1)) z) many
              (f ∙ ap (λ (j : ℕ). staged_from allowance m (node_cells h c (n - 1) j) now) e)
              ∙ sym (staged-append allowance m x (path_cells h c p (n - 1)) now) ∙ next-cells;
          number = ap (λ (t : ℕ). t + length (path_cells h c p (n - 1))) many ∙ next-number;
        }

  pub gathering-all : {now : List ℕ} {m n : ℕ} → Gathering h c p allowance before now m n → n ≡ 0
      → (now ≡ staged_from allowance 0 (path_cells h c p (suc h)) before) × (m ≡ length (path_cells h c p (suc h)))
  unfolding path_cells staged_from
  gathering-all {now} {m} g e = (
    ap (λ (j : ℕ). staged_from allowance m (path_cells h c p j) now) (sym e) ∙ g.cells,
    omega (arith, ap (λ (j : ℕ). length (path_cells h c p j)) e, g.number),
  )

-- ---- loading

-- the levels above the n lowest are loaded
pub record Loading (h : ℕ) (a : List ℕ) (p : ℕ) (c₀ c : List ℕ) (n : ℕ) : Type 0 where
  pub levels : n ≤ suc h
  pub slots : with_path h a p n c ≡ with_path h a p (suc h) c₀
  pub size : length c ≡ length c₀

module _ (h : ℕ) (a : List ℕ) (p : ℕ) (c₀ : List ℕ) where
  pub loading-none : Loading h a p c₀ c₀ (h + 1)
  loading-none = record { levels = omega arith; slots = ap (λ (n : ℕ). with_path h a p n c₀) (add-one h); size = refl }

  module _ {c : List ℕ} {n : ℕ} (w : Loading h a p c₀ c n) (some_left : 0 < n) where
    next-slots : with_path h a p (n - 1) (with_node h a c (n - 1) (on_path p (n - 1))) ≡ with_path h a p (suc h) c₀
    unfolding with_path
    next-slots = let top : suc (n - 1) ≡ n = omega arith in ap (λ (j : ℕ). with_path h a p j c) top ∙ w.slots

    pub loading-held : holds c (n - 1) (on_path p (n - 1)) ≡ true → Loading h a p c₀ c (n - 1)
    unfolding with_node
    loading-held e = record { levels = omega (arith, w.levels); slots = rw e at next-slots; size = w.size }

    pub loading-more : holds c (n - 1) (on_path p (n - 1)) ≡ false → (after : List ℕ) (i s x : ℕ) (b : List ℕ) → i ≡ on_path p (n - 1)
        → s ≡ slot_of (n - 1) i → x ≡ cell_of h (node (n - 1) i) → b ≡ cell_content a x → after ≡ with_slot c s (i + 1) 0 b → length after
        ≡ length c
        → Loading h a p c₀ after (n - 1)
    unfolding with_node
    loading-more e after i s x b f g q u v z =
        let j = on_path p (n - 1) in
        let o : i + 1 ≡ suc j = add-one i ∙ ap suc f in
        let into : after ≡ with_slot c (slot_of (n - 1) j) (suc j) 0 (cell_content a (cell_of h (node (n - 1) j))) =
        v ∙ ap₂ {C = List ℕ} (λ (t : ℕ) (y : ℕ). with_slot c t y 0 b) (g ∙ ap (slot_of (n - 1)) f) o
        ∙ ap (with_slot c (slot_of (n - 1) j) (suc j) 0) (u ∙ ap (cell_content a) (q ∙ ap (λ (k : ℕ). cell_of h (node (n - 1) k)) f)) in
        record {
          levels = omega (arith, w.levels);
          slots = ap (with_path h a p (n - 1)) into ∙ (rw e at next-slots);
          size = z ∙ w.size;
        }

  pub loading-all : {c : List ℕ} {n : ℕ} → Loading h a p c₀ c n → n ≡ 0 → c ≡ with_path h a p (suc h) c₀
  unfolding with_path
  loading-all {c} w e = ap (λ (j : ℕ). with_path h a p j c) (sym e) ∙ w.slots
