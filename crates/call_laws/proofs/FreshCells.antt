-- The cells of a formatted array: no data, the fresh tree of no turns and no writes, and an empty shadow. Assumes nothing.
use mathlib.Core.Path.{◌≡◌, refl, sym, ap, ap₂, ◌∙◌}
use mathlib.Core.Logic.{◌⊎◌, inl, inr}
use mathlib.Core.List.{List, ◌∷◌, ◌++◌}
use Prim.Native.Nat.{ℕ, zero, suc, ◌+◌, ◌*◌, ◌≤◌, ◌<◌}
use native.Mathlib.Nat.{add-zero}
use native.Mathlib.Omega.{arith}
use lib.ListN.{length, replicate, take, drop, length-append, length-replicate, replicate-append-replicate}
use lib.Seq.{take_all, take_at, take-take, take-append-add, drop-append-add}
use Rattle.words.specs.Bytes.{part}
use Rattle.words.proofs.Order.{eq-or-not}
use Rattle.words.proofs.Parts.{part-first, part-past}
use Rattle.memory_map.specs.Map.{lines, nodes, level_start, shadow_cells, cell_of}
use Rattle.memory_map.specs.Map.Item.{node}
use Rattle.counter.specs.Counter.{counter_block}
use Rattle.counter.proofs.Laws.{counter_block-zero}
use Rattle.cache.specs.Cache.{cell_content}
use Rattle.calls.specs.Format.{counts_from, fresh_node, node_cells, level_cells, fresh_array}
use Rattle.call_laws.proofs.Fresh.{fresh-length, node-cells-length}

-- no turns of a page, no writes of a line
abbrev pub none : ℕ → ℕ
none n = 0

module _ (keys : List ℕ) where
  -- a node's cell, with its side bytes
  abbrev pub fresh_cell : ℕ → ℕ → List ℕ
  fresh_cell l i = fresh_node keys none none l i ++ replicate 8 0

  cell-length : (l i : ℕ) → length (fresh_cell l i) ≡ 72
  cell-length l i =
      let b = fresh_node keys none none l i in
      omega (arith, length-append b (replicate 8 0), fresh-length keys none none l i, length-replicate {A = ℕ} 8 0)

  cells_at : (l i n k : ℕ) → k < n → part (node_cells keys l i n) (72 * k) 72 ≡ fresh_cell l (i + k)
  unfolding node_cells
  cells_at l i zero k p = absurd (omega arith)
  cells_at l i (suc n) zero p =
      let size = cell-length l i in
      let here : i ≡ i + 0 = omega arith in
      part-first (fresh_cell l i) (node_cells keys l (suc i) n) 0 72 (omega arith) ∙ take_all 72 (fresh_cell l i) (omega arith)
      ∙ ap (fresh_cell l) here
  cells_at l i (suc n) (suc k) p =
      let at : 72 * suc k ≡ length (fresh_cell l i) + 72 * k = omega (arith, cell-length l i) in
      let next : suc i + k ≡ i + suc k = omega arith in
      ap (λ (j : ℕ). part (fresh_cell l i ++ node_cells keys l (suc i) n) j 72) at
      ∙ part-past (fresh_cell l i) (node_cells keys l (suc i) n) (72 * k) 72
      ∙ cells_at l (suc i) n k (omega arith) ∙ ap (fresh_cell l) next

  -- counter blocks of no writes
  counts_zero : (n k : ℕ) → counts_from none n k ≡ replicate k 0
  unfolding counts_from
  counts_zero n zero = refl
  counts_zero n (suc k) = ap (λ (r : List ℕ). 0 ∷ r) (counts_zero (suc n) k)

  blocks-zero : (i n : ℕ) → node_cells keys 0 i n ≡ replicate (72 * n) 0
  unfolding node_cells fresh_node
  blocks-zero i zero = refl
  blocks-zero i (suc n) =
      let whole : 72 + 72 * n ≡ 72 * suc n = omega arith in
      ap₂ {C = List ℕ} (λ (b r : List ℕ). b ++ replicate 8 0 ++ r) (ap (counter_block 0) (counts_zero (64 * i) 64) ∙ counter_block-zero)
      (blocks-zero (suc i) n)
      ∙ replicate-append-replicate 72 (72 * n) 0 ∙ ap (λ (k : ℕ). replicate k 0) whole

module _ (keys : List ℕ) (h : ℕ) where
  abbrev level : ℕ → List ℕ
  level l = node_cells keys l 0 (nodes h l)

  abbrev lead : List ℕ
  lead = replicate (72 * lines h) 0

  -- what follows the levels below l
  past : (l k : ℕ) (rest : List ℕ) → drop (72 * level_start h l + k) (lead ++ level_cells keys h l rest) ≡ drop k rest
  unfolding level_cells level_start
  past zero k rest =
      ap (λ (n : ℕ). drop (n + k) (lead ++ rest)) (sym (length-replicate {A = ℕ} (72 * lines h) 0)) ∙ drop-append-add lead rest k
  past (suc l) k rest =
      let at : 72 * (level_start h l + nodes h l) + k ≡ 72 * level_start h l + (length (level l) + k) =
      omega (arith, node-cells-length keys l 0 (nodes h l)) in
      ap (λ (n : ℕ). drop n (lead ++ level_cells keys h l (level l ++ rest))) at
      ∙ past l (length (level l) + k) (level l ++ rest) ∙ drop-append-add (level l) rest k

  cell-of : (n l i : ℕ) (rest : List ℕ) → l < n → i < nodes h l
      → part (lead ++ level_cells keys h n rest) (72 * (level_start h l + i)) 72 ≡ fresh_cell keys l i
  unfolding level_cells
  cell-of zero l i rest p q = absurd (omega arith)
  cell-of (suc n) l i rest p q = go (λ z. cell-of n l i (level n ++ rest) z q) (eq-or-not l n)
    where
      go : (l < n → part (lead ++ level_cells keys h n (level n ++ rest)) (72 * (level_start h l + i)) 72 ≡ fresh_cell keys l i)
          → (l ≡ n) ⊎ (l ≡ n → ⊥) → part (lead ++ level_cells keys h n (level n ++ rest)) (72 * (level_start h l + i)) 72 ≡ fresh_cell keys l i
      go lower (inl e) =
          let at : 72 * (level_start h l + i) ≡ 72 * level_start h l + 72 * i = omega arith in
          let here : 0 + i ≡ i = omega arith in
          ap₂ {C = List ℕ} (λ (k j : ℕ). part (lead ++ level_cells keys h k (level k ++ rest)) j 72) (sym e) at
          ∙ ap (take 72) (past l (72 * i) (level l ++ rest))
          ∙ part-first (level l) rest (72 * i) 72 (omega (arith, node-cells-length keys l 0 (nodes h l)))
          ∙ cells_at keys l 0 (nodes h l) i q ∙ ap (fresh_cell keys l) here
      go lower (inr e) = lower (omega (arith, e))

  -- the cell of a node, and its content
  pub cell-stored : (l i : ℕ) → l ≤ h → i < nodes h l → part (fresh_array keys h) (72 * (level_start h l + i)) 72 ≡ fresh_cell keys l i
  unfolding fresh_array
  cell-stored l i p q = cell-of (suc h) l i (replicate (72 * shadow_cells h) 0) (omega arith) q

  pub node-stored : (l i : ℕ) → l ≤ h → i < nodes h l → cell_content (fresh_array keys h) (cell_of h (node l i)) ≡ fresh_node keys none none l i
  unfolding cell_content cell_of
  node-stored l i p q =
      sym (take-take 64 72 (drop (72 * (level_start h l + i)) (fresh_array keys h)) (omega arith)) ∙ ap (take 64) (cell-stored l i p q)
      ∙ take_at (fresh_node keys none none l i) (replicate 8 0) 64 (fresh-length keys none none l i)

  -- what lies before the tree, and behind it
  pub lines-zero : take (72 * lines h) (fresh_array keys h) ≡ replicate (72 * lines h) 0
  unfolding fresh_array
  lines-zero = take_at lead _ (72 * lines h) (length-replicate (72 * lines h) 0)

  pub shadows-zero : drop (72 * level_start h (suc h)) (fresh_array keys h) ≡ replicate (72 * shadow_cells h) 0
  unfolding fresh_array
  shadows-zero = rw (← add-zero (72 * level_start h (suc h))) (past (suc h) 0 (replicate (72 * shadow_cells h) 0))

  -- the counter blocks are zeros too
  first-level : (n : ℕ) (rest : List ℕ) → take (72 * nodes h 0) (level_cells keys h (suc n) rest) ≡ level 0
  unfolding level_cells
  first-level zero rest = take_at (level 0) rest (72 * nodes h 0) (node-cells-length keys 0 0 (nodes h 0))
  first-level (suc n) rest = first-level n (level (suc n) ++ rest)

  pub front-zero : take (72 * level_start h 1) (fresh_array keys h) ≡ replicate (72 * level_start h 1) 0
  unfolding fresh_array level_start
  front-zero =
      let tree = level_cells keys h (suc h) (replicate (72 * shadow_cells h) 0) in
      let front : 72 * (lines h + nodes h 0) ≡ length lead + 72 * nodes h 0 = omega (arith, length-replicate {A = ℕ} (72 * lines h) 0) in
      let both : 72 * lines h + 72 * nodes h 0 ≡ 72 * (lines h + nodes h 0) = omega arith in
      ap (λ (n : ℕ). take n (lead ++ tree)) front ∙ take-append-add lead tree (72 * nodes h 0)
      ∙ ap (λ (s : List ℕ). lead ++ s) (first-level h (replicate (72 * shadow_cells h) 0) ∙ blocks-zero keys 0 (nodes h 0))
      ∙ replicate-append-replicate (72 * lines h) (72 * nodes h 0) 0 ∙ ap (λ (n : ℕ). replicate n 0) both
