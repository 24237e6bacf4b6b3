-- The array cell by cell: a front of the formatted one, and the tags of a node stored one by one. Assumes nothing.
use mathlib.Core.Path.{◌≡◌, sym, ap, ap₂, ◌∙◌, subst}
use mathlib.Core.List.{List, ◌++◌, append_assoc}
use Prim.Native.Nat.{ℕ, suc, ◌+◌, ◌-◌, ◌*◌, ◌≤◌, ◌<◌}
use native.Mathlib.Numerals.{add-one}
use native.Mathlib.Omega.{arith}
use lib.ListN.{length, take, drop, replicate, length-replicate, replicate-append-replicate, take-append-drop}
use lib.Seq.{length-take-le, take_at, drop_at, take-add, drop-append-add}
use Rattle.words.specs.Bytes.{to_le, part, put}
use Rattle.words.proofs.Digits.{length_digits}
use Rattle.words.proofs.Parts.{part-first, part-part, put-nil, put-append}
use Rattle.words.proofs.Puts.{part-put-before}
use Rattle.memory_map.specs.Map.{nodes, level_start, shadow_start, shadow_cells, cells, array_length, cell_of, InMap}
use Rattle.memory_map.specs.Map.Item.{node}
use Rattle.memory_map.proofs.Laws.{level-next, cell-within, in-map-node, child-node, node-cell}
use Rattle.tag.specs.Tag.{node_tag}
use Rattle.cache.specs.Cache.{cell_content}
use Rattle.calls.specs.Path.{tags_from, child_tags}
use Rattle.calls.specs.Format.{fresh_node, fresh_array}
use Rattle.call_laws.proofs.Fresh.{fresh-length, array-length}
use Rattle.call_laws.proofs.FreshCells.{none, cell-stored, node-stored, front-zero, shadows-zero}
use Rattle.call_laws.proofs.Tags.{tags-length, tags-agree, tags-snoc}
use Rattle.fresh_tree.specs.Front.{Sized, fresh_front}

-- zeros without the first k
drop-zeros : (k m : ℕ) → drop k (replicate {A = ℕ} (k + m) 0) ≡ replicate m 0
drop-zeros k m = ap (drop k) (sym (replicate-append-replicate k m 0)) ∙ drop_at (replicate k 0) (replicate m 0) k (length-replicate k 0)

module _ (keys : List ℕ) (h : ℕ) where
  size : length (fresh_array keys h) ≡ 72 * cells h
  unfolding array_length
  size = array-length keys h

  front-size : (n : ℕ) → n ≤ cells h → length (take (72 * n) (fresh_array keys h)) ≡ 72 * n
  front-size n p = length-take-le (72 * n) (fresh_array keys h) (omega (arith, size))

  -- the content of a cell of the front
  front-content : (n m : ℕ) → n ≤ cells h → m < n → cell_content (fresh_front keys h n) m ≡ cell_content (fresh_array keys h) m
  unfolding cell_content fresh_front
  front-content n m p q =
      let here : 0 + 72 * m ≡ 72 * m = omega arith in
      part-first (take (72 * n) (fresh_array keys h)) (replicate (72 * (cells h - n)) 0) (72 * m) 64 (omega (arith, front-size n p))
      ∙ part-part (fresh_array keys h) 0 (72 * n) (72 * m) 64 (omega arith) ∙ ap (λ (k : ℕ). part (fresh_array keys h) k 64) here

  -- one more cell
  front-next : (n : ℕ) (b : List ℕ) → n < cells h → length b ≡ 64 → part (fresh_array keys h) (72 * n) 72 ≡ b ++ replicate 8 0
      → put (fresh_front keys h n) (72 * n) b ≡ fresh_front keys h (n + 1)
  unfolding fresh_front
  front-next n b p l e =
      let front = take (72 * n) (fresh_array keys h) in
      let rest : List ℕ = replicate (72 * (cells h - (n + 1))) 0 in
      let full = front-size n (omega arith) in
      let room : 72 * (cells h - n) ≡ 64 + (8 + 72 * (cells h - (n + 1))) = omega arith in
      let seam : 72 * n + length b ≡ length front + 64 = omega arith in
      let next : 72 * n + 72 ≡ 72 * (n + 1) = omega arith in
      ap₂ {C = List ℕ} (λ (x y : List ℕ). x ++ (b ++ y))
      (take_at front (replicate (72 * (cells h - n)) 0) (72 * n) full)
      (ap₂ {C = List ℕ} (λ (k m : ℕ). drop k (front ++ replicate m 0)) seam room
      ∙ drop-append-add front (replicate (64 + (8 + 72 * (cells h - (n + 1)))) 0) 64 ∙ drop-zeros 64 (8 + 72 * (cells h - (n + 1)))
      ∙ sym (replicate-append-replicate 8 (72 * (cells h - (n + 1))) 0))
      ∙ ap (λ (x : List ℕ). front ++ x) (sym (append_assoc b (replicate 8 0) rest)) ∙ sym (append_assoc front (b ++ replicate 8 0) rest)
      ∙ ap (λ (x : List ℕ). x ++ rest)
      (ap (λ (x : List ℕ). front ++ x) (sym e) ∙ sym (take-add (72 * n) 72 (fresh_array keys h))
      ∙ ap (λ (k : ℕ). take k (fresh_array keys h)) next)

  -- zeros are a front of the lines and the counter blocks, and all but the shadow is all
  pub front-none : level_start h 1 ≤ cells h → replicate (array_length h) 0 ≡ fresh_front keys h (level_start h 1)
  unfolding fresh_front array_length
  front-none p =
      let n = 72 * level_start h 1 in
      let whole : 72 * cells h ≡ n + 72 * (cells h - level_start h 1) = omega arith in
      ap (λ (k : ℕ). replicate k 0) whole ∙ sym (replicate-append-replicate n (72 * (cells h - level_start h 1)) 0)
      ∙ ap (λ (x : List ℕ). x ++ replicate (72 * (cells h - level_start h 1)) 0) (sym (front-zero keys h))

  pub front-all : fresh_front keys h (level_start h (suc h)) ≡ fresh_array keys h
  unfolding fresh_front cells shadow_start
  front-all =
      let n = level_start h (suc h) in
      let front = take (72 * n) (fresh_array keys h) in
      let rest : n + shadow_cells h - n ≡ shadow_cells h = omega arith in
      ap (λ (k : ℕ). front ++ replicate (72 * k) 0) rest ∙ ap (λ (x : List ℕ). front ++ x) (sym (shadows-zero keys h))
      ∙ take-append-drop (72 * n) (fresh_array keys h)

-- ---- nodes

-- another array of the same length
pub resized : {h : ℕ} {keys a b : List ℕ} → Sized h keys a → length b ≡ array_length h → Sized h keys b
resized s e = record { deep = s.deep; flat = s.flat; keys_length = s.keys_length; array = e }

-- the contents of a level as they lie in an array
abbrev pub lying : ℕ → List ℕ → ℕ → ℕ → List ℕ
lying h a l j = cell_content a (cell_of h (node l j))

-- the tags of the first k children of a node are stored
pub record Tagged (h l i : ℕ) (keys a s : List ℕ) (k : ℕ) : Type 0 where
  pub bytes : s ≡ put a (72 * cell_of h (node (l + 1) i)) (tags_from keys l (lying h a l) (8 * i) k)
  pub full : length s ≡ array_length h

module _ (h l i : ℕ) (m : InMap h (node (l + 1) i)) where
  up : (suc l ≤ h) × (i < nodes h (suc l))
  up = subst (λ (n : ℕ). (n ≤ h) × (i < nodes h n)) (add-one l) (in-map-node h (l + 1) i m)

  -- its children, and those of the nodes before it, lie before it
  child-before : (j : ℕ) → j < 8 * i + 8 → cell_of h (node l j) < cell_of h (node (l + 1) i)
  unfolding cell_of
  child-before j p = omega (arith, (in-map-node h l j (child-node h l i m j p)).1, ap (level_start h) (add-one l), level-next h l)

  module _ (keys a : List ℕ) (size : length a ≡ array_length h) where
    pub tagged-none : Tagged h l i keys a a 0
    unfolding tags_from array_length
    tagged-none =
        let inside = cell-within h (node (l + 1) i) m in
        record { bytes = sym (put-nil a (72 * cell_of h (node (l + 1) i)) (omega arith)); full = size }

    -- one tag more: r and c are the cells of the node and of child k, b is the child's content
    pub tagged-next : {s after b : List ℕ} {k r c t : ℕ} → Tagged h l i keys a s k → k < 8
        → r ≡ cell_of h (node (l + 1) i) → c ≡ cell_of h (node l (8 * i + k)) → b ≡ cell_content s c → t ≡ node_tag keys b l (8 * i + k)
        → after ≡ put s (72 * r + 8 * k) (to_le 8 t) → length after ≡ length s → Tagged h l i keys a after (k + 1)
    unfolding cell_content array_length
    tagged-next {s} {after} {b} {k} {r} {c} {t} w p er ec eb et e z =
        let at = 72 * cell_of h (node (l + 1) i) in
        let old = tags_from keys l (lying h a l) (8 * i) k in
        let new = node_tag keys (lying h a l (8 * i + k)) l (8 * i + k) in
        let many = tags-length keys l (lying h a l) (8 * i) k in
        let inside = cell-within h (node (l + 1) i) m in
        let same : b ≡ lying h a l (8 * i + k) =
        eb ∙ ap (λ (x : List ℕ). part x (72 * c) 64) w.bytes
        ∙ part-put-before a at old (omega arith) (72 * c) 64 (omega (arith, child-before (8 * i + k) (omega arith)))
        ∙ ap (λ (n : ℕ). part a (72 * n) 64) ec in
        let behind : 72 * r + 8 * k ≡ at + length old = omega arith in
        record {
          bytes = e ∙ ap₂ {C = List ℕ} (λ (x : List ℕ) (n : ℕ). put x n (to_le 8 t)) w.bytes behind
              ∙ ap (λ (n : ℕ). put (put a at old) (at + length old) (to_le 8 n))
              (et ∙ ap (λ (x : List ℕ). node_tag keys x l (8 * i + k)) same)
              ∙ put-append a at old (to_le 8 new) (omega (arith, length_digits 256 8 new))
              ∙ ap (put a at) (sym (tags-snoc keys l (lying h a l) (8 * i) k));
          full = z ∙ w.full;
        }

  -- a node behind the front
  pub node-next : (keys : List ℕ) {a after : List ℕ} → a ≡ fresh_front keys h (level_start h (l + 1) + i)
      → after ≡ put a (72 * cell_of h (node (l + 1) i)) (child_tags keys l (lying h a l) i)
      → after ≡ fresh_front keys h (level_start h (l + 1) + (i + 1))
  unfolding fresh_node
  node-next keys {a} {after} e f =
      let n = cell_of h (node (l + 1) i) in
      let within = cell-within h (node (l + 1) i) m in
      let at-cell = sym (node-cell h (l + 1) i) in
      let next : n + 1 ≡ level_start h (l + 1) + (i + 1) = omega arith in
      let front : a ≡ fresh_front keys h n = e ∙ ap (fresh_front keys h) (sym at-cell) in
      let stored : (j : ℕ) → 8 * i ≤ j → j < 8 * i + 8 → lying h a l j ≡ fresh_node keys none none l j = λ j p q.
      let inside = in-map-node h l j (child-node h l i m j q) in
      ap (λ (s : List ℕ). lying h s l j) front ∙ front-content keys h n (cell_of h (node l j)) (omega arith) (child-before j q)
      ∙ node-stored keys h l j inside.0 inside.1 in
      let b = fresh_node keys none none (suc l) i in
      let cell : part (fresh_array keys h) (72 * n) 72 ≡ b ++ replicate 8 0 =
      ap (λ (k : ℕ). part (fresh_array keys h) (72 * k) 72) (at-cell ∙ ap (λ (x : ℕ). level_start h x + i) (add-one l))
      ∙ cell-stored keys h (suc l) i up.0 up.1 in
      f ∙ ap₂ {C = List ℕ} (λ (s bs : List ℕ). put s (72 * n) bs) front
      (tags-agree keys l (lying h a l) (fresh_node keys none none l) (8 * i) 8 stored)
      ∙ front-next keys h n b within (fresh-length keys none none (suc l) i) cell ∙ ap (fresh_front keys h) next
