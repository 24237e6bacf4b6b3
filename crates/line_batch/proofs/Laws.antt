-- Laws of the batch of a write: the data cell, the counter block, and all of it. Assumes nothing.
use mathlib.Core.Path.{◌≡◌, refl, sym, ap, ap₂, ◌∙◌, subst}
use mathlib.Core.List.{List, [], ◌∷◌, ◌++◌}
use Prim.Native.Nat.{ℕ, suc, ◌+◌, ◌%◌, ◌^◌, ◌<◌, ◌≤◌}
use native.Mathlib.Nat.{zero-add}
use native.Mathlib.Omega.{arith}
use borrow.Author.Tests.{lt-ltb, eq-eqb, ne_eqb}
use lib.ListN.{length, take, drop, length-append}
use lib.Seq.{take_at}
use Rattle.words.specs.Bytes.{digits, from_le, to_le, put}
use Rattle.words.proofs.Digits.{length_digits}
use Rattle.words.proofs.Parts.{put-append, put_all}
use Rattle.words.proofs.Puts.{part-put}
use Rattle.memory_map.specs.Map.{pages, lines, page_of, cell_of}
use Rattle.memory_map.specs.Map.Item.{node}
use Rattle.memory_map.proofs.Laws.{page-inside, lines-small}
use Rattle.pad.specs.Pad.{pad, xor_bytes}
use Rattle.side.specs.Side.{side_bytes}
use Rattle.side.proofs.Laws.{side-back}
use Rattle.control.specs.Control.{Cell, control_length, place_at}
use Rattle.batch.specs.Batch.{cell_with, staged, staged_from}
use Rattle.batch.proofs.Laws.{staged-none, staged-one, staged-append}
use Rattle.calls.specs.Path.{node_cell}
use Rattle.call_laws.specs.Walk.{path_cells}
use Rattle.calls.specs.Write.{line_cell}
use Rattle.call_laws.specs.Line.{block_cells, line_cells}
use Rattle.call_laws.proofs.Line.{sealed-length, all-length}

-- ---- the data cell

module _ (f : ℕ) (keys : List ℕ) (line : ℕ) (text : List ℕ) (ma mi : ℕ) (size : length text ≡ 64) where
  abbrev sealed : List ℕ
  sealed = xor_bytes text (pad keys line ma mi)

  -- the content, and the side bytes behind it
  pub seal-bytes : (cell b : List ℕ) (w : ℕ) → length cell ≡ 72 → b ≡ sealed
      → w ≡ from_le (side_bytes f keys (take 64 (b ++ drop 64 cell)) line ma mi)
      → put (b ++ drop 64 cell) 64 (to_le 8 w) ≡ (line_cell f keys line text ma mi).bytes
  unfolding line_cell
  seal-bytes cell b w l e g =
      let side = to_le 8 w in
      let wide = length_digits 256 8 w in
      let full : length b ≡ 64 = ap length e ∙ sealed-length f keys line text ma mi size in
      ap (λ (x : List ℕ). put x 64 side) (part-put cell 0 b 64 full)
      ∙ ap (λ (i : ℕ). put (put cell 0 b) i side) (sym (zero-add 64) ∙ ap (λ (i : ℕ). 0 + i) (sym full))
      ∙ put-append cell 0 b side (omega arith) ∙ put_all cell (b ++ side) (rw length-append (omega arith))
      ∙ ap₂ {C = List ℕ} ◌++◌ e
      (ap (to_le 8) (g ∙ ap (λ (x : List ℕ). from_le (side_bytes f keys x line ma mi)) (take_at b (drop 64 cell) 64 full ∙ e))
      ∙ side-back f keys sealed line ma mi)

-- number and cell, one after the other, where the allowance goes that far
pub line-put : (k : List ℕ) (n allowance : ℕ) (c : Cell) → length k ≡ control_length → n < 8 → n < allowance → length c.bytes ≡ 72
    → (at : ℕ) → at ≡ place_at n
    → put (put k at (to_le 8 c.number)) (at + 8) c.bytes ≡ staged allowance n c k
unfolding staged
line-put k n allowance c size few within full at e =
    let w = length_digits 256 8 c.number in
    ap (λ (i : ℕ). put (put k at (to_le 8 c.number)) (at + i) c.bytes) (sym w)
    ∙ put-append k at (to_le 8 c.number) c.bytes (omega arith) ∙ ap (λ (i : ℕ). put k i (to_le 8 c.number ++ c.bytes)) e
    ∙ rw (lt-ltb n allowance within)

-- ---- the counter block

-- as a cell
pub block-cell : (h p : ℕ) (b : List ℕ) (x : ℕ) → x ≡ cell_of h (node 0 p) → cell_with x b 0 ≡ node_cell h 0 p b
unfolding digits
block-cell h p b x e = ap (λ (y : ℕ). cell_with y b 0) e

-- what the block adds to n staged cells
pub record Blocked (h p mi : ℕ) (b : List ℕ) (allowance : ℕ) (before after : List ℕ) (n m : ℕ) : Type 0 where
  pub cells : after ≡ staged_from allowance n (block_cells h p mi b) before
  pub number : m ≡ n + length (block_cells h p mi b)

module _ (h p mi : ℕ) (b : List ℕ) (allowance : ℕ) (before : List ℕ) (n : ℕ) where
  pub block_none : (mi % 4 ≡ 0 → ⊥) → Blocked h p mi b allowance before before n n
  unfolding block_cells
  block_none e =
      let none : block_cells h p mi b ≡ [] = rw (ne_eqb (mi % 4) 0 e) in
      record {
        cells = staged-none allowance n before ∙ ap (λ (x : List Cell). staged_from allowance n x before) (sym none);
        number = omega (arith, ap length none);
      }

  pub block-some : mi % 4 ≡ 0 → (after : List ℕ) → after ≡ staged allowance n (node_cell h 0 p b) before
      → Blocked h p mi b allowance before after n (n + 1)
  unfolding block_cells
  block-some e after g =
      let one : block_cells h p mi b ≡ node_cell h 0 p b ∷ [] = rw (eq-eqb (mi % 4) 0 e) in
      record {
        cells =
            g ∙ staged-one allowance n (node_cell h 0 p b) before
            ∙ ap (λ (z : List Cell). staged_from allowance n z before) (sym one);
        number = sym (ap (λ (z : List Cell). n + length z) one);
      }

-- ---- the batch

pub cells-length : (h f : ℕ) (keys c : List ℕ) (n : ℕ) (text : List ℕ) (ma mi : ℕ) (b : List ℕ)
    → length (line_cells h f keys c n text ma mi b) ≡ length (path_cells h c (page_of n) (suc h)) + length (block_cells h (page_of n) mi b) + 1
unfolding line_cells
cells-length h f keys c n text ma mi b = all-length h f keys n text ma mi b (path_cells h c (page_of n) (suc h))

-- room for what is staged before the data cell, and the page of the line
pub record Few (h : ℕ) (c : List ℕ) (n mi : ℕ) (b : List ℕ) (p : ℕ) : Type 0 where
  pub path : length (path_cells h c p (suc h)) ≤ 7
  pub both : length (path_cells h c p (suc h)) + length (block_cells h p mi b) ≤ 7
  pub page : p < pages h
  pub word : n < 2 ^ 32

pub few : (h f : ℕ) (keys c : List ℕ) (n : ℕ) (text : List ℕ) (ma mi : ℕ) (b : List ℕ) {p : ℕ} → p ≡ page_of n → h ≤ 3 → n < lines h
    → length (line_cells h f keys c n text ma mi b) ≤ 8 → Few h c n mi b p
few h f keys c n text ma mi b page high inside room =
    let all = cells-length h f keys c n text ma mi b in
    subst (Few h c n mi b) (sym page)
    (record {
      path = omega (arith, all, room);
      both = omega (arith, all, room);
      page = page-inside h n inside;
      word = omega (arith, inside, lines-small {h = h} refl high);
    })

-- what is staged step by step: the path, the block, the data cell
module _ (h f : ℕ) (keys c : List ℕ) (n : ℕ) (text : List ℕ) (ma mi : ℕ) (b : List ℕ) (allowance : ℕ) (p : ℕ) (page : p ≡ page_of n) where
  pub gathered : (k k₁ k₂ k₃ : List ℕ) (i j : ℕ)
      → k₁ ≡ staged_from allowance 0 (path_cells h c p (suc h)) k → i ≡ length (path_cells h c p (suc h))
      → k₂ ≡ staged_from allowance i (block_cells h p mi b) k₁ → j ≡ i + length (block_cells h p mi b)
      → k₃ ≡ staged allowance j (line_cell f keys n text ma mi) k₂
      → (k₃ ≡ staged_from allowance 0 (line_cells h f keys c n text ma mi b) k) × (j + 1 ≡ length (line_cells h f keys c n text ma mi b))
  unfolding line_cells
  gathered k k₁ k₂ k₃ i j e₁ n₁ e₂ n₂ e₃ =
      let x = path_cells h c (page_of n) (suc h) in
      let y = block_cells h (page_of n) mi b in
      let z = line_cell f keys n text ma mi in
      let first : i ≡ 0 + length x = n₁ ∙ ap (λ (q : ℕ). length (path_cells h c q (suc h))) page ∙ sym (zero-add (length x)) in
      let second : j ≡ i + length y = n₂ ∙ ap (λ (q : ℕ). i + length (block_cells h q mi b)) page in
      let two : k₂ ≡ staged_from allowance 0 (x ++ y) k =
      e₂ ∙ ap (λ (q : ℕ). staged_from allowance i (block_cells h q mi b) k₁) page
      ∙ ap₂ {C = List ℕ} (λ (m : ℕ) (w : List ℕ). staged_from allowance m y w) first
      (e₁ ∙ ap (λ (q : ℕ). staged_from allowance 0 (path_cells h c q (suc h)) k) page)
      ∙ sym (staged-append allowance 0 x y k) in
      let at : j ≡ 0 + length (x ++ y) = omega (arith, length-append x y) in (
        e₃ ∙ staged-one allowance j z k₂ ∙ ap₂ {C = List ℕ} (λ (m : ℕ) (w : List ℕ). staged_from allowance m (z ∷ []) w) at two
            ∙ sym (staged-append allowance 0 (x ++ y) (z ∷ []) k),
        omega (arith, length-append (x ++ y) (z ∷ [])),
      )
