-- The cells of a write at a counter, behind those of its path: they are sound, and at most two. The text of a line. Assumes nothing.
use mathlib.Core.Path.{◌≡◌, ap, ◌∙◌}
use mathlib.Core.Bool.{Bool, true, false, cond}
use mathlib.Core.List.{List, [], ◌∷◌, ◌++◌}
use Prim.Native.Nat.{ℕ, ◌+◌, ◌≤◌, ◌<◌, zero-le}
use native.Mathlib.Nat.{le_refl}
use lib.Dec.{eqb}
use lib.ListN.{length, length-append}
use Rattle.words.proofs.Digits.{Below, below-append}
use Rattle.memory_map.specs.Map.{lines, array_length, page_of, cell_of, InMap}
use Rattle.memory_map.specs.Map.Item.{line}
use Rattle.memory_map.proofs.Laws.{cell-within, page-node}
use Rattle.counter.specs.Counter.{major, lag}
use Rattle.pad.specs.Pad.{pad, xor_bytes}
use Rattle.pad.proofs.Nonce.{length-pad, below-pad}
use Rattle.pad.proofs.Xor.{length-xor, below-xor}
use Rattle.side.specs.Side.{side_bytes}
use Rattle.side.proofs.Laws.{below-side, length-cell}
use Rattle.control.specs.Control.{Cell}
use Rattle.cache.specs.Cache.{cell_content}
use Rattle.cache.proofs.Laws.{cell-length, cell_below}
use Rattle.journal.proofs.Each.{Each, none, more, each_append}
use Rattle.calls.specs.Path.{node_cell}
use Rattle.calls.specs.Read.{page_block, line_minor, line_text}
use Rattle.calls.specs.Write.{line_cell}
use Rattle.call_laws.specs.Line.{block_cells}
use Rattle.call_laws.proofs.Loads.{Sound, sound-node}

-- a line of the map, its text and the counter block to be
pub record Lent (h n : ℕ) (text b : List ℕ) : Type 0 where
  pub inside : n < lines h
  pub full : length text ≡ 64
  pub text-bytes : Below 256 text
  pub wide : length b ≡ 64
  pub block-bytes : Below 256 b

-- ---- the data cell

module _ (f : ℕ) (keys : List ℕ) (n : ℕ) (text : List ℕ) (ma mi : ℕ) where
  abbrev sealed : List ℕ
  sealed = xor_bytes text (pad keys n ma mi)

  pub sealed-length : length text ≡ 64 → length sealed ≡ 64
  sealed-length e = length-xor text (pad keys n ma mi) (rw (length-pad, e) (le_refl 64)) ∙ e

  pub line-cell-length : length text ≡ 64 → length (line_cell f keys n text ma mi).bytes ≡ 72
  unfolding line_cell
  line-cell-length e = length-cell f keys sealed n ma mi (sealed-length e)

  pub line-sound : {h : ℕ} {b : List ℕ} → Lent h n text b → Sound h (line_cell f keys n text ma mi)
  unfolding line_cell InMap cell_of
  line-sound {h} v =
      record {
        inside = cell-within h (line n) v.inside;
        size = line-cell-length v.full;
        bytes =
            below-append sealed (side_bytes f keys sealed n ma mi)
            (below-xor text (pad keys n ma mi) v.text-bytes (below-pad keys n ma mi))
            (below-side f keys sealed n ma mi);
      }

-- ---- the text of a line, from its data cell

module _ (h : ℕ) (keys a c : List ℕ) (n : ℕ) where
  pub text-length : length a ≡ array_length h → n < lines h → length (line_text keys a c n) ≡ 64
  unfolding line_text InMap cell_of
  text-length whole inside =
      let full = cell-length h a (line n) whole inside in
      length-xor (cell_content a n) (pad keys n (major (page_block c n)) (line_minor c n)) (rw (length-pad, full) (le_refl 64)) ∙ full

  pub text-bytes : Below 256 a → Below 256 (line_text keys a c n)
  unfolding line_text
  text-bytes plain = below-xor (cell_content a n) _ (cell_below a n plain) (below-pad keys n _ _)

-- ---- the counter block

pub block-few : (h p mi : ℕ) (b : List ℕ) → length (block_cells h p mi b) ≤ 1
unfolding block_cells
block-few h p mi b = go (eqb (lag mi) 0)
  where
    go : (t : Bool) → length (cond t (node_cell h 0 p b ∷ []) []) ≤ 1
    go true = le_refl 1
    go false = zero-le

block-sound : {h n : ℕ} {text b : List ℕ} (mi : ℕ) → Lent h n text b → Each (Sound h) (block_cells h (page_of n) mi b)
unfolding block_cells
block-sound {h} {n} {text} {b} mi v = go (eqb (lag mi) 0)
  where
    go : (t : Bool) → Each (Sound h) (cond t (node_cell h 0 (page_of n) b ∷ []) [])
    go true = more (sound-node h 0 (page_of n) b (page-node h n v.inside) v.wide v.block-bytes) none
    go false = none

-- ---- both, behind the cells of the path

module _ (h f : ℕ) (keys : List ℕ) (n : ℕ) (text : List ℕ) (ma mi : ℕ) (b : List ℕ) (x : List Cell) where
  abbrev all : List Cell
  all = x ++ block_cells h (page_of n) mi b ++ (line_cell f keys n text ma mi ∷ [])

  pub all-length : length all ≡ length x + length (block_cells h (page_of n) mi b) + 1
  all-length =
      let y = block_cells h (page_of n) mi b in
      length-append (x ++ y) (line_cell f keys n text ma mi ∷ []) ∙ ap (λ (m : ℕ). m + 1) (length-append x y)

  pub all_sound : Lent h n text b → Each (Sound h) x → Each (Sound h) all
  all_sound v s = each_append (each_append s (block-sound mi v)) (more (line-sound f keys n text ma mi v) none)
