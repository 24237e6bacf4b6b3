-- The batches of a turn: their cells are sound, each batch has at most 2h + 2, and how many stores they make in all. Assumes nothing.
use mathlib.Core.Path.{◌≡◌, refl, ap, ◌∙◌, subst}
use mathlib.Core.Bool.{Bool, true, false, not, ◌&&◌, cond}
use mathlib.Core.List.{List, [], ◌∷◌, ◌++◌, map, append-nil, Memᴰ}
use Prim.Native.Nat.{ℕ, suc, ◌+◌, ◌-◌, ◌*◌, ◌≤◌, ◌<◌, zero-le}
use native.Mathlib.Omega.{arith}
use lib.Dec.{leb, lit<}
use borrow.Author.Tests.{lt-leb}
use lib.ListN.{length, length-append}
use Rattle.words.specs.Bytes.{to_le}
use Rattle.words.proofs.Digits.{Below, below-append, below-cons, below-digits}
use Rattle.bits.specs.Bits.{set_bits, with_bits}
use Rattle.bits.proofs.Climbs.{Climbs, end, up}
use Rattle.bits.proofs.Laws.{bits-climb}
use Rattle.memory_map.specs.Map.{pages, lines, cells, array_length, level_start, cell_of, page_of, place_of, InMap}
use Rattle.memory_map.specs.Map.Item.{node}
use Rattle.memory_map.proofs.Laws.{path-node, path-bottom}
use Rattle.slot_map.specs.Slots.{slot_of}
use Rattle.slot_map.proofs.Laws.{slot-within}
use Rattle.counter.specs.Counter.{major, written, turned}
use Rattle.turn_block.proofs.Laws.{length-turned, below-turned, written-climb}
use Rattle.control.specs.Control.{Cell, turn_mask, turn_bytes, is_open}
use Rattle.control.proofs.Laws.{length-turn}
use Rattle.cache.proofs.Laws.{content-length, content-below, slot-room}
use Rattle.journal.specs.Journal.{turn_stores}
use Rattle.journal.proofs.Each.{Each, none, more, each_append}
use Rattle.journal.proofs.Kept.{Within, Avoids, within-turn, avoids-turn}
use Rattle.journal.proofs.Turns.{length-turn-stores}
use Rattle.calls.specs.Path.{node_cell}
use Rattle.calls.specs.Read.{line_text}
use Rattle.calls.specs.Turn.{Batch, line_at, block_of, turn_places, turned_cell, new_block_cell, last_batch, left_bytes}
use Rattle.calls.specs.Turn.{batches_of, turn_front, stores_for}
use Rattle.call_laws.proofs.Loads.{Sound, Fit, sound-node}
use Rattle.call_laws.proofs.Line.{line-sound, text-length, text-bytes}
use Rattle.call_laws.proofs.Kept.{wholes, in_map_lem}

-- a batch of a module of depth h
pub record Proper (h : ℕ) (b : Batch) : Type 0 where
  pub sound : Each (Sound h) b.cells
  pub some : 1 ≤ length b.cells
  pub few : length b.cells ≤ 2 * h + 2
  pub size : length b.section ≡ 17
  pub bytes : Below 256 b.section

-- one that leaves cell n alone
abbrev pub Spares : ℕ → Batch → Type 0
Spares n b = Each (λ (x : Cell). x.number ≡ n → ⊥) b.cells

-- ---- the lines of a page, and its block

module _ (h p j : ℕ) (place : j < 64) where
  pub line-inside : p < pages h → line_at p j < lines h
  unfolding lines
  line-inside page = omega arith

  pub line-page : page_of (line_at p j) ≡ p
  line-page = omega arith

  pub line-place : place_of (line_at p j) ≡ j
  line-place = omega arith

-- no data cell is a block's
pub block-line : (h p n : ℕ) → n < lines h → cell_of h (node 0 p) ≡ n → ⊥
unfolding cell_of level_start
block-line h p n q e = omega arith

pub block_inside : (h p : ℕ) → p < pages h → InMap h (node 0 p)
block_inside h p page = subst (λ (i : ℕ). InMap h (node 0 i)) (path-bottom p) (path-node h p 0 page zero-le)

-- ---- the section

pub section-bytes : (n p mask : ℕ) → n < 256 → Below 256 (turn_bytes n p mask)
section-bytes n p mask q =
    below-append (n ∷ to_le 8 p) (to_le 8 mask) (below-cons q (below-digits 256 8 p (lit< tt))) (below-digits 256 8 mask (lit< tt))

-- ---- the stores of batches

module _ (h : ℕ) (flat : h ≤ 3) where
  pub batch-within : {b : Batch} → Proper h b → Each (Within (cells h)) (turn_stores b.cells b.root b.section)
  batch-within {b} w =
      within-turn (cells h) b.root (wholes h flat w.sound) (in_map_lem h w.sound) (omega (arith, w.few)) w.size w.bytes

  pub stores-within : {bs : List Batch} → Each (Proper h) bs → Each (Within (cells h)) (stores_for bs)
  unfolding stores_for
  stores-within none = none
  stores-within (more {x = b} w ws) = each_append (batch-within {b = b} w) (stores-within ws)

pub stores-avoid : (n : ℕ) {bs : List Batch} → Each (Spares n) bs → Each (Avoids n) (stores_for bs)
unfolding stores_for
stores-avoid n none = none
stores-avoid n (more {x = b} w ws) = each_append (avoids-turn n b.root b.section w) (stores-avoid n ws)

-- a batch, and others
pub batch-then : (b : Batch) (bs : List Batch) → length (stores_for (b ∷ bs)) ≡ 2 * length b.cells + 3 + length (stores_for bs)
unfolding stores_for
batch-then b bs =
    let xs = turn_stores b.cells b.root b.section in
    length-append xs (stores_for bs) ∙ ap (λ (n : ℕ). n + length (stores_for bs)) (length-turn-stores b.cells b.root b.section)

-- ---- the places to turn rise

pub places-climb : (k c : List ℕ) (p : ℕ) → Climbs 64 0 (turn_places k c p)
unfolding turn_places
places-climb k c p = go (is_open k p)
  where
    go : (y : Bool) → Climbs 64 0 (cond y (set_bits (turn_mask k)) (written (block_of c p)))
    go true = bits-climb (turn_mask k)
    go false = written-climb (block_of c p)

-- ---- what the first batch starts with: the cells x of the path, and the block as it is or not

module _ (h : ℕ) (k c : List ℕ) (p : ℕ) (x : List Cell) where
  abbrev block : Cell
  block = node_cell h 0 p (block_of c p)

  front-each : (P : Cell → Type 0) → Each P x → P block → Each P (turn_front h k c p x)
  unfolding turn_front
  front-each P e b = each_append e (go (not (is_open k p) && leb 2 (length (turn_places k c p))))
    where
      go : (t : Bool) → Each P (cond t (block ∷ []) [])
      go true = more b none
      go false = none

  pub front-sound : Fit h c → p < pages h → Each (Sound h) x → Each (Sound h) (turn_front h k c p x)
  front-sound fit page e =
      front-each (Sound h) e
      (sound-node h 0 p (block_of c p) (block_inside h p page)
      (content-length c (slot_of 0 p) (slot-room h (slot_of 0 p) c fit.sized (slot-within h 0 p zero-le)))
      (content-below c (slot_of 0 p) fit.bytes))

  pub front-spares : (n : ℕ) → (block.number ≡ n → ⊥) → Each (λ (y : Cell). y.number ≡ n → ⊥) x
      → Each (λ (y : Cell). y.number ≡ n → ⊥) (turn_front h k c p x)
  front-spares n b e = front-each (λ (y : Cell). y.number ≡ n → ⊥) e b

  -- at most one more than those of the path, and no more where fewer than two lines are left
  pub front-few : length (turn_front h k c p x) ≤ length x + 1
  unfolding turn_front
  front-few = go (not (is_open k p) && leb 2 (length (turn_places k c p)))
    where
      go : (t : Bool) → length (x ++ cond t (block ∷ []) []) ≤ length x + 1
      go true = omega (arith, length-append x (block ∷ []))
      go false = omega (arith, length-append x [])

  pub front-lean : length (turn_places k c p) < 2 → length (turn_front h k c p x) ≡ length x
  unfolding turn_front
  front-lean q = rw (lt-leb 2 (length (turn_places k c p)) q) (go (not (is_open k p)))
    where
      go : (t : Bool) → length (x ++ cond (t && false) (block ∷ []) []) ≡ length x
      go true = ap length (append-nil x)
      go false = ap length (append-nil x)

-- ---- the batches

module _ (h f : ℕ) (keys a c : List ℕ) (p r : ℕ) where
  abbrev batches : List Cell → List ℕ → List Batch
  batches = batches_of h f keys a c p r

  abbrev early : List Cell → ℕ → List ℕ → Batch
  early front j js = record { cells = front ++ (turned_cell f keys a c p j ∷ []); root = r; section = left_bytes p js }

  abbrev last : List Cell → List Cell → Batch
  last = last_batch h keys c p

  early-length : (front : List Cell) (j : ℕ) (js : List ℕ) → length (early front j js).cells ≡ length front + 1
  early-length front j js = length-append front (turned_cell f keys a c p j ∷ [])

  last-length : (front line : List Cell) → length (last front line).cells ≡ length front + suc (length line)
  last-length front line = length-append front (new_block_cell h c p ∷ line)

  -- the first of several, and the last
  pub batches-more : (front : List Cell) (j : ℕ) (js : List ℕ) → 0 < length js → batches front (j ∷ js) ≡ early front j js ∷ batches [] js
  unfolding batches_of
  batches-more front j [] q = absurd (omega arith)
  batches-more front j (i ∷ js) q = refl

  pub batches-last : (front : List Cell) (js : List ℕ) → length js < 2
      → batches front js ≡ last front (map (turned_cell f keys a c p) js) ∷ []
  unfolding batches_of
  batches-last front [] q = refl
  batches-last front (j ∷ []) q = refl
  batches-last front (j ∷ i ∷ js) q = absurd (omega arith)

  -- how many stores they make: two for each cell, and three for each batch
  pub turn-length : (front : List Cell) (js : List ℕ)
      → length (stores_for (batches front js)) ≡ 2 * (length front + length js + 1) + 3 * suc (length js - 1)
  unfolding batches_of stores_for
  turn-length front [] = batch-then (last front []) [] ∙ omega (arith, last-length front [])
  turn-length front (j ∷ []) =
      let line = turned_cell f keys a c p j ∷ [] in batch-then (last front line) [] ∙ omega (arith, last-length front line)
  turn-length front (j ∷ i ∷ js) =
      batch-then (early front j (i ∷ js)) (batches [] (i ∷ js))
      ∙ omega (arith, early-length front j (i ∷ js), turn-length [] (i ∷ js))

  module _ (page : p < pages h) (whole : length a ≡ array_length h) (plain : Below 256 a) where
    pub turned-sound : (j : ℕ) → j < 64 → Sound h (turned_cell f keys a c p j)
    turned-sound j q =
        let n = line_at p j in
        line-sound f keys n (line_text keys a c n) (suc (major (block_of c p))) 1
        (record {
          inside = line-inside h p j q page;
          full = text-length h keys a c n whole (line-inside h p j q page);
          text-bytes = text-bytes h keys a c n plain;
          wide = length-turned (block_of c p);
          block-bytes = below-turned (block_of c p);
        })

    new-sound : Sound h (new_block_cell h c p)
    new-sound = sound-node h 0 p (turned (block_of c p)) (block_inside h p page) (length-turned (block_of c p)) (below-turned (block_of c p))

    pub early-proper : (front : List Cell) (j : ℕ) (js : List ℕ) → Each (Sound h) front → length front ≤ 2 * h + 1 → j < 64
        → Proper h (early front j js)
    early-proper front j js s few q =
        record {
          sound = each_append s (more (turned-sound j q) none);
          some = omega (arith, early-length front j js);
          few = omega (arith, early-length front j js);
          size = length-turn 1 p (with_bits js);
          bytes = section-bytes 1 p (with_bits js) (lit< tt);
        }

    pub last-proper : (front line : List Cell) → Each (Sound h) front → Each (Sound h) line → length front + length line ≤ 2 * h + 1
        → Proper h (last front line)
    last-proper front line s t few =
        record {
          sound = each_append s (more new-sound t);
          some = omega (arith, last-length front line);
          few = omega (arith, last-length front line);
          size = length-turn 0 0 0;
          bytes = section-bytes 0 0 0 (lit< tt);
        }

    -- with at most 2h cells in front, one more where two lines are left
    pub batches-proper : (front : List Cell) {lo : ℕ} (js : List ℕ) → Climbs 64 lo js → Each (Sound h) front → length front ≤ 2 * h + 1
        → (length js < 2 → length front ≤ 2 * h) → Each (Proper h) (batches front js)
    unfolding batches_of
    batches-proper front [] end s few lean =
        more {x = last front []} (last-proper front [] s none (omega (arith, lean (lit< tt)))) none
    batches-proper front (j ∷ []) (up l q end) s few lean =
        let line = turned_cell f keys a c p j ∷ [] in
        more {x = last front line} (last-proper front line s (more (turned-sound j q) none) (omega (arith, lean (lit< tt)))) none
    batches-proper front (j ∷ i ∷ js) (up l q rest) s few lean =
        more {x = early front j (i ∷ js)} (early-proper front j (i ∷ js) s few q)
        (batches-proper [] (i ∷ js) rest none zero-le (λ z. zero-le))

    -- those of a turn whose path is loaded, x its cells
    pub turn-proper : (k : List ℕ) (x : List Cell) → Fit h c → Each (Sound h) x → length x ≤ 2 * h
        → Each (Proper h) (batches (turn_front h k c p x) (turn_places k c p))
    turn-proper k x fit s few =
        batches-proper (turn_front h k c p x) (turn_places k c p) (places-climb k c p) (front-sound h k c p x fit page s)
        (omega (arith, front-few h k c p x)) (λ q. omega (arith, front-lean h k c p x q))

  -- a cell that none of them is
  pub batches-spare : (n : ℕ) → ((new_block_cell h c p).number ≡ n → ⊥) → (front : List Cell) → Each (λ (x : Cell). x.number ≡ n → ⊥) front
      → (js : List ℕ) → ((j : ℕ) → Memᴰ j js → (turned_cell f keys a c p j).number ≡ n → ⊥) → Each (Spares n) (batches front js)
  unfolding batches_of
  batches-spare n new front t [] e = more {x = last front []} (each_append t (more {x = new_block_cell h c p} new none)) none
  batches-spare n new front t (j ∷ []) e =
      let line = turned_cell f keys a c p j ∷ [] in
      more {x = last front line}
      (each_append t (more {x = new_block_cell h c p} new (more {x = turned_cell f keys a c p j} (e j (Memᴰ.head refl)) none))) none
  batches-spare n new front t (j ∷ i ∷ js) e =
      more {x = early front j (i ∷ js)} (each_append t (more {x = turned_cell f keys a c p j} (e j (Memᴰ.head refl)) none))
      (batches-spare n new [] none (i ∷ js) (λ k m. e k (Memᴰ.tail m)))
