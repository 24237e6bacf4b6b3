-- Laws of nodes where they are: what the functions read and write, as slots and cells. Assumes nothing.
use mathlib.Core.Path.{◌≡◌, sym, ap, ap₂, ◌∙◌}
use mathlib.Core.Bool.{Bool, true, false, cond}
use mathlib.Core.List.{List, [], ◌∷◌}
use Prim.Native.Nat.{ℕ, ◌+◌, ◌-◌, ◌*◌, ◌^◌, ◌≤◌, ◌<◌}
use native.Mathlib.Numerals.{add-one}
use native.Mathlib.Omega.{arith}
use lib.Dec.{eqb, lit≤}
use lib.ListN.{length, set, take, drop}
use lib.Seq.{take_all, take-take}
use Rattle.words.specs.Bytes.{to_le, part, put}
use Rattle.words.proofs.Digits.{length_digits}
use Rattle.words.proofs.Parts.{length_part, length-put, put_one, put_three}
use Rattle.memory_map.specs.Map.{InMap, array_length, cell_of, lines}
use Rattle.memory_map.specs.Map.Item.{line, node}
use Rattle.memory_map.proofs.Laws.{level-shadow, shadow-cells, cells-small, cell-within, in-map-node}
use Rattle.slot_map.specs.Slots.{slot_of, cache_length}
use Rattle.slot_map.proofs.Laws.{slot-within}
use Rattle.cache.specs.Cache.{owner, content, cell_bytes, cell_content, with_slot, holds, current}
use Rattle.cache.proofs.Laws.{slot-room, content-length, cell-length}
use Rattle.node.specs.Sized.{Sized}

pub slot-part : (c : List ℕ) (s : ℕ) → take (73 * s + 9 + 64 - (73 * s + 9)) (drop (73 * s + 9) c) ≡ content c s
unfolding content
slot-part c s = let n : 73 * s + 9 + 64 - (73 * s + 9) ≡ 64 = omega arith in ap (λ (k : ℕ). take k (drop (73 * s + 9) c)) n

pub whole_part : (a : List ℕ) (n : ℕ) → take (72 * n + 72 - 72 * n) (drop (72 * n) a) ≡ cell_bytes a n
whole_part a n = let w : 72 * n + 72 - 72 * n ≡ 72 = omega arith in ap (λ (k : ℕ). take k (drop (72 * n) a)) w

pub front_part : (a : List ℕ) (n : ℕ) → take 64 (cell_bytes a n) ≡ cell_content a n
unfolding cell_content
front_part a n = take-take 64 72 (drop (72 * n) a) (lit≤ tt)

pub front_length : (a : List ℕ) (n : ℕ) {b : List ℕ} → 72 * n + 72 ≤ length a → b ≡ cell_bytes a n → 64 ≡ length (take 64 b)
front_length a n h e =
    sym
    (ap (λ (l : List ℕ). length (take 64 l)) e ∙ ap length (take-take 64 72 (drop (72 * n) a) (lit≤ tt))
    ∙ length_part a (72 * n) 64 (omega arith))

pub holds-is : (c : List ℕ) (l i : ℕ) {s o : ℕ} → s ≡ slot_of l i → o ≡ owner c s → eqb o (i + 1) ≡ holds c l i
unfolding holds
holds-is c l i e f = ap₂ eqb (f ∙ ap (owner c) e) (add-one i)

-- a node of the map: its slot lies in the cache, and its owner is a word; its cell lies in the array
pub record Slotted (h l i : ℕ) (c : List ℕ) : Type 0 where
  pub level : l ≤ 3
  pub word : i + 1 < 2 ^ 64
  pub slot : 73 * slot_of l i + 73 ≤ length c

pub slotted : (h : ℕ) (c : List ℕ) (l i : ℕ) → h ≤ 3 → length c ≡ cache_length h → InMap h (node l i) → Slotted h l i c
slotted h c l i flat size m =
    let at = in-map-node h l i m in
    record {
      level = omega (arith, at.0);
      word = omega (arith, level-shadow h l i at.0 at.1, shadow-cells h, cells-small h flat);
      slot = slot-room h (slot_of l i) c size (slot-within h l i at.0);
    }

pub cell_room : (h : ℕ) (a : List ℕ) (l i : ℕ) → length a ≡ array_length h → InMap h (node l i) → 72 * cell_of h (node l i) + 72 ≤ length a
unfolding array_length
cell_room h a l i size m = omega (arith, cell-within h (node l i) m)

pub line-room : (h : ℕ) (a : List ℕ) (n : ℕ) → length a ≡ array_length h → n < lines h → 72 * n + 72 ≤ length a
unfolding array_length InMap cell_of
line-room h a n size m = omega (arith, cell-within h (line n) m)

pub current-length : {h : ℕ} {a c : List ℕ} (l i : ℕ) → Sized h a c → InMap h (node l i) → length (current h a c l i) ≡ 64
unfolding current
current-length {h} {a} {c} l i z m = go (holds c l i)
  where
    go : (t : Bool) → length (cond t (content c (slot_of l i)) (cell_content a (cell_of h (node l i)))) ≡ 64
    go true = content-length c (slot_of l i) (slotted h c l i z.flat z.cache m).slot
    go false = cell-length h a (node l i) z.array m

-- owner, dirty flag and content, one after the other
pub slot-put : (c : List ℕ) (s o d : ℕ) (b : List ℕ) → 73 * s + 73 ≤ length c → length b ≡ 64
    → put (set (put c (73 * s) (to_le 8 o)) (73 * s + 8) d) (73 * s + 9) (part b 0 64) ≡ with_slot c s o d b
unfolding with_slot
slot-put c s o d b h l =
    let at = 73 * s in
    let w = length_digits 256 8 o in
    ap₂ {C = List ℕ} (λ (x y : List ℕ). put x (at + 9) y)
    (sym (put_one (put c at (to_le 8 o)) (at + 8) d (rw (length-put c at (to_le 8 o) (omega arith)) (omega arith))))
    (take_all 64 b (omega arith))
    ∙ put_three c at (to_le 8 o) (d ∷ []) b (at + 8) (at + 9) (omega arith) (omega arith) (omega arith)
