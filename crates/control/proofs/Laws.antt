-- Laws of the control record: its fields, the parts of its validity, its places one by one. Assumes nothing.
use mathlib.Core.Path.{◌≡◌, refl, sym, ap, ap₂, ◌∙◌, subst}
use mathlib.Core.Logic.{◌⊎◌, inl, inr}
use mathlib.Core.Bool.{Bool, true, false, ◌&&◌, ◌||◌, not, cond, and-eq-true_iff}
use mathlib.Core.List.{List, [], ◌∷◌, ◌++◌}
use Prim.Native.Nat.{ℕ, zero, suc, ◌+◌, ◌-◌, ◌*◌, ◌≤◌, ◌<◌}
use native.Mathlib.Nat.{add-zero, zero-add, add_assoc, suc-add, not-suc-le-zero, le_of_suc-le-suc}
use native.Mathlib.Omega.{arith}
use borrow.Author.Tests.{lt-ltb, le-ltb, le-leb, lt-leb, eq-eqb, ne_eqb, leb-true, ltb-true}
use lib.Dec.{ltb, leb, eqb, lit<, lit≤}
use lib.ListN.{length, get_or, set, take, drop, length-append}
use lib.Seq.{take-take, drop-drop, get_or-drop}
use Rattle.words.specs.Bytes.{number, from_le, to_le, part, put}
use Rattle.words.proofs.Digits.{length_digits}
use Rattle.words.proofs.Order.{eq-or-not}
use Rattle.words.proofs.Parts.{part-part, length-put, put_one, put_three}
use Rattle.words.proofs.Puts.{get_d_part, put-comm}
use Rattle.memory_map.specs.Map.{pages, cells}
use Rattle.control.specs.Control.{control_length, mark_of, mark, family, depth, root, count, new_root, Cell, queued, places}
use Rattle.control.specs.Control.{queue, in_map, turn_at, turn_count, turn_page, turn_mask, turn_bytes, is_open, other_open}
use Rattle.control.specs.Control.{valid_mark, valid_head, valid_turn, valid}

pub depth-at : (k : List ℕ) → depth k ≡ get_or k 5 0
unfolding depth
depth-at k = refl

pub count_at_lem : (k : List ℕ) → count k ≡ get_or k 15 0
unfolding count
count_at_lem k = refl

pub root-at : (k : List ℕ) → root k ≡ from_le (part k 7 8)
unfolding root
root-at k = refl

pub new-root-at : (k : List ℕ) → new_root k ≡ from_le (part k 16 8)
unfolding new_root
new-root-at k = refl

-- ---- the head

-- ---- the mark, and the family that it tells

pub mark-at : (k : List ℕ) → mark k ≡ from_le (part k 0 4)
unfolding mark
mark-at k = refl

pub mark-bytes : from_le (part (80 ∷ 73 ∷ 71 ∷ 75 ∷ []) 0 4) ≡ mark_of 0
unfolding number mark_of
mark-bytes = refl

pub other-mark-bytes : from_le (part (80 ∷ 73 ∷ 71 ∷ 78 ∷ []) 0 4) ≡ mark_of 1
unfolding number mark_of
other-mark-bytes = refl

apart : mark_of 0 ≡ mark_of 1 → ⊥
unfolding mark_of
apart e = omega arith

module _ (k : List ℕ) where
  pub family-one : mark k ≡ mark_of 1 → family k ≡ 1
  unfolding family
  family-one e = rw (eq-eqb (mark k) (mark_of 1) e)

  pub family-zero : (mark k ≡ mark_of 1 → ⊥) → family k ≡ 0
  unfolding family
  family-zero e = rw (ne_eqb (mark k) (mark_of 1) e)

  pub family-small : family k ≤ 1
  unfolding family
  family-small = go (eqb (mark k) (mark_of 1))
    where
      go : (b : Bool) → cond b 1 0 ≤ 1
      go true = lit≤ tt
      go false = lit≤ tt

  by-family : {f : ℕ} → family k ≡ f → valid_mark k ≡ eqb (mark k) (mark_of f)
  unfolding valid_mark
  by-family e = ap (λ (f : ℕ). eqb (mark k) (mark_of f)) e

  -- either mark is right, and no other
  pub mark-right : mark k ≡ mark_of 0 → true ≡ valid_mark k
  mark-right e = sym (by-family (family-zero (λ z. apart (sym e ∙ z))) ∙ eq-eqb (mark k) (mark_of 0) e)

  pub mark-other : (mark k ≡ mark_of 0 → ⊥) → eqb (mark k) (mark_of 1) ≡ valid_mark k
  mark-other n = go (eq-or-not (mark k) (mark_of 1))
    where
      go : (mark k ≡ mark_of 1) ⊎ (mark k ≡ mark_of 1 → ⊥) → eqb (mark k) (mark_of 1) ≡ valid_mark k
      go (inl e) = sym (by-family (family-one e))
      go (inr e) = ne_eqb (mark k) (mark_of 1) e ∙ sym (by-family (family-zero e) ∙ ne_eqb (mark k) (mark_of 0) n)

-- the record of a family: its mark is right, and tells the family
pub record Marked (k : List ℕ) (f : ℕ) : Type 0 where
  pub right : valid_mark k ≡ true
  pub told : family k ≡ f

pub marked : (k : List ℕ) (f : ℕ) → f ≤ 1 → mark k ≡ mark_of f → Marked k f
marked k zero p e = record { right = sym (mark-right k e); told = family-zero k (λ z. apart (sym e ∙ z)) }
marked k (suc zero) p e =
    record { right = by-family k (family-one k e) ∙ eq-eqb (mark k) (mark_of 1) e; told = family-one k e }
marked k (suc (suc f)) p e = absurd (omega arith)

-- records with the same first bytes
module _ (k t : List ℕ) (e : part k 0 7 ≡ part t 0 7) where
  same-mark : mark k ≡ mark t
  unfolding mark
  same-mark = ap from_le (sym (take-take 4 7 k (lit≤ tt)) ∙ ap (take 4) e ∙ take-take 4 7 t (lit≤ tt))

  pub same-family : family k ≡ family t
  unfolding family
  same-family = ap (λ (n : ℕ). cond (eqb n (mark_of 1)) 1 0) same-mark

  same-right : valid_mark k ≡ valid_mark t
  unfolding valid_mark
  same-right = ap₂ (λ (n f : ℕ). eqb n (mark_of f)) same-mark same-family

-- ---- the head: the first part that is wrong

module _ (k : List ℕ) where
  pub wrong-mark : valid_mark k ≡ false → false ≡ valid_head k
  unfolding valid_head
  wrong-mark p = rw p

  module _ (m : valid_mark k ≡ true) where
    pub wrong_first : (get_or k 4 0 ≡ 1 → ⊥) → false ≡ valid_head k
    unfolding valid_head
    wrong_first p = rw (m, ne_eqb (get_or k 4 0) 1 p)

    module _ (f : get_or k 4 0 ≡ 1) where
      pub wrong_second : (get_or k 6 0 ≡ 1 → ⊥) → false ≡ valid_head k
      unfolding valid_head
      wrong_second p = rw (m, eq-eqb (get_or k 4 0) 1 f, ne_eqb (get_or k 6 0) 1 p)

      module _ (s : get_or k 6 0 ≡ 1) where
        right-start : valid_head k ≡ leb 1 (get_or k 5 0) && leb (get_or k 5 0) 3 && leb (get_or k 15 0) 8
        unfolding valid_head depth count
        right-start = rw (m, eq-eqb (get_or k 4 0) 1 f, eq-eqb (get_or k 6 0) 1 s)

        pub depth_low : get_or k 5 0 < 1 → false ≡ valid_head k
        depth_low p = sym (right-start ∙ ap (λ (b : Bool). b && leb (get_or k 5 0) 3 && leb (get_or k 15 0) 8) (lt-leb 1 (get_or k 5 0) p))

        pub depth-high : 3 < get_or k 5 0 → false ≡ valid_head k
        depth-high p =
            sym (right-start ∙ ap₂ (λ (a b : Bool). a && b && leb (get_or k 15 0) 8) (le-leb 1 (get_or k 5 0) (omega arith))
            (lt-leb (get_or k 5 0) 3 p))

        pub right-depth : 1 ≤ get_or k 5 0 → get_or k 5 0 ≤ 3 → leb (get_or k 15 0) 8 ≡ valid_head k
        right-depth p q =
            sym (right-start ∙ ap₂ (λ (a b : Bool). a && b && leb (get_or k 15 0) 8) (le-leb 1 (get_or k 5 0) p) (le-leb (get_or k 5 0) 3 q))

-- what a right head tells
pub record Head (k : List ℕ) : Type 0 where
  pub deep : 1 ≤ depth k
  pub flat : depth k ≤ 3
  pub few : count k ≤ 8

pub right-head : {k : List ℕ} → valid_head k ≡ true → Head k
unfolding valid_head
right-head {k} e =
    let start = valid_mark k && eqb (get_or k 4 0) 1 && eqb (get_or k 6 0) 1 in
    let last = (and-eq-true_iff (start && leb 1 (depth k) && leb (depth k) 3) (leb (count k) 8)).0 e in
    let high = (and-eq-true_iff (start && leb 1 (depth k)) (leb (depth k) 3)).0 last.0 in
    let low = (and-eq-true_iff start (leb 1 (depth k))).0 high.0 in
    record {
      deep = leb-true 1 (depth k) low.1;
      flat = leb-true (depth k) 3 high.1;
      few = leb-true (count k) 8 last.1;
    }

-- ---- places

pub places-suc : (s : List ℕ) (at n : ℕ) → places s at (suc n) ≡ queued s at ∷ places s (at + 80) n
unfolding places
places-suc s at n = refl

-- the places after the first j: place j, and those after it
pub places-from : (s : List ℕ) (at n j : ℕ) → j < n
    → places s (at + 80 * j) (n - j) ≡ queued s (at + 80 * j) ∷ places s (at + 80 * (j + 1)) (n - (j + 1))
places-from s at n j h =
    let one : n - j ≡ suc (n - (j + 1)) = omega arith in
    let next : at + 80 * j + 80 ≡ at + 80 * (j + 1) = omega arith in
    ap (places s (at + 80 * j)) one ∙ places-suc s (at + 80 * j) (n - (j + 1))
    ∙ ap (λ (i : ℕ). queued s (at + 80 * j) ∷ places s i (n - (j + 1))) next

-- the cell numbers from place j on: place j is past the bound, or only those after it count
module _ (bound : ℕ) (s : List ℕ) (at n j : ℕ) where
  in-map-from : j < n
      → in_map bound (places s (at + 80 * j) (n - j)) ≡ ltb (from_le (part s (at + 80 * j) 8)) bound
      && in_map bound (places s (at + 80 * (j + 1)) (n - (j + 1)))
  unfolding in_map queued
  in-map-from h = ap (in_map bound) (places-from s at n j h)

  pub in-map-past : j < n → bound ≤ from_le (part s (at + 80 * j) 8) → in_map bound (places s (at + 80 * j) (n - j)) ≡ false
  in-map-past h p =
      in-map-from h
      ∙ ap (λ (b : Bool). b && in_map bound (places s (at + 80 * (j + 1)) (n - (j + 1)))) (le-ltb (from_le (part s (at + 80 * j) 8)) bound p)

  pub in-map-next : j < n → from_le (part s (at + 80 * j) 8) < bound
      → in_map bound (places s (at + 80 * j) (n - j)) ≡ in_map bound (places s (at + 80 * (j + 1)) (n - (j + 1)))
  in-map-next h p =
      in-map-from h
      ∙ ap (λ (b : Bool). b && in_map bound (places s (at + 80 * (j + 1)) (n - (j + 1)))) (lt-ltb (from_le (part s (at + 80 * j) 8)) bound p)

  pub in-map-end : n ≤ j → in_map bound (places s (at + 80 * j) (n - j)) ≡ true
  unfolding in_map places
  in-map-end h = let none : n - j ≡ 0 = omega arith in ap (λ (i : ℕ). in_map bound (places s (at + 80 * j) i)) none

-- each of the places is below the bound
pub in-map-at : (bound : ℕ) (s : List ℕ) (at n j : ℕ) → in_map bound (places s at n) ≡ true → j < n → from_le (part s (at + 80 * j) 8) < bound
unfolding in_map places queued
in-map-at bound s at zero j e h = absurd (not-suc-le-zero h)
in-map-at bound s at (suc n) zero e h =
    let both = (and-eq-true_iff (ltb (from_le (part s at 8)) bound) (in_map bound (places s (at + 80) n))).0 e in
    rw add-zero (ltb-true (from_le (part s at 8)) bound both.0)
in-map-at bound s at (suc n) (suc j) e h =
    let both = (and-eq-true_iff (ltb (from_le (part s at 8)) bound) (in_map bound (places s (at + 80) n))).0 e in
    let next : at + 80 + 80 * j ≡ at + 80 * suc j = omega arith in
    subst (λ (i : ℕ). from_le (part s i 8) < bound) next (in-map-at bound s (at + 80) n j both.1 (le_of_suc-le-suc h))

pub in_map_take : (bound : ℕ) (cs : List Cell) (j : ℕ) → in_map bound cs ≡ true → in_map bound (take j cs) ≡ true
unfolding in_map
in_map_take bound cs zero e = refl
in_map_take bound [] (suc j) e = refl
in_map_take bound (c ∷ cs) (suc j) e =
    let both = (and-eq-true_iff (ltb c.number bound) (in_map bound cs)).0 e in
    (and-eq-true_iff (ltb c.number bound) (in_map bound (take j cs))).1 (both.0, in_map_take bound cs j both.1)

pub length-places : (s : List ℕ) (at n : ℕ) → length (places s at n) ≡ n
unfolding places
length-places s at zero = refl
length-places s at (suc n) = ap suc (length-places s (at + 80) n)

pub take_places : (s : List ℕ) (at n j : ℕ) → j ≤ n → take j (places s at n) ≡ places s at j
unfolding places
take_places s at n zero h = refl
take_places s at zero (suc j) h = absurd (not-suc-le-zero h)
take_places s at (suc n) (suc j) h = ap (λ (l : List Cell). queued s at ∷ l) (take_places s (at + 80) n j (le_of_suc-le-suc h))

pub places-snoc : (s : List ℕ) (at n : ℕ) → places s at (n + 1) ≡ places s at n ++ (queued s (at + 80 * n) ∷ [])
unfolding places
places-snoc s at zero = rw add-zero
places-snoc s at (suc n) =
    let next : at + 80 + 80 * n ≡ at + 80 * suc n = omega arith in
    ap (λ (k : ℕ). places s at k) (suc-add n 1)
    ∙ ap (λ (l : List Cell). queued s at ∷ l)
    (places-snoc s (at + 80) n ∙ ap (λ (i : ℕ). places s (at + 80) n ++ (queued s i ∷ [])) next)

-- the places of a part
places-within : (s : List ℕ) (at m i n : ℕ) → i + 80 * n ≤ m → places (part s at m) i n ≡ places s (at + i) n
unfolding places queued
places-within s at m i zero h = refl
places-within s at m i (suc n) h =
    ap₂ {C = List Cell} (λ (x : ℕ) (l : List Cell). record { number = x; bytes = part (part s at m) (i + 8) 72 } ∷ l)
    (ap from_le (part-part s at m i 8 (omega arith))) (places-within s at m (i + 80) n (omega arith))
    ∙ ap₂ {C = List Cell} (λ (b : List ℕ) (j : ℕ). record { number = from_le (part s (at + i) 8); bytes = b } ∷ places s j n)
    (part-part s at m (i + 8) 72 (omega arith) ∙ ap (λ (j : ℕ). part s j 72) (sym (add_assoc at i 8)))
    (sym (add_assoc at i 80))

-- places that have the same bytes
pub same-places : (s t : List ℕ) (at i n : ℕ) → part s at (80 * n) ≡ part t i (80 * n) → places s at n ≡ places t i n
same-places s t at i n e =
    ap (λ (j : ℕ). places s j n) (sym (add-zero at)) ∙ sym (places-within s at (80 * n) 0 n (omega arith))
    ∙ ap (λ (l : List ℕ). places l 0 n) e
    ∙ places-within t i (80 * n) 0 n (omega arith) ∙ ap (λ (j : ℕ). places t j n) (add-zero i)

-- two records that agree from byte 15 on, in the first 24 bytes, or in the first 7
module _ (k t : List ℕ) where
  pub same_count : drop 15 k ≡ drop 15 t → count k ≡ count t
  unfolding count
  same_count e = sym (get_or-drop 15 k 0 0) ∙ ap (λ (l : List ℕ). get_or l 0 0) e ∙ get_or-drop 15 t 0 0

  pub same-new-root : drop 15 k ≡ drop 15 t → new_root k ≡ new_root t
  unfolding new_root
  same-new-root e =
      ap (λ (l : List ℕ). from_le (take 8 l)) (sym (drop-drop 1 15 k) ∙ ap (drop 1) e ∙ drop-drop 1 15 t)

  pub same_queue : drop 15 k ≡ drop 15 t → queue k ≡ queue t
  unfolding queue
  same_queue e =
      ap (places k 24) (same_count e)
      ∙ same-places k t 24 24 (count t) (ap (take (80 * count t)) (sym (drop-drop 9 15 k) ∙ ap (drop 9) e ∙ drop-drop 9 15 t))

  front : (m : ℕ) → part k 0 m ≡ part t 0 m → (i : ℕ) → i < m → get_or k i 0 ≡ get_or t i 0
  front m e i h =
      ap (λ (j : ℕ). get_or k j 0) (sym (zero-add i)) ∙ sym (get_d_part k 0 m i h) ∙ ap (λ (l : List ℕ). get_or l i 0) e
      ∙ get_d_part t 0 m i h ∙ ap (λ (j : ℕ). get_or t j 0) (zero-add i)

  pub front-count : part k 0 24 ≡ part t 0 24 → count k ≡ count t
  unfolding count
  front-count e = front 24 e 15 (lit< tt)

  pub front-root : part k 0 24 ≡ part t 0 24 → root k ≡ root t
  unfolding root
  front-root e =
      ap from_le (sym (part-part k 0 24 7 8 (lit≤ tt)) ∙ ap (λ (l : List ℕ). part l 7 8) e ∙ part-part t 0 24 7 8 (lit≤ tt))

  pub same-depth : part k 0 7 ≡ part t 0 7 → depth k ≡ depth t
  unfolding depth
  same-depth e = front 7 e 5 (lit< tt)

  pub same_head : part k 0 7 ≡ part t 0 7 → count t ≤ 8 → valid_head k ≡ true → valid_head t ≡ true
  unfolding valid_head depth
  same_head e h v =
      let start = valid_mark k && eqb (get_or k 4 0) 1 && eqb (get_or k 6 0) 1 && leb 1 (depth k) && leb (depth k) 3 in
      let same : start ≡ valid_mark t && eqb (get_or t 4 0) 1 && eqb (get_or t 6 0) 1 && leb 1 (depth t) && leb (depth t) 3 =
      ap₂ (λ (m : Bool) (x : ℕ). m && eqb x 1 && eqb (get_or k 6 0) 1 && leb 1 (depth k) && leb (depth k) 3)
      (same-right k t e) (front 7 e 4 (lit< tt))
      ∙ ap₂ (λ (x y : ℕ). valid_mark t && eqb (get_or t 4 0) 1 && eqb x 1 && leb 1 y && leb y 3) (front 7 e 6 (lit< tt))
      (front 7 e 5 (lit< tt)) in
      ap₂ (λ (a b : Bool). a && b) (sym same ∙ ((and-eq-true_iff start (leb (count k) 8)).0 v).0) (le-leb (count t) 8 h)

-- ---- the section of a turn

pub turn-count-at : (k : List ℕ) → turn_count k ≡ get_or k 664 0
unfolding turn_count
turn-count-at k = refl

pub turn-page-at : (k : List ℕ) → turn_page k ≡ from_le (part k 665 8)
unfolding turn_page
turn-page-at k = refl

pub turn-mask-at : (k : List ℕ) → turn_mask k ≡ from_le (part k 673 8)
unfolding turn_mask
turn-mask-at k = refl

pub length-turn : (n p mask : ℕ) → length (turn_bytes n p mask) ≡ 17
length-turn n p mask =
    ap suc (length-append (to_le 8 p) (to_le 8 mask)) ∙ omega (arith, length_digits 256 8 p, length_digits 256 8 mask)

-- page and mask, then the count
pub turn-put : (k : List ℕ) (n p mask : ℕ) → length k ≡ control_length
    → set (put (put k 665 (to_le 8 p)) 673 (to_le 8 mask)) 664 n ≡ put k turn_at (turn_bytes n p mask)
turn-put k n p mask size =
    let page = length_digits 256 8 p in
    let bits = length_digits 256 8 mask in
    let first = length-put k 665 (to_le 8 p) (omega (arith, page, size)) in
    let second = length-put (put k 665 (to_le 8 p)) 673 (to_le 8 mask) (omega (arith, bits, first, size)) in
    sym (put_one (put (put k 665 (to_le 8 p)) 673 (to_le 8 mask)) 664 n (omega (arith, first, second, size)))
    ∙ sym (put-comm (put k 665 (to_le 8 p)) 664 (n ∷ []) 673 (to_le 8 mask) (lit≤ tt) (omega (arith, bits, first, size)))
    ∙ ap (λ (l : List ℕ). put l 673 (to_le 8 mask)) (sym (put-comm k 664 (n ∷ []) 665 (to_le 8 p) (lit≤ tt) (omega (arith, page, size))))
    ∙ put_three k 664 (n ∷ []) (to_le 8 p) (to_le 8 mask) 665 673 refl (omega (arith, page)) (omega (arith, bits, size))

-- no page is open; one is
module _ (k : List ℕ) (p : ℕ) where
  pub none_open : (get_or k 664 0 ≡ 1 → ⊥) → (false ≡ is_open k p) × (false ≡ other_open k p)
  unfolding is_open other_open turn_count
  none_open e = (
    sym (ap (λ (b : Bool). b && eqb (turn_page k) p) (ne_eqb (get_or k 664 0) 1 e)),
    sym
        (ap (λ (b : Bool). b && not (eqb (turn_page k) p)) (ne_eqb (get_or k 664 0) 1 e)),
  )

  pub one-open : get_or k 664 0 ≡ 1 → (eqb (from_le (part k 665 8)) p ≡ is_open k p) × (not (eqb (from_le (part k 665 8)) p) ≡ other_open k p)
  unfolding is_open other_open turn_count turn_page
  one-open e = (
    sym (ap (λ (b : Bool). b && eqb (from_le (part k 665 8)) p) (eq-eqb (get_or k 664 0) 1 e)),
    sym (ap (λ (b : Bool). b && not (eqb (from_le (part k 665 8)) p)) (eq-eqb (get_or k 664 0) 1 e)),
  )

-- its validity
module _ (k : List ℕ) where
  pub turn-none : get_or k 664 0 ≡ 0 → true ≡ valid_turn k
  unfolding valid_turn turn_count
  turn-none e = sym (ap (λ (x : Bool). x || (eqb (get_or k 664 0) 1 && ltb (turn_page k) (pages (depth k)) && ltb 0 (turn_mask k)))
      (eq-eqb (get_or k 664 0) 0 e))

  module _ (some : get_or k 664 0 ≡ 0 → ⊥) where
    some_turn : valid_turn k ≡ eqb (get_or k 664 0) 1 && ltb (turn_page k) (pages (depth k)) && ltb 0 (turn_mask k)
    unfolding valid_turn turn_count
    some_turn = ap (λ (x : Bool). x || (eqb (get_or k 664 0) 1 && ltb (turn_page k) (pages (depth k)) && ltb 0 (turn_mask k)))
        (ne_eqb (get_or k 664 0) 0 some)

    pub turn_many : (get_or k 664 0 ≡ 1 → ⊥) → false ≡ valid_turn k
    turn_many e =
        sym (some_turn ∙ ap (λ (x : Bool). x && ltb (turn_page k) (pages (depth k)) && ltb 0 (turn_mask k)) (ne_eqb (get_or k 664 0) 1 e))

    module _ (one : get_or k 664 0 ≡ 1) where
      pub turn-past : pages (depth k) ≤ turn_page k → false ≡ valid_turn k
      turn-past p =
          sym (some_turn ∙ ap₂ (λ (x y : Bool). x && y && ltb 0 (turn_mask k)) (eq-eqb (get_or k 664 0) 1 one)
          (le-ltb (turn_page k) (pages (depth k)) p))

      pub turn_in : turn_page k < pages (depth k) → ltb 0 (turn_mask k) ≡ valid_turn k
      turn_in p =
          sym (some_turn ∙ ap₂ (λ (x y : Bool). x && y && ltb 0 (turn_mask k)) (eq-eqb (get_or k 664 0) 1 one)
          (lt-ltb (turn_page k) (pages (depth k)) p))

-- what it tells of a page that is open
pub record Turn (k : List ℕ) : Type 0 where
  pub page : turn_page k < pages (depth k)
  pub lines : 0 < turn_mask k

pub open_turn : {k : List ℕ} → valid_turn k ≡ true → turn_count k ≡ 1 → Turn k
unfolding valid_turn
open_turn {k} e o =
    let one = ap (λ (n : ℕ). eqb n 0 || (eqb n 1 && ltb (turn_page k) (pages (depth k)) && ltb 0 (turn_mask k))) (sym o) ∙ e in
    let both = (and-eq-true_iff (ltb (turn_page k) (pages (depth k))) (ltb 0 (turn_mask k))).0 one in
    record {
      page = ltb-true (turn_page k) (pages (depth k)) both.0;
      lines = ltb-true 0 (turn_mask k) both.1;
    }

-- records of the same section
module _ (k t : List ℕ) (e : drop 664 k ≡ drop 664 t) where
  pub same-turn-count : turn_count k ≡ turn_count t
  unfolding turn_count
  same-turn-count = sym (get_or-drop 664 k 0 0) ∙ ap (λ (l : List ℕ). get_or l 0 0) e ∙ get_or-drop 664 t 0 0

  pub same-turn-page : turn_page k ≡ turn_page t
  unfolding turn_page
  same-turn-page = ap (λ (l : List ℕ). from_le (take 8 l)) (sym (drop-drop 1 664 k) ∙ ap (drop 1) e ∙ drop-drop 1 664 t)

  pub same-turn-mask : turn_mask k ≡ turn_mask t
  unfolding turn_mask
  same-turn-mask = ap (λ (l : List ℕ). from_le (take 8 l)) (sym (drop-drop 9 664 k) ∙ ap (drop 9) e ∙ drop-drop 9 664 t)

  pub same-open : (p : ℕ) → is_open k p ≡ is_open t p
  unfolding is_open
  same-open p = ap₂ (λ (n q : ℕ). eqb n 1 && eqb q p) same-turn-count same-turn-page

  pub same_turn : depth k ≡ depth t → valid_turn k ≡ valid_turn t
  unfolding valid_turn
  same_turn d =
      ap₂ (λ (n h : ℕ). eqb n 0 || (eqb n 1 && ltb (turn_page k) (pages h) && ltb 0 (turn_mask k))) same-turn-count d
      ∙ ap₂ (λ (q x : ℕ). eqb (turn_count t) 0 || (eqb (turn_count t) 1 && ltb q (pages (depth t)) && ltb 0 x)) same-turn-page same-turn-mask

-- ---- validity

module _ (k : List ℕ) where
  pub wrong-head : valid_head k ≡ false → false ≡ valid k
  unfolding valid
  wrong-head e = sym (ap (λ (b : Bool). b && in_map (cells (depth k)) (queue k) && valid_turn k) e)

  module _ (e : valid_head k ≡ true) where
    pub wrong-cells : in_map (cells (depth k)) (places k 24 (count k)) ≡ false → false ≡ valid k
    unfolding valid queue
    wrong-cells p = sym (ap₂ (λ (a b : Bool). a && b && valid_turn k) e p)

    pub right-cells : in_map (cells (depth k)) (places k 24 (count k)) ≡ true → valid_turn k ≡ valid k
    unfolding valid queue
    right-cells p = sym (ap₂ (λ (a b : Bool). a && b && valid_turn k) e p)

-- what validity tells
pub record Valid (k : List ℕ) : Type 0 where
  pub start : valid_head k ≡ true
  pub head : Head k
  pub cells_in : in_map (cells (depth k)) (queue k) ≡ true
  pub turn : valid_turn k ≡ true

pub valid-parts : {k : List ℕ} → valid k ≡ true → Valid k
unfolding valid
valid-parts {k} e =
    let both = (and-eq-true_iff (valid_head k && in_map (cells (depth k)) (queue k)) (valid_turn k)).0 e in
    let first = (and-eq-true_iff (valid_head k) (in_map (cells (depth k)) (queue k))).0 both.0 in
    record { start = first.0; head = right-head first.0; cells_in = first.1; turn = both.1 }

pub parts-valid : (k : List ℕ) → valid_head k ≡ true → in_map (cells (depth k)) (queue k) ≡ true → valid_turn k ≡ true → valid k ≡ true
unfolding valid
parts-valid k a b c = ap₂ (λ (x y : Bool). x && y && valid_turn k) a b ∙ c
