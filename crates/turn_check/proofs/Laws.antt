-- Going through the lines of a page by the set bits of a number, and what is found said of a loaded cache. Assumes nothing.
use mathlib.Core.Path.{◌≡◌, refl, sym, ap, ap₂, ◌∙◌, subst}
use mathlib.Core.Bool.{Bool, true, false, ◌&&◌, not, cond}
use mathlib.Core.List.{List, [], ◌∷◌}
use Prim.Native.Nat.{ℕ, ◌^◌, ◌<◌}
use native.Mathlib.Omega.{arith}
use borrow.Author.Tests.{eq-eqb, ne_eqb}
use lib.Dec.{eqb}
use lib.ListN.{get_or, drop}
use lib.Seq.{drop-cons}
use Rattle.bits.specs.Bits.{set_bits}
use Rattle.bits.proofs.Climbs.{Climbs, end, up}
use Rattle.bits.proofs.Laws.{bits-some, bits-climb}
use Rattle.memory_map.specs.Map.{page_of, place_of}
use Rattle.slot_map.specs.Slots.{slot_of}
use Rattle.counter.specs.Counter.{major, minors, minor, written_from}
use Rattle.side.specs.Side.{side_fits}
use Rattle.control.specs.Control.{is_open, turn_mask}
use Rattle.cache.specs.Cache.{content, cell_bytes}
use Rattle.std.specs.Prelude.{Option, None, Some}
use Rattle.calls.specs.Read.{line_minor, side_ok}
use Rattle.calls.specs.Turn.{line_at, block_of, turn_places, bad_line}
use Rattle.turn_check.specs.FirstBad.{line_fits, first_bad}

-- ---- the lines at the set bits of x

module _ (f : ℕ) (keys a : List ℕ) (p ma : ℕ) (ms : List ℕ) where
  pub bad-none : {js : List ℕ} → js ≡ [] → first_bad f keys a p ma ms js ≡ None
  unfolding first_bad
  bad-none e = ap (first_bad f keys a p ma ms) e

  -- the line at the first of them
  module _ (x : ℕ) {j mi : ℕ} {js : List ℕ} (split : set_bits x ≡ j ∷ js) (its : mi ≡ get_or ms j 0) where
    by-first : (b : Bool) → line_fits f keys a (line_at p j) ma mi ≡ b
        → first_bad f keys a p ma ms (set_bits x) ≡ cond b (first_bad f keys a p ma ms js) (Some (line_at p j))
    unfolding first_bad
    by-first b e =
        ap (first_bad f keys a p ma ms) split
        ∙ ap (λ (t : Bool). cond t (first_bad f keys a p ma ms js) (Some (line_at p j)))
        (ap (line_fits f keys a (line_at p j) ma) (sym its) ∙ e)

    abbrev side : Bool
    side = side_fits f keys (cell_bytes a (line_at p j)) (line_at p j) ma mi

    pub bad-zero : mi ≡ 0 → Some (line_at p j) ≡ first_bad f keys a p ma ms (set_bits x)
    bad-zero z = sym (by-first false (ap (λ (b : Bool). not b && side) (eq-eqb mi 0 z)))

    module _ (written : mi ≡ 0 → ⊥) where
      side-tells : (b : Bool) → side ≡ b → line_fits f keys a (line_at p j) ma mi ≡ b
      side-tells b e = ap (λ (t : Bool). not t && side) (ne_eqb mi 0 written) ∙ e

      pub bad-side : side ≡ false → Some (line_at p j) ≡ first_bad f keys a p ma ms (set_bits x)
      bad-side e = sym (by-first false (side-tells false e))

      pub bad-later : side ≡ true → first_bad f keys a p ma ms (set_bits x) ≡ first_bad f keys a p ma ms js
      bad-later e = by-first true (side-tells true e)

-- a set bit of a number of 64 bits
pub bit-small : (x : ℕ) {j : ℕ} {js : List ℕ} → set_bits x ≡ j ∷ js → j < 64
bit-small x {j} {js} e = head (subst (Climbs 64 0) e (bits-climb x))
  where
    head : Climbs 64 0 (j ∷ js) → j < 64
    head (up q h rest) = h

pub bits-split : (x y : ℕ) {j : ℕ} → 0 < x → x < 2 ^ 64 → j ≡ get_or (set_bits x) 0 0 → set_bits y ≡ drop 1 (set_bits x)
    → set_bits x ≡ j ∷ set_bits y
bits-split x y some small low rest =
    drop-cons (set_bits x) 0 0 (bits-some x some small) ∙ ap₂ {C = List ℕ} (λ (i : ℕ) (l : List ℕ). i ∷ l) (sym low) (sym rest)

-- ---- of a cache in which the path of page p is loaded

-- the places still to turn
pub places_same : (k c : List ℕ) (p : ℕ) {ms js : List ℕ} → ms ≡ minors (block_of c p)
    → js ≡ cond (is_open k p) (set_bits (turn_mask k)) (written_from 0 ms) → js ≡ turn_places k c p
unfolding turn_places
places_same k c p are-minors e = e ∙ ap (λ (l : List ℕ). cond (is_open k p) (set_bits (turn_mask k)) (written_from 0 l)) are-minors

module _ (f : ℕ) (keys a c : List ℕ) (p : ℕ) {ma : ℕ} {ms : List ℕ} (is-major : ma ≡ major (block_of c p))
    (are-minors : ms ≡ minors (block_of c p)) where
  -- a line of the page has its page and its place
  fits-same : (j : ℕ) → j < 64
      → (not (eqb (line_minor c (line_at p j)) 0) && side_ok f keys a c (line_at p j)) ≡ line_fits f keys a (line_at p j) ma (get_or ms j 0)
  unfolding side_ok
  fits-same j h =
      let n = line_at p j in
      let page : page_of n ≡ p = omega arith in
      let place : place_of n ≡ j = omega arith in
      let block : content c (slot_of 0 (page_of n)) ≡ block_of c p = ap (λ (i : ℕ). content c (slot_of 0 i)) page in
      let its : line_minor c n ≡ get_or ms j 0 =
      ap₂ {C = ℕ} minor block place ∙ ap (λ (l : List ℕ). get_or l j 0) (sym are-minors) in
      ap₂ {C = Bool} (λ (x y : ℕ). line_fits f keys a n x y) (ap major block ∙ sym is-major) its

  pub bad-same : {lo : ℕ} (js : List ℕ) → Climbs 64 lo js → bad_line f keys a c p js ≡ first_bad f keys a p ma ms js
  unfolding bad_line first_bad
  bad-same [] end = refl
  bad-same (j ∷ js) (up q h rest) =
      ap₂ {C = Option ℕ} (λ (b : Bool) (r : Option ℕ). cond b r (Some (line_at p j))) (fits-same j h) (bad-same js rest)

  pub bad-of : (k : List ℕ) (x : ℕ) → set_bits x ≡ turn_places k c p
      → first_bad f keys a p ma ms (set_bits x) ≡ bad_line f keys a c p (turn_places k c p)
  bad-of k x e = sym (bad-same (set_bits x) (bits-climb x)) ∙ ap (bad_line f keys a c p) e
