-- A batch of sound cells that is staged as far as an allowance goes, and run: its stores. Assumes nothing.
use mathlib.Core.Path.{◌≡◌, sym, ap, ap₂, ◌∙◌, subst, subst₂}
use mathlib.Core.Bool.{Bool, true}
use mathlib.Core.List.{List}
use Prim.Native.Nat.{ℕ, ◌+◌, ◌*◌, ◌/◌, ◌≤◌, ◌<◌}
use native.Mathlib.Omega.{arith}
use lib.ListN.{length}
use Rattle.memory_map.specs.Map.{array_length}
use Rattle.answer.specs.declared.Answer.TheVariants.{Done, Cut}
use Rattle.control.specs.Control.{Cell, control_length, place_at, places, in_map}
use Rattle.batch.specs.Batch.{staged_from}
use Rattle.journal.specs.Journal.{Store, Media, media, batch_stores, turn_stores, Stored}
use Rattle.journal.proofs.Each.{Each}
use Rattle.journal.proofs.Laws.{length-batch}
use Rattle.journal.proofs.Steps.{Ran, staged-places, run-stored}
use Rattle.journal.proofs.Turns.{RanTurn, turn-stored}
use Rattle.calls.specs.Call.{buffers, ended, storing}
use Rattle.call_laws.proofs.Loads.{Sound}
use Rattle.call_laws.proofs.Kept.{wholes, in_map_lem, array-cells}
use Rattle.call_laws.proofs.Storing.{storing-cut, storing-done, all_told}

-- a batch of the cells cs, staged in k as far as an allowance goes: k₁, with n cells
pub record Staged (h allowance : ℕ) (a k : List ℕ) (cs : List Cell) (k₁ : List ℕ) (n : ℕ) : Type 0 where
  pub flat : h ≤ 3
  pub array : length a ≡ array_length h
  pub control : length k ≡ control_length
  pub sound : Each (Sound h) cs
  pub some : 1 ≤ length cs
  pub few : length cs ≤ 8
  pub cells : k₁ ≡ staged_from allowance 0 cs k
  pub number : n ≡ length cs

module _ {h allowance : ℕ} {a k : List ℕ} {cs : List Cell} {k₁ : List ℕ} {n : ℕ} (s : Staged h allowance a k cs k₁ n) where
  -- what is staged whole lies in the map
  pub staged-inside : n < allowance → in_map (length a / 72) (places k₁ (place_at 0) n) ≡ true
  staged-inside p =
      ap₂ {C = Bool} in_map (array-cells h (length a) s.array)
      (ap₂ {C = List Cell} (λ (x : List ℕ) (i : ℕ). places x (place_at 0) i) s.cells s.number
      ∙ staged-places a k cs 0 allowance s.control s.some s.few (wholes h s.flat s.sound) (omega (arith, s.number)))
      ∙ in_map_lem h s.sound

  pub staged-run : (r : ℕ) (after : Media) (told : ℕ) → Ran a k₁ n r allowance after told
      → Stored allowance (batch_stores cs r) (media a k) after told
  staged-run r after told ran =
      run-stored a k cs r allowance s.control s.some s.few (wholes h s.flat s.sound) after told
      (subst₂ (λ (x : List ℕ) (i : ℕ). Ran a x i r allowance after told) s.cells s.number ran)

  -- as a batch of a turn, whose commit sets a section
  pub staged-turn : (r : ℕ) (section : List ℕ) (after : Media) (told : ℕ) → RanTurn a k₁ n r section allowance after told
      → Stored allowance (turn_stores cs r section) (media a k) after told
  staged-turn r section after told ran =
      turn-stored a k cs r section allowance s.control s.some s.few (wholes h s.flat s.sound) after told
      (subst₂ (λ (x : List ℕ) (i : ℕ). RanTurn a x i r section allowance after told) s.cells s.number ran)

  -- run with a root that is known: its 2n + 3 stores, or as many of them as the allowance goes
  module _ {r top : ℕ} (is : r ≡ top) {a' k' : List ℕ} {told : ℕ} (ran : Ran a k₁ n r allowance (media a' k') told) where
    abbrev xs : List Store
    xs = batch_stores cs top

    pub stored : Stored allowance xs (media a k) (media a' k') told
    stored =
        subst (λ (z : ℕ). Stored allowance (batch_stores cs z) (media a k) (media a' k') told) is (staged-run r (media a' k') told ran)

    many : length xs ≡ 2 * n + 3
    many = length-batch cs top s.some ∙ ap (λ (i : ℕ). 2 * i + 3) (sym s.number)

    pub staged-cut : (c d : List ℕ) → told < 2 * n + 3 → ended (Cut told) a' k' c
        ≡ storing allowance (buffers a k c) xs (Done (length xs) 0) d
    staged-cut c d q = storing-cut allowance (buffers a k c) xs (Done (length xs) 0) d a' k' told stored (omega (arith, many))

    pub staged_done : (c d : List ℕ) → 2 * n + 3 ≤ told → ended (Done told 0) a' k' d
        ≡ storing allowance (buffers a k c) xs (Done (length xs) 0) d
    staged_done c d q =
        let m = buffers a k c in
        let whole : length xs ≤ told = omega (arith, many) in
        ap (λ (i : ℕ). ended (Done i 0) a' k' d) (all_told allowance m xs (Done (length xs) 0) d a' k' told stored whole)
        ∙ storing-done allowance m xs (Done (length xs) 0) d a' k' told stored whole
