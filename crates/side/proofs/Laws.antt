-- Side bytes of either family: their size, their word, and the cell that has them. Assumes nothing.
use mathlib.Core.Path.{◌≡◌, refl, sym, ap, ap₂, ◌∙◌}
use mathlib.Core.Bool.{true}
use mathlib.Core.List.{List, ◌++◌}
use Prim.Native.Nat.{ℕ, zero, suc, ◌+◌, ◌*◌, ◌%◌, ◌^◌, ◌<◌}
use native.Mathlib.Omega.{arith}
use borrow.Author.Tests.{eq-eqb}
use lib.Dec.{lit<}
use lib.ListN.{length, get_or, take, length-append}
use lib.Seq.{take_at, drop_at, take_all, get_or_at}
use Rattle.words.specs.Bytes.{number, from_le, to_le, part}
use Rattle.words.proofs.Digits.{Below, below-cons, below-digits, length_digits, number_digits, number-exact, digits-exact}
use Rattle.counter.specs.Counter.{phase_of}
use Rattle.tag.specs.Tag.{data_hash}
use Rattle.side.specs.Side.{side_bytes, side_fits}

pub length-side : (f : ℕ) (keys b : List ℕ) (line ma mi : ℕ) → length (side_bytes f keys b line ma mi) ≡ 8
unfolding side_bytes
length-side zero keys b line ma mi = omega (arith, length_digits 256 7 (data_hash keys b line ma mi))
length-side (suc f) keys b line ma mi = length_digits 256 8 (data_hash keys b line ma mi)

pub below-side : (f : ℕ) (keys b : List ℕ) (line ma mi : ℕ) → Below 256 (side_bytes f keys b line ma mi)
unfolding side_bytes
below-side zero keys b line ma mi = below-cons (omega arith) (below-digits 256 7 _ (lit< tt))
below-side (suc f) keys b line ma mi = below-digits 256 8 _ (lit< tt)

-- as one word, by the hash
module _ (keys b : List ℕ) (line ma mi : ℕ) {hash : ℕ} (e : hash ≡ data_hash keys b line ma mi) where
  pub phase-word : (f : ℕ) → f ≡ 0 → mi % 4 + 256 * (hash % 2 ^ 56) ≡ from_le (side_bytes f keys b line ma mi)
  unfolding side_bytes number
  phase-word f z =
      ap (λ (x : ℕ). mi % 4 + 256 * (x % 2 ^ 56)) e
      ∙ ap (λ (t : ℕ). mi % 4 + 256 * t) (sym (number_digits 256 7 (data_hash keys b line ma mi) (lit< tt)))
      ∙ ap (λ (n : ℕ). from_le (side_bytes n keys b line ma mi)) (sym z)

  pub hash-word : (f : ℕ) → (f ≡ 0 → ⊥) → hash < 2 ^ 64 → hash ≡ from_le (side_bytes f keys b line ma mi)
  unfolding side_bytes
  hash-word zero z q = absurd (z refl)
  hash-word (suc f) z q = sym (ap (λ (x : ℕ). from_le (to_le 8 x)) (sym e) ∙ number-exact 256 8 hash (lit< tt) q)

module _ (f : ℕ) (keys b : List ℕ) (line ma mi : ℕ) where
  abbrev side : List ℕ
  side = side_bytes f keys b line ma mi

  -- and back
  pub side-back : to_le 8 (from_le side) ≡ side
  side-back = digits-exact 256 8 side (length-side f keys b line ma mi) (below-side f keys b line ma mi)

  -- the cell of a content and its side bytes
  module _ (full : length b ≡ 64) where
    pub length-cell : length (b ++ side) ≡ 72
    length-cell = length-append b side ∙ ap₂ ◌+◌ full (length-side f keys b line ma mi)

    side-in : part (b ++ side) 64 8 ≡ side
    side-in = ap (take 8) (drop_at b side 64 full) ∙ take_all 8 side (omega (arith, length-side f keys b line ma mi))

    pub side-fits : side_fits f keys (b ++ side) line ma mi ≡ true
    unfolding side_fits
    side-fits =
        eq-eqb _ _ (ap from_le side-in ∙ sym (ap (λ (l : List ℕ). from_le (side_bytes f keys l line ma mi)) (take_at b side 64 full)))

-- the phase of a cell of family 0
pub phase-in : (f : ℕ) → f ≡ 0 → (keys b : List ℕ) (line ma mi : ℕ) → length b ≡ 64
    → get_or (b ++ side_bytes f keys b line ma mi) 64 0 ≡ phase_of mi
unfolding side_bytes
phase-in f z keys b line ma mi full =
    ap (λ (n : ℕ). get_or (b ++ side_bytes n keys b line ma mi) 64 0) z
    ∙ get_or_at b (phase_of mi) (to_le 7 (data_hash keys b line ma mi)) 0 64 full
