-- How the code goes through a cell and through the candidates. Assumes nothing.
use mathlib.Core.Path.{◌≡◌, refl, sym, ap, ap₂, ◌∙◌}
use mathlib.Core.Logic.{◌⊎◌, inl, inr}
use mathlib.Core.Bool.{Bool, true, false, ◌&&◌}
use mathlib.Core.List.{List, [], ◌∷◌, ◌++◌}
use Prim.Native.Nat.{ℕ, zero, suc, ◌+◌, ◌-◌, ◌*◌, ◌^◌, ◌≤◌, ◌<◌}
use native.Mathlib.Nat.{add-zero}
use native.Mathlib.Omega.{arith}
use borrow.Author.Tests.{eq-eqb, ne_eqb, le-leb, lt-leb}
use lib.Dec.{leb, eqb}
use lib.ListN.{length, take, drop, take-append-drop, drop_of_length-le}
use lib.Seq.{drop-drop}
use Rattle.std.specs.List.{list_all, range_with_len}
use Rattle.words.specs.Bytes.{number, from_le, part}
use Rattle.words.proofs.Digits.{Below, below-take}
use Rattle.words.proofs.Order.{eq-or-not}
use Rattle.tag.specs.Tag.{data_hash}
use Rattle.tag.specs.States.{data_state, hash_from}
use Rattle.tag.proofs.Tags.{data_hash-lt, hash-from}
use Rattle.side.specs.Side.{side_fits}
use Rattle.side.proofs.Laws.{hash-word}
use Rattle.candidates.specs.declared.Choice.{Choice}
use Rattle.candidates.specs.declared.Choice.TheVariants.{None}
use Rattle.candidates.specs.Candidates.{all_zero, cell_fits, candidate, each, also, chosen, choice}
use Rattle.candidates.specs.Hashed.{hash_fits}

-- ---- zeros, word by word

zero_word : (ds : List ℕ) → all_zero ds ≡ eqb (from_le ds) 0
unfolding all_zero number
zero_word [] = refl
zero_word (d ∷ ds) = ap (λ (b : Bool). eqb d 0 && b) (zero_word ds) ∙ go (eq-or-not d 0) (eq-or-not (from_le ds) 0)
  where
    go : (d ≡ 0) ⊎ (d ≡ 0 → ⊥) → (from_le ds ≡ 0) ⊎ (from_le ds ≡ 0 → ⊥) → (eqb d 0 && eqb (from_le ds) 0) ≡ eqb (d + 256 * from_le ds) 0
    go (inl p) (inl q) =
        ap₂ (λ (a b : Bool). a && b) (eq-eqb d 0 p) (eq-eqb (from_le ds) 0 q)
        ∙ sym (eq-eqb (d + 256 * from_le ds) 0 (omega arith))
    go (inl p) (inr q) =
        ap₂ (λ (a b : Bool). a && b) (eq-eqb d 0 p) (ne_eqb (from_le ds) 0 q)
        ∙ sym (ne_eqb (d + 256 * from_le ds) 0 (λ z. q (omega arith)))
    go (inr p) q =
        ap (λ (a : Bool). a && eqb (from_le ds) 0) (ne_eqb d 0 p) ∙ sym (ne_eqb (d + 256 * from_le ds) 0 (λ z. p (omega arith)))

zero-append : (xs ys : List ℕ) → all_zero (xs ++ ys) ≡ all_zero xs && all_zero ys
unfolding all_zero
zero-append [] ys = refl
zero-append (x ∷ xs) ys = go (eqb x 0) (zero-append xs ys)
  where
    go : (b : Bool) → all_zero (xs ++ ys) ≡ all_zero xs && all_zero ys → (b && all_zero (xs ++ ys)) ≡ ((b && all_zero xs) && all_zero ys)
    go true e = e
    go false e = refl

-- word i of a cell, and those after it
module _ (cell : List ℕ) (i : ℕ) where
  abbrev pub word : ℕ
  word = from_le (part cell (8 * i) 8)

  split : all_zero (drop (8 * i) cell) ≡ eqb word 0 && all_zero (drop (8 * (i + 1)) cell)
  split =
      let next : 8 * i + 8 ≡ 8 * (i + 1) = omega arith in
      ap all_zero (sym (take-append-drop 8 (drop (8 * i) cell)))
      ∙ zero-append (part cell (8 * i) 8) (drop 8 (drop (8 * i) cell))
      ∙ ap₂ (λ (a : Bool) (l : List ℕ). a && all_zero l) (zero_word (part cell (8 * i) 8))
      (drop-drop 8 (8 * i) cell ∙ ap (λ (n : ℕ). drop n cell) next)

pub zeros-end : (cell : List ℕ) (i : ℕ) → length cell ≡ 72 → 9 ≤ i → all_zero (drop (8 * i) cell) ≡ true
unfolding all_zero
zeros-end cell i size p =
    let past : length cell ≤ 8 * i = omega arith in
    ap all_zero (drop_of_length-le cell past)

-- the n words from word i on, which are the last
pub words-zero : (cell : List ℕ) (n i : ℕ) → length cell ≡ 72 → i + n ≡ 9
    → list_all (λ (j : ℕ). eqb (word cell j) 0) (range_with_len i n) ≡ all_zero (drop (8 * i) cell)
words-zero cell zero i size e = sym (zeros-end cell i size (omega arith))
words-zero cell (suc n) i size e =
    ap (λ (b : Bool). eqb (word cell i) 0 && b) (words-zero cell n (i + 1) size (omega arith)) ∙ sym (split cell i)

-- ---- a cell by the state of its hash

pub hash-zero : (state cell : List ℕ) (v : ℕ) → v ≡ 0 → all_zero cell ≡ hash_fits state cell v
unfolding hash_fits
hash-zero state cell v e = sym (ap (hash_fits state cell) e)

pub hash-some : (state cell : List ℕ) (v : ℕ) → (v ≡ 0 → ⊥) → {x y : ℕ} → x ≡ from_le (part cell 64 8) → y ≡ hash_from state v
    → eqb x y ≡ hash_fits state cell v
unfolding hash_fits
hash-some state cell zero e p q = absurd (e refl)
hash-some state cell (suc v) e p q = ap₂ eqb p q

-- what is lent: keys and a cell, as bytes, a line and its major
pub record Lent (keys cell : List ℕ) (line ma : ℕ) : Type 0 where
  pub keyed : Below 256 keys
  pub plain : Below 256 cell
  pub full : length (take 64 cell) ≡ 64
  pub line_word : line < 2 ^ 64
  pub major-word : ma < 2 ^ 64

hash-fits : {keys cell : List ℕ} {line ma : ℕ} → Lent keys cell line ma → {state : List ℕ}
    → state ≡ data_state keys (take 64 cell) line ma → (v : ℕ) → v < 2 ^ 64 → hash_fits state cell v ≡ cell_fits keys cell line ma v
unfolding hash_fits cell_fits side_fits
hash-fits l e zero q = refl
hash-fits {keys} {cell} {line} {ma} l {state} e (suc v) q =
    let b = take 64 cell in
    let hash : hash_from state (suc v) ≡ data_hash keys b line ma (suc v) =
    ap (λ (x : List ℕ). hash_from x (suc v)) e ∙ hash-from keys b line ma (suc v) l.full l.line_word l.major-word q in
    ap (eqb (from_le (part cell 64 8)))
    (hash ∙ hash-word keys b line ma (suc v) refl 1 (λ z. omega arith)
    (data_hash-lt keys b line ma (suc v) l.keyed (below-take 64 cell l.plain)))

-- ---- one more candidate

module _ (x : Choice) (v : ℕ) where
  pub past-127 : 127 < v → (b : Bool) → x ≡ also x v (leb v 127 && b)
  unfolding also
  past-127 p b = rw (lt-leb v 127 p)

  module _ (q : v ≤ 127) {b : Bool} where
    small : (leb v 127 && b) ≡ b
    small = rw (le-leb v 127 q)

    pub candidate-fits : b ≡ true → also x v true ≡ also x v (leb v 127 && b)
    candidate-fits e = ap (also x v) (sym (small ∙ e))

    pub candidate-not : b ≡ false → x ≡ also x v (leb v 127 && b)
    unfolding also
    candidate-not e = ap (also x v) (sym (small ∙ e))

pub hash-candidate : {keys cell : List ℕ} {line ma : ℕ} → Lent keys cell line ma → {state : List ℕ}
    → state ≡ data_state keys (take 64 cell) line ma → (x : Choice) (v : ℕ) → v < 2 ^ 64
    → also x v (leb v 127 && hash_fits state cell v) ≡ also x v (candidate keys cell line ma v)
unfolding candidate
hash-candidate l e x v q = ap (λ (b : Bool). also x v (leb v 127 && b)) (hash-fits l e v q)

-- ---- the candidates one by one

pub choosing-first : (keys cell : List ℕ) (line ma s : ℕ)
    → choice keys cell line ma s ≡ chosen None (s + 0) (each (candidate keys cell line ma) (s + 0) (4 - 0))
unfolding choice
choosing-first keys cell line ma s =
    ap (λ (v : ℕ). chosen None v (each (candidate keys cell line ma) v 4)) (sym (add-zero s))

module _ (f : ℕ → Bool) where
  pub choosing-next : (s k : ℕ) → k < 4 → (x : Choice) {y : Choice} → y ≡ also x (s + k) (f (s + k))
      → chosen x (s + k) (each f (s + k) (4 - k)) ≡ chosen y (s + (k + 1)) (each f (s + (k + 1)) (4 - (k + 1)))
  unfolding each chosen
  choosing-next s k p x e =
      let more : 4 - k ≡ suc (4 - (k + 1)) = omega arith in
      let next : suc (s + k) ≡ s + (k + 1) = omega arith in
      ap (λ (n : ℕ). chosen x (s + k) (each f (s + k) n)) more
      ∙ ap₂ (λ (z : Choice) (v : ℕ). chosen z v (each f v (4 - (k + 1)))) (sym e) next

  pub choosing-end : (k : ℕ) → 4 ≤ k → (x : Choice) (v : ℕ) → chosen x v (each f v (4 - k)) ≡ x
  unfolding each chosen
  choosing-end k p x v = let none : 4 - k ≡ 0 = omega arith in ap (λ (n : ℕ). chosen x v (each f v n)) none
