-- The steps of the loops over 64 minors: their mask from the last one down, and each turned. Assumes nothing.
use mathlib.Core.Path.{◌≡◌, sym, ap, ◌∙◌, subst}
use mathlib.Core.List.{List, map}
use Prim.Native.Nat.{ℕ, ◌+◌, ◌-◌, ◌*◌, ◌^◌, ◌≤◌, ◌<◌}
use native.Mathlib.Nat.{zero-add}
use native.Mathlib.Omega.{arith}
use lib.ListN.{length, get_or, set, drop, length-drop, drop_of_length-le}
use Rattle.words.specs.Bytes.{number, part, put}
use Rattle.words.proofs.Digits.{below-drop, number-from, number-lt-pow}
use Rattle.words.proofs.Parts.{copy-next, copy-all}
use Rattle.counter.specs.Counter.{turned_minor}
use Rattle.turn_block.proofs.Laws.{length-turned-minors, below-turned-minors, get_d-turned}

module _ (ss : List ℕ) (count : length ss ≡ 64) where
  abbrev ds : List ℕ
  ds = map turned_minor ss

  size : length ds ≡ 64
  size = length-turned-minors ss ∙ count

  -- the mask of the minors from j on
  pub mask-none : 0 ≡ number 2 (drop 64 ds)
  unfolding number
  mask-none = let short : length ds ≤ 64 = omega (arith, size) in ap (number 2) (sym (drop_of_length-le ds short))

  module _ {j mask : ℕ} (so_far : mask ≡ number 2 (drop j ds)) (more : 0 < j) (most : j ≤ 64) where
    pub mask_lt : mask < 2 ^ 63
    mask_lt =
        let rest : length (drop j ds) ≤ 63 = omega (arith, length-drop j ds, size) in
        omega (arith, so_far, number-lt-pow 2 63 (drop j ds) (below-drop j ds (below-turned-minors ss)) rest)

    pub mask_next : (bit : ℕ) → bit ≡ turned_minor (get_or ss (j - 1) 0) → mask * 2 + bit ≡ number 2 (drop (j - 1) ds)
    mask_next bit e =
        let here : j - 1 + 1 ≡ j = omega arith in
        let same : number 2 (drop (j - 1 + 1) ds) ≡ mask = ap (λ (k : ℕ). number 2 (drop k ds)) here ∙ sym so_far in
        let step = number-from 2 ds (j - 1) (omega (arith, size)) in
        omega (arith, step, same, e, get_d-turned ss (j - 1))

  -- the first j turned, written over as many of d
  module _ (d : List ℕ) (room : length d ≡ 64) where
    pub turn-next : {j v : ℕ} → j < 64 → v ≡ turned_minor (get_or ss j 0) → set (put d 0 (part ds 0 j)) j v ≡ put d 0 (part ds 0 (j + 1))
    turn-next {j} {v} h e =
        ap (set (put d 0 (part ds 0 j)) j) (e ∙ sym (get_d-turned ss j))
        ∙ subst (λ (k : ℕ). set (put d 0 (part ds 0 j)) k (get_or ds k 0) ≡ put d 0 (part ds 0 (j + 1))) (zero-add j)
        (copy-next d 0 ds 0 j (omega arith) (omega (arith, size)))

    pub turn-all : put d 0 (part ds 0 64) ≡ ds
    turn-all = copy-all 64 d ds room size
