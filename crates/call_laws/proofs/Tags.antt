-- Lists of tags. Assumes nothing.
use mathlib.Core.Path.{◌≡◌, refl, sym, ap, ap₂, ◌∙◌}
use mathlib.Core.List.{List, ◌++◌, append-nil, append_assoc}
use Prim.Native.Nat.{ℕ, zero, suc, ◌+◌, ◌*◌, ◌≤◌, ◌<◌}
use native.Mathlib.Nat.{le_refl, suc-add}
use native.Mathlib.Omega.{arith}
use lib.Dec.{lit<}
use lib.ListN.{length, length-append}
use Rattle.words.specs.Bytes.{to_le}
use Rattle.words.proofs.Digits.{Below, below-nil, below-append, below-digits, length_digits}
use Rattle.tag.specs.Tag.{node_tag}
use Rattle.calls.specs.Path.{tags_from}

module _ (keys : List ℕ) (l : ℕ) where
  pub tags-length : (f : ℕ → List ℕ) (i n : ℕ) → length (tags_from keys l f i n) ≡ 8 * n
  unfolding tags_from
  tags-length f i zero = refl
  tags-length f i (suc n) =
      length-append (to_le 8 (node_tag keys (f i) l i)) (tags_from keys l f (suc i) n)
      ∙ omega (arith, length_digits 256 8 (node_tag keys (f i) l i), tags-length f (suc i) n)

  pub tags-bytes : (f : ℕ → List ℕ) (i n : ℕ) → Below 256 (tags_from keys l f i n)
  unfolding tags_from
  tags-bytes f i zero = below-nil (lit< tt)
  tags-bytes f i (suc n) = below-append _ (tags_from keys l f (suc i) n) (below-digits 256 8 _ (lit< tt)) (tags-bytes f (suc i) n)

  -- contents that agree give the same tags
  pub tags-agree : (f g : ℕ → List ℕ) (i n : ℕ) → ((j : ℕ) → i ≤ j → j < i + n → f j ≡ g j)
      → tags_from keys l f i n ≡ tags_from keys l g i n
  unfolding tags_from
  tags-agree f g i zero e = refl
  tags-agree f g i (suc n) e =
      ap₂ (λ (a b : List ℕ). to_le 8 (node_tag keys a l i) ++ b) (e i (le_refl i) (omega arith))
      (tags-agree f g (suc i) n (λ j p q. e j (omega arith) (omega arith)))

  -- one tag more
  pub tags-snoc : (f : ℕ → List ℕ) (i n : ℕ)
      → tags_from keys l f i (n + 1) ≡ tags_from keys l f i n ++ to_le 8 (node_tag keys (f (i + n)) l (i + n))
  unfolding tags_from
  tags-snoc f i zero =
      let here : i ≡ i + 0 = omega arith in
      append-nil (to_le 8 (node_tag keys (f i) l i)) ∙ ap (λ (j : ℕ). to_le 8 (node_tag keys (f j) l j)) here
  tags-snoc f i (suc n) =
      let first = to_le 8 (node_tag keys (f i) l i) in
      let next : suc i + n ≡ i + suc n = omega arith in
      ap (tags_from keys l f i) (suc-add n 1)
      ∙ ap (λ (r : List ℕ). first ++ r)
      (tags-snoc f (suc i) n ∙ ap (λ (j : ℕ). tags_from keys l f (suc i) n ++ to_le 8 (node_tag keys (f j) l j)) next)
      ∙ sym (append_assoc first (tags_from keys l f (suc i) n) (to_le 8 (node_tag keys (f (i + suc n)) l (i + suc n))))
