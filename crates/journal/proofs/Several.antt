-- Stores in two parts under one allowance: the second part under what the first has left of it. Assumes nothing.
use mathlib.Core.Path.{◌≡◌, sym, ap, ap₂, ◌∙◌}
use mathlib.Core.Logic.{◌⊎◌, inl, inr}
use mathlib.Core.List.{List, ◌++◌, append-nil}
use Prim.Native.Nat.{ℕ, ◌+◌, ◌-◌, ◌≤◌, ◌<◌}
use native.Mathlib.Omega.{arith}
use lib.ListN.{length, length-append, length-take}
use lib.Seq.{take_all, take-append-le, take-append-add}
use Rattle.words.proofs.Order.{lt-or-ge}
use Rattle.journal.specs.Journal.{Store, Media, store_all, made, Stored}
use Rattle.journal.proofs.Laws.{store-append}

module _ (a : ℕ) (xs ys : List Store) where
  made-both : made a (xs ++ ys) ≡ made a xs ++ made (a - length xs) ys
  made-both = go (lt-or-ge a (length xs))
    where
      go : (a < length xs) ⊎ (length xs ≤ a) → made a (xs ++ ys) ≡ made a xs ++ made (a - length xs) ys
      go (inl h) =
          let none : a - length xs ≡ 0 = omega arith in
          take-append-le a xs ys (omega arith) ∙ sym (append-nil (made a xs))
          ∙ ap (λ (i : ℕ). made a xs ++ made i ys) (sym none)
      go (inr h) =
          let all : a ≡ length xs + (a - length xs) = omega arith in
          ap (λ (i : ℕ). made i (xs ++ ys)) all ∙ take-append-add xs ys (a - length xs)
          ∙ ap (λ (zs : List Store). zs ++ made (a - length xs) ys) (sym (take_all a xs h))

  pub stored-both : {m middle after : Media} {s t : ℕ} → Stored a xs m middle s → Stored (a - s) ys middle after t
      → Stored a (xs ++ ys) m after (s + t)
  stored-both {m} {middle} {after} {s} {t} first second =
      let rest : a - s ≡ a - length xs = omega (arith, first.number, length-take a xs) in
      record {
        left =
            second.left
            ∙ ap₂ {C = Media} (λ (x : Media) (i : ℕ). store_all x (made i ys)) first.left rest
            ∙ sym (store-append m (made a xs) (made (a - length xs) ys)) ∙ ap (store_all m) (sym made-both);
        number =
            ap₂ ◌+◌ first.number (second.number ∙ ap (λ (i : ℕ). length (made i ys)) rest)
            ∙ sym (length-append (made a xs) (made (a - length xs) ys)) ∙ ap length (sym made-both);
      }
