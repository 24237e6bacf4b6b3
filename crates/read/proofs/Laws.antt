-- Answers that are not done. Assumes nothing.
use mathlib.Core.Path.{◌≡◌, subst}
use mathlib.Core.Logic.{inl, inr}
use mathlib.Core.List.{[], ◌∷◌}
use denote.Enum.Declared.{tag_of}
use types.Run.{OneOf}
use Prim.Native.Nat.{ℕ}
use native.Mathlib.Omega.{arith}
use Rattle.answer.specs.declared.Answer.{Answer}
use Rattle.answer.specs.declared.Answer.TheVariants.{Done}
use Rattle.answer.specs.contracts.Answer.{the_type}

-- an answer of another variant than the first is not done
pub not_done : (r : Answer) → OneOf (1 ∷ 2 ∷ 3 ∷ []) (tag_of the_type r) → (n s : ℕ) → r ≡ Done n s → ⊥
not_done r k n s e = go (subst (λ (x : Answer). OneOf (1 ∷ 2 ∷ 3 ∷ []) (tag_of the_type x)) e k)
  where
    go : OneOf (1 ∷ 2 ∷ 3 ∷ []) 0 → ⊥
    go (inl z) = omega arith
    go (inr (inl z)) = omega arith
    go (inr (inr z)) = omega arith
