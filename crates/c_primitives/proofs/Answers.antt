-- What an entry point answers where the sizes are right, and where one is wrong. Assumes nothing.
use mathlib.Core.Path.{◌≡◌, refl, ◌∙◌}
use mathlib.Core.Bool.{Bool, true, false, ◌&&◌, cond}
use mathlib.Core.List.{List}
use Prim.Native.Nat.{ℕ}
use borrow.Author.Tests.{eq-eqb, ne_eqb}
use lib.Dec.{eqb}
use lib.ListN.{length}
use Rattle.words.specs.Bytes.{part, put}
use Rattle.words.proofs.Parts.{copy-all}
use Rattle.c_primitives.specs.Primitives.{code}

pub refused : {right : Bool} (new out : List ℕ) → right ≡ false → (1 ≡ code right) × (out ≡ cond right new out)
refused new out e = simp e (refl, refl)

pub done : {right : Bool} {new after : List ℕ} (out : List ℕ) → right ≡ true → after ≡ new → (0 ≡ code right) × (after ≡ cond right new out)
done out e same = simp e (refl, same)

-- sizes are tested one after the other
pub wrong : {n m : ℕ} (rest : Bool) → (n ≡ m → ⊥) → (eqb n m && rest) ≡ false
wrong {n} {m} rest h = simp (ne_eqb n m h)

pub right-then : {n m : ℕ} {rest answer : Bool} → n ≡ m → rest ≡ answer → (eqb n m && rest) ≡ answer
right-then {n} {m} h e = simp (eq-eqb n m h) e

pub copied : {after want : List ℕ} (n : ℕ) (new out : List ℕ) → length new ≡ n → length out ≡ n
    → after ≡ put out 0 (part new 0 n) → new ≡ want → after ≡ want
copied n new out hn ho e same = e ∙ copy-all n out new ho hn ∙ same
