-- What the C side is told, by the length of the buffer for the numbers. Assumes nothing.
use mathlib.Core.Path.{◌≡◌, ap, ◌∙◌}
use mathlib.Core.List.{List}
use Prim.Native.Nat.{ℕ, ◌+◌, ◌<◌, ◌≤◌}
use native.Mathlib.Omega.{arith}
use borrow.Author.Tests.{eq-eqb, ne_eqb}
use lib.ListN.{length}
use Rattle.words.specs.Bytes.{bytes_of}
use Rattle.answer.specs.Answer.{code_of, values_of}
use Rattle.answer.specs.declared.Answer.{Answer}
use Rattle.calls.specs.Call.{Module, Called}
use Rattle.calls.specs.Read.{Reading}
use Rattle.calls.specs.DirtyPages.{Listing}
use Rattle.calls.specs.ForC.{code_for_c, buffer_for_c, left_for_c}
use Rattle.c_calls.proofs.Codes.{last_refusal, Fits}

-- another length than 24
module _ (numbers : List ℕ) (wrong : length numbers ≡ 24 → ⊥) where
  wrong-code : (a : Answer) → 107 ≡ code_for_c numbers a
  unfolding code_for_c
  wrong-code a = rw (ne_eqb (length numbers) 24 wrong)

  wrong-buffer : (a : Answer) → numbers ≡ buffer_for_c numbers a
  unfolding buffer_for_c
  wrong-buffer a = rw (ne_eqb (length numbers) 24 wrong)

  wrong-left : {A : Type 0} (before after : A) → before ≡ left_for_c numbers before after
  unfolding left_for_c
  wrong-left before after = rw (ne_eqb (length numbers) 24 wrong)

  pub wrong-told : {A : Type 0} (a : Answer) (before after : A)
      → (107 ≡ code_for_c numbers a) × ((numbers ≡ buffer_for_c numbers a) × (before ≡ left_for_c numbers before after))
  wrong-told a before after = (wrong-code a, (wrong-buffer a, wrong-left before after))

  pub wrong-call : (m : Module) (x : Called)
      → (107 ≡ code_for_c numbers x.answer) × ((numbers ≡ buffer_for_c numbers x.answer) × (m ≡ left_for_c numbers m x.after))
  wrong-call m x = wrong-told x.answer m x.after

  pub wrong-read : (m : Module) (out : List ℕ) (x : Reading)
      → (107 ≡ code_for_c numbers x.called.answer) × ((numbers ≡ buffer_for_c numbers x.called.answer)
      × ((m ≡ left_for_c numbers m x.called.after) × (out ≡ left_for_c numbers out x.output)))
  wrong-read m out x = let all = wrong-call m x.called in (all.0, (all.1.0, (all.1.1, wrong-left out x.output)))

-- 24
module _ (numbers : List ℕ) (right : length numbers ≡ 24) where
  right-code : {a b : Answer} (r : ℕ) → r ≡ code_of b → b ≡ a → r ≡ code_for_c numbers a
  unfolding code_for_c
  right-code {a} {b} r f e = rw (eq-eqb (length numbers) 24 right) (f ∙ ap code_of e)

  right-buffer : {a b : Answer} (n : List ℕ) → n ≡ bytes_of 8 (values_of b) → b ≡ a → n ≡ buffer_for_c numbers a
  unfolding buffer_for_c
  right-buffer {a} {b} n f e = rw (eq-eqb (length numbers) 24 right) (f ∙ ap (λ (x : Answer). bytes_of 8 (values_of x)) e)

  right-left : {A : Type 0} (before after x : A) → x ≡ after → x ≡ left_for_c numbers before after
  unfolding left_for_c
  right-left before after x e = rw (eq-eqb (length numbers) 24 right) e

  pub right-told : {A : Type 0} (before after : A) {a b : Answer} {x : A} → b ≡ a → x ≡ after
      → {r : ℕ} → r ≡ code_of b → {n : List ℕ} → n ≡ bytes_of 8 (values_of b)
      → (r ≡ code_for_c numbers a) × ((n ≡ buffer_for_c numbers a) × (x ≡ left_for_c numbers before after))
  right-told before after {x = x} same left {r} f {n} g = (right-code r f same, (right-buffer n g same, right-left before after x left))

  pub right-call : (m : Module) (x : Called) {b : Answer} {l : Module} → record { answer = b; after = l } ≡ x
      → {r : ℕ} → r ≡ code_of b → {n : List ℕ} → n ≡ bytes_of 8 (values_of b)
      → (r ≡ code_for_c numbers x.answer) × ((n ≡ buffer_for_c numbers x.answer) × (l ≡ left_for_c numbers m x.after))
  right-call m x e = right-told m x.after (ap (λ (z : Called). z.answer) e) (ap (λ (z : Called). z.after) e)

  pub right-read : (m : Module) (out : List ℕ) (x : Reading) {b : Answer} {l : Module} {o : List ℕ}
      → record { called = record { answer = b; after = l }; output = o } ≡ x
      → {r : ℕ} → r ≡ code_of b → {n : List ℕ} → n ≡ bytes_of 8 (values_of b)
      → (r ≡ code_for_c numbers x.called.answer) × ((n ≡ buffer_for_c numbers x.called.answer)
      × ((l ≡ left_for_c numbers m x.called.after) × (o ≡ left_for_c numbers out x.output)))
  right-read m out x {b} {l} {o} e f g =
      let all = right-call m x.called (ap (λ (z : Reading). z.called) e) f g in
      (all.0, (all.1.0, (all.1.1, right-left out x.output o (ap (λ (z : Reading). z.output) e))))

  pub right-list : (out : List ℕ) (x : Listing) {b : Answer} {o : List ℕ} → record { answer = b; output = o } ≡ x
      → {r : ℕ} → r ≡ code_of b → {n : List ℕ} → n ≡ bytes_of 8 (values_of b)
      → (r ≡ code_for_c numbers x.answer) × ((n ≡ buffer_for_c numbers x.answer) × (o ≡ left_for_c numbers out x.output))
  right-list out x e = right-told out x.output (ap (λ (z : Listing). z.answer) e) (ap (λ (z : Listing). z.output) e)

-- the code of a call is small
small : {a b : Answer} → b ≡ a → code_of a ≤ 100 + last_refusal → code_of b < 200
small e p = omega (arith, ap code_of e, p)

pub code-small : {x : Called} {b : Answer} {l : Module} → record { answer = b; after = l } ≡ x → Fits x → code_of b < 200
code-small e p = small (ap (λ (z : Called). z.answer) e) p.code

pub read_small : {x : Reading} {b : Answer} {l : Module} {o : List ℕ}
    → record { called = record { answer = b; after = l }; output = o } ≡ x → Fits x.called → code_of b < 200
read_small e p = code-small (ap (λ (z : Reading). z.called) e) p

pub list-small : {x : Listing} {b : Answer} {o : List ℕ} → record { answer = b; output = o } ≡ x
    → code_of x.answer ≤ 100 + last_refusal → code_of b < 200
list-small e p = small (ap (λ (z : Listing). z.answer) e) p
