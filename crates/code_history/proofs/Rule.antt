-- The history rule of the code. Assumes nothing.
use mathlib.Core.Path.{◌≡◌, refl, sym, ap, ◌∙◌, subst, subst₂}
use mathlib.Core.Bool.{false}
use mathlib.Core.List.{List, ◌∷◌, ◌++◌}
use Prim.Native.Nat.{ℕ}
use Rattle.answer.specs.declared.Answer.{Answer}
use Rattle.answer.specs.declared.Answer.TheVariants.{Done}
use Rattle.calls.specs.Call.{Module, Called}
use Rattle.calls.specs.Read.{Reading}
use Rattle.calls.specs.Format.{format}
use Rattle.calls.specs.Recovery.{recover}
use Rattle.calls.specs.DirtyPages.{Listing}
use Rattle.history_laws.specs.History.{
  Event,
  recovers,
  step,
  AreBytes,
  Allowed,
  module_after,
  book_of,
  empty_book,
  Returns,
  HistoryRule,
}
use Rattle.history_laws.proofs.Rule.{history-rule}
use Rattle.code_history.proofs.Steps.{
  Formatted,
  format_before,
  format_after,
  Recovered,
  recover_before,
  recover_after,
  list_before,
  Step,
  formatted,
  read,
  written,
  turned,
  recovered,
  listed,
  power,
  Run,
  none,
  next,
}

-- each step is the one that is defined: the contract says so
pub step-defined : {m n : Module} {e : Event} {a : Answer} → Step m e a n → step e m ≡ record { answer = a; after = n }
unfolding step
step-defined (formatted c) = sym c.contract
step-defined (read c) = ap (λ (r : Reading). r.called) (sym c.contract)
step-defined (written c) = sym c.contract
step-defined (turned c) = sym c.contract
step-defined (recovered c) = sym c.contract
step-defined (listed array c) = ap (λ (l : Listing). record { answer = l.answer; after = list_before array c }) (sym c.contract)
step-defined (power m cache) = refl

pub run-defined : {m n : Module} {es : List Event} → Run m es n → module_after m es ≡ n
unfolding module_after
run-defined (none m) = refl
run-defined (next {es = es} s r) = ap (λ (x : Called). module_after x.after es) (step-defined s) ∙ run-defined r

-- in every run of the six functions from a format that is done, whose list of events is allowed, a recovery with the same keys returns to
-- what the book of the list up to it says
pub code-history : (x : Formatted) → x.answer ≡ Done 0 0 → (m : Module) (es rest : List Event) → Run (format_after x) es m
    → (r : Recovered) → recover_before r ≡ m
    → let keys = x.args.1.1.0.now in let h = x.args.0 in let f = x.args.1.0 in
    r.args.0.now ≡ keys → AreBytes keys
    → Allowed keys false (format_after x) (es ++ (recovers keys r.args.1.1.1.1.0 ∷ rest))
    → Returns keys h f (book_of (format_after x) empty_book es) (recover_before r) (record { answer = r.answer; after = recover_after r })
unfolding HistoryRule
code-history x done m es rest run r here same plain ok =
    let keys = x.args.1.1.0.now in
    let h = x.args.0 in
    let f = x.args.1.0 in
    let allowance = r.args.1.1.1.1.0 in
    let first = format keys h f (format_before x) in
    let start : first.after ≡ format_after x = ap (λ (c : Called). c.after) (sym x.contract) in
    let last : module_after (format_after x) es ≡ recover_before r = run-defined run ∙ sym here in
    let end : recover keys allowance (recover_before r) ≡ record { answer = r.answer; after = recover_after r } =
    ap (λ (k : List ℕ). recover k allowance (recover_before r)) (sym same) ∙ sym r.contract in
    subst₂ (λ (n : Module) (c : Called). Returns keys h f (book_of (format_after x) empty_book es) n c) last
    (ap (recover keys allowance) last ∙ end)
    (subst (λ (s : Module). Returns keys h f (book_of s empty_book es) (module_after s es) (recover keys allowance (module_after s es))) start
    (history-rule keys h f (format_before x) es rest allowance plain (ap (λ (c : Called). c.answer) (sym x.contract) ∙ done)
    (subst (λ (s : Module). Allowed keys false s (es ++ (recovers keys allowance ∷ rest))) (sym start) ok)))
