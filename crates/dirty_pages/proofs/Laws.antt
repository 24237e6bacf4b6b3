-- Laws of the list of dirty pages: its refusals one by one, and the whole call.
-- Assumes nothing.
use mathlib.Core.Path.{◌≡◌, refl, sym, ap, ap₂, ◌∙◌}
use mathlib.Core.Bool.{Bool, true, false, not, cond}
use mathlib.Core.List.{List, [], ◌∷◌}
use Prim.Native.Nat.{ℕ, zero, suc, ◌*◌, ◌<◌, ◌≤◌}
use native.Mathlib.Omega.{arith}
use borrow.Author.Tests.{eq-eqb, ne_eqb, not-false}
use lib.Dec.{eqb}
use lib.ListN.{length}
use Rattle.words.specs.Bytes.{bytes_of}
use Rattle.memory_map.specs.Map.{slots}
use Rattle.slot_map.specs.Slots.{cache_length}
use Rattle.answer.specs.declared.Answer.{Answer}
use Rattle.answer.specs.declared.Refusal.{Refusal}
use Rattle.answer.specs.Refusal.{number_of}
use Rattle.answer.specs.declared.Answer.TheVariants.{Done, Refused}
use Rattle.control.specs.Control.{control_length, depth, valid}
use Rattle.control.proofs.Laws.{valid-parts}
use Rattle.cache.specs.Cache.{owner, dirty, formed}
use Rattle.cache.proofs.Laws.{Formed, formed-facts}
use Rattle.calls.specs.Call.{judged}
use Rattle.calls.specs.DirtyPages.{list_refusal, list_judged, dirty_pages}
use Rattle.call_laws.proofs.Judged.{passed, alike}
use Rattle.rising.specs.Rising.{rising}
use Rattle.dirty_pages.specs.Entry.{entry}
use Rattle.dirty_pages.proofs.Pages.{written}

-- ---- refusals

-- the first test that holds
module _ (control cache out : List ℕ) where
  pub wrong-control : (length control ≡ control_length → ⊥) → 3 ≡ list_refusal control cache out
  unfolding list_refusal judged
  wrong-control p = rw (ne_eqb (length control) control_length p)

  module _ (k : length control ≡ control_length) where
    pub not_valid : valid control ≡ false → 21 ≡ list_refusal control cache out
    unfolding list_refusal judged
    not_valid p = rw (eq-eqb (length control) control_length k, p)

    module _ (v : valid control ≡ true) where
      pub wrong-cache : (length cache ≡ cache_length (depth control) → ⊥) → 5 ≡ list_refusal control cache out
      unfolding list_refusal judged
      wrong-cache p = rw (eq-eqb (length control) control_length k, v, ne_eqb (length cache) (cache_length (depth control)) p)

      module _ (c : length cache ≡ cache_length (depth control)) where
        right-cache : list_refusal control cache out ≡ cond (eqb (length out) 32) (cond (formed (depth control) cache) 0 23) 7
        unfolding list_refusal judged
        right-cache =
            rw (eq-eqb (length control) control_length k, v, eq-eqb (length cache) (cache_length (depth control)) c)
            (go (eqb (length out) 32) (formed (depth control) cache))
          where
            go : (a b : Bool) → judged ((not a, 7) ∷ (not b, 23) ∷ []) ≡ cond a (cond b 0 23) 7
            go true true = refl
            go true false = refl
            go false b = refl

        pub wrong-out : (length out ≡ 32 → ⊥) → 7 ≡ list_refusal control cache out
        wrong-out p = sym (right-cache ∙ ap (λ (b : Bool). cond b (cond (formed (depth control) cache) 0 23) 7) (ne_eqb (length out) 32 p))

        pub by-formed : length out ≡ 32 → (b : Bool) → formed (depth control) cache ≡ b → cond b 0 23 ≡ list_refusal control cache out
        by-formed o b p = sym (right-cache ∙ ap₂ (λ (a b : Bool). cond a (cond b 0 23) 7) (eq-eqb (length out) 32 o) p)

-- what a call that is not refused may rely on: four counter slots, room for their pages, and a formed cache
pub record Accepted (control cache out : List ℕ) : Type 0 where
  pub sized : 73 * 4 ≤ length cache
  pub room : length out ≡ 32
  pub flat : depth control ≤ 3
  pub formed : Formed (depth control) cache
  pub clean : (s : ℕ) → s < 4 → owner cache s ≡ 0 → dirty cache s ≡ 0

pub accepted : (control cache out : List ℕ) → list_refusal control cache out ≡ 0 → Accepted control cache out
unfolding list_refusal cache_length slots
accepted control cache out e =
    let h = depth control in
    let a = passed _ _ _ e in
    let b = passed _ _ _ a.rest in
    let c = passed _ _ _ b.rest in
    let d = passed _ _ _ c.rest in
    let f = formed-facts h cache (not-false (formed h cache) (passed _ _ _ d.rest).test) in
    record {
      sized = omega (arith, alike (length cache) (cache_length h) c.test);
      room = alike (length out) 32 d.test;
      flat = (valid-parts (not-false (valid control) b.test)).head.flat;
      formed = f;
      clean = λ s p. f.clean s (omega arith);
    }

-- ---- the call

-- no refusal has the number 0
some-number : (r : Refusal) → number_of r ≡ 0 → ⊥
some-number r e = grind arith

pub refused : (control cache out : List ℕ) {n : ℕ} (r : Refusal) → number_of r ≡ n → n ≡ list_refusal control cache out
    → {a : Answer} → a ≡ Refused n 0 0 0 → record { answer = a; output = out } ≡ dirty_pages control cache out
unfolding list_judged
refused control cache out {n = zero} r e p f = absurd (some-number r e)
refused control cache out {n = suc n} r e p f = rw f (ap (λ (k : ℕ). list_judged k control cache out) p)

pub listed : (control cache out after : List ℕ) → 0 ≡ list_refusal control cache out
    → after ≡ bytes_of 8 (rising (entry cache 0) (entry cache 1) (entry cache 2) (entry cache 3))
    → record { answer = Done 0 0; output = after } ≡ dirty_pages control cache out
unfolding list_judged
listed control cache out after r e =
    let a = accepted control cache out (sym r) in
    ap (λ (l : List ℕ). record { answer = Done 0 0; output = l }) (e ∙ written (depth control) cache a.flat a.formed)
    ∙ ap (λ (k : ℕ). list_judged k control cache out) r
