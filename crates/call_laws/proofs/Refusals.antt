-- Which refusals a recovery gives, by the family: family 0 never 33 or 34, family 1 never 28 or 32. Assumes nothing.
use mathlib.Core.Path.{◌≡◌, refl, subst}
use mathlib.Core.Logic.{◌⊎◌, inl, inr}
use mathlib.Core.Bool.{Bool, true, false, cond}
use mathlib.Core.List.{List}
use Prim.Native.Nat.{ℕ, zero, suc, ◌≤◌}
use native.Mathlib.Omega.{arith}
use lib.Dec.{eqb, lit≤}
use lib.ListN.{length}
use Rattle.tag.specs.Tag.{node_tag}
use Rattle.answer.specs.declared.Answer.{Answer}
use Rattle.answer.specs.declared.Answer.TheVariants.{Done, Blank, Cut, Refused}
use Rattle.control.specs.Control.{family, depth, root}
use Rattle.cache.specs.Cache.{shadow_owners, bad_slot, current}
use Rattle.std.specs.Prelude.{Option, None, Some}
use Rattle.journal.specs.Journal.{pending_stores, made, is_cut}
use Rattle.calls.specs.Call.{Module, Called, media_of}
use Rattle.calls.specs.Recovery.{Forwarded, so_far, failed, source_of, refuse_after, recover_root, recover_rebuilt, recover_shadow}
use Rattle.calls.specs.Recovery.{recover_media, recovery_refusal, recover_judged, recover}
use Rattle.call_laws.proofs.Judged.{judged-most, recovery-opened}
use Rattle.call_laws.proofs.Kept.{Bytes}
use Rattle.call_laws.proofs.Steps.{EndIs, StepRefusal, line_step_lem, blocks_end}
use Rattle.call_laws.proofs.Rebuilt.{made-module, made-family}

-- what holds of the number of an answer that is a refusal
unfoldable pub NumberIs : (ℕ → Type 0) → Answer → Type 0
NumberIs P (Done k t) = Unit {0}
NumberIs P (Blank k) = Unit {0}
NumberIs P (Cut k) = Unit {0}
NumberIs P (Refused n k x y) = P n

-- from the inputs up to the shadow, of the root, or of a line
abbrev pub RecoveryNumber : ℕ → ℕ → Type 0
RecoveryNumber f n = (n ≤ 27) ⊎ ((n ≡ 29) ⊎ StepRefusal f n)

pub not-by-choice : {n : ℕ} → RecoveryNumber 0 n → (n ≡ 33 → ⊥) × (n ≡ 34 → ⊥)
unfolding StepRefusal
not-by-choice (inl p) = (λ z. omega arith, λ z. omega arith)
not-by-choice (inr (inl p)) = (λ z. omega arith, λ z. omega arith)
not-by-choice (inr (inr (inl p))) = (λ z. omega arith, λ z. omega arith)
not-by-choice (inr (inr (inr p))) = (λ z. omega arith, λ z. omega arith)

pub not-by-phase : {n : ℕ} → RecoveryNumber 1 n → (n ≡ 28 → ⊥) × (n ≡ 32 → ⊥)
unfolding StepRefusal
not-by-phase (inl p) = (λ z. omega arith, λ z. omega arith)
not-by-phase (inr (inl p)) = (λ z. omega arith, λ z. omega arith)
not-by-phase (inr (inr (inl p))) = (λ z. omega arith, λ z. omega arith)
not-by-phase (inr (inr (inr p))) = (λ z. omega arith, λ z. omega arith)

module _ (keys : List ℕ) (k : ℕ) (m : Module) where
  abbrev h : ℕ
  h = depth m.control

  abbrev f : ℕ
  f = family m.control

  abbrev Numbered : Called → Type 0
  Numbered x = NumberIs (RecoveryNumber f) x.answer

  root-number : (sum : ℕ) (c : List ℕ) → Numbered (recover_root keys k m sum c)
  unfolding recover_root NumberIs
  root-number sum c = go (eqb (node_tag keys (current h m.array c h 0) h 0) (root m.control))
    where
      done : Called
      done = record { answer = Done k sum; after = record { array = m.array; control = m.control; cache = c } }

      go : (t : Bool) → Numbered (cond t done (refuse_after k m 29 0))
      go true = tt
      go false = inr (inl refl)

  rebuilt-number : (os : List ℕ) (r : Forwarded) → EndIs (StepRefusal f) r → Numbered (recover_rebuilt keys k m os r)
  unfolding recover_rebuilt EndIs NumberIs
  rebuilt-number os (so_far d sum) e = root-number sum _
  rebuilt-number os (failed n x) e = inr (inr e)

  shadow-number : (os : List ℕ) (x : Option ℕ) → Numbered (recover_shadow keys k m os x)
  unfolding recover_shadow NumberIs
  shadow-number os (Some s) = inl (lit≤ tt)
  shadow-number os None =
      rebuilt-number os _
      (blocks_end (StepRefusal f) h keys (media_of m) (λ ma. line_step_lem (source_of keys (media_of m) ma)) _ _ _ _)

-- of every recovery, whatever its keys
pub recover-number : (keys : List ℕ) (a : ℕ) (m : Module) → Bytes m
    → NumberIs (RecoveryNumber (family m.control)) (recover keys a m).answer
unfolding recover_judged recovery_refusal NumberIs
recover-number keys a m b =
    go (recovery_refusal keys m) refl (judged-most 27 _ (lit≤ tt, (lit≤ tt, (lit≤ tt, (lit≤ tt, (lit≤ tt, tt))))))
  where
    By : ℕ → Called → Type 0
    By f x = NumberIs (RecoveryNumber f) x.answer

    d : Module
    d = made-module m a

    k : ℕ
    k = length (pending_stores m.control)

    cut : Called
    cut = record { answer = Cut (length (made a (pending_stores m.control))); after = d }

    opened : recovery_refusal keys m ≡ 0 → (t : Bool) → By (family m.control) (cond t cut (recover_media keys k d))
    opened z true = tt
    opened z false =
        let os = shadow_owners (depth d.control) d.array in
        subst (λ (f : ℕ). By f (recover_media keys k d)) (made-family keys m b (recovery-opened keys m z) a)
        (shadow-number keys k d os (bad_slot (depth d.control) os))

    go : (n : ℕ) → recovery_refusal keys m ≡ n → n ≤ 27 → By (family m.control) (recover_judged n keys a m)
    go zero e p = opened e (is_cut a (pending_stores m.control))
    go (suc n) e p = inl p
