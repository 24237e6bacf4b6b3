-- The refusals one by one, in sequence. Assumes nothing.
use mathlib.Core.Path.{◌≡◌, ap, ap₂, ◌∙◌}
use mathlib.Core.Bool.{Bool, true, false, not}
use mathlib.Core.List.{List, [], ◌∷◌}
use Prim.Native.Nat.{ℕ, ◌≤◌, ◌<◌}
use native.Mathlib.Omega.{arith}
use borrow.Author.Tests.{le-leb, lt-leb, lt-ltb, le-ltb}
use lib.ListN.{length}
use Rattle.answer.specs.declared.Refusal.{Refusal}
use Rattle.answer.specs.Refusal.{number_of}
use Rattle.memory_map.specs.Map.{lines, array_length}
use Rattle.slot_map.specs.Slots.{cache_length}
use Rattle.control.specs.Control.{control_length, depth, count, valid}
use Rattle.cache.specs.Cache.{formed}
use Rattle.calls.specs.Call.{Module, judged, opening_tests, entry_refusal}
use Rattle.calls.specs.Recovery.{recovery_refusal}
use Rattle.call_laws.proofs.Judged.{here, on, end, unlike-true, unlike-false, judged-front, Opened, opened-on}

-- no refusal has the number 0
pub some-number : (r : Refusal) → number_of r ≡ 0 → ⊥
some-number r e = grind arith

module _ (keys : List ℕ) (m : Module) where
  pub wrong-keys : (length keys ≡ 48 → ⊥) → 2 ≡ recovery_refusal keys m
  unfolding recovery_refusal
  wrong-keys p = here _ _ _ (unlike-true p)

  module _ (k : length keys ≡ 48) where
    pub wrong-control : (length m.control ≡ control_length → ⊥) → 3 ≡ recovery_refusal keys m
    unfolding recovery_refusal
    wrong-control p = on _ _ _ (unlike-false k) (here _ _ _ (unlike-true p))

    module _ (r : length m.control ≡ control_length) where
      pub not_valid : valid m.control ≡ false → 21 ≡ recovery_refusal keys m
      unfolding recovery_refusal
      not_valid p = on _ _ _ (unlike-false k) (on _ _ _ (unlike-false r) (here _ _ _ (ap not p)))

      module _ (v : valid m.control ≡ true) where
        pub wrong-array : (length m.array ≡ array_length (depth m.control) → ⊥) → 4 ≡ recovery_refusal keys m
        unfolding recovery_refusal
        wrong-array p = on _ _ _ (unlike-false k) (on _ _ _ (unlike-false r) (on _ _ _ (ap not v) (here _ _ _ (unlike-true p))))

        module _ (a : length m.array ≡ array_length (depth m.control)) where
          pub wrong-cache : (length m.cache ≡ cache_length (depth m.control) → ⊥) → 5 ≡ recovery_refusal keys m
          unfolding recovery_refusal
          wrong-cache p =
              on _ _ _ (unlike-false k) (on _ _ _ (unlike-false r)
              (on _ _ _ (ap not v) (on _ _ _ (unlike-false a) (here _ _ _ (unlike-true p)))))

          pub right-cache : length m.cache ≡ cache_length (depth m.control) → 0 ≡ recovery_refusal keys m
          unfolding recovery_refusal
          right-cache p =
              on _ _ _ (unlike-false k) (on _ _ _ (unlike-false r)
              (on _ _ _ (ap not v) (on _ _ _ (unlike-false a) (on _ _ _ (unlike-false p) end))))

module _ (keys : List ℕ) (line : ℕ) (b : List ℕ) (m : Module) where
  pub refused-first : (n : ℕ) → n ≡ recovery_refusal keys m → (n ≡ 0 → ⊥) → n ≡ entry_refusal keys line b m
  unfolding recovery_refusal entry_refusal
  refused-first n e p = judged-front (opening_tests keys m) _ e p

  module _ (o : Opened keys m) where
    pub wrong-buffer : (length b ≡ 64 → ⊥) → 7 ≡ entry_refusal keys line b m
    unfolding entry_refusal
    wrong-buffer p = opened-on _ o (here _ _ _ (unlike-true p))

    module _ (s : length b ≡ 64) where
      pub wrong-line : lines (depth m.control) ≤ line → 6 ≡ entry_refusal keys line b m
      unfolding entry_refusal
      wrong-line p = opened-on _ o (on _ _ _ (unlike-false s) (here _ _ _ (le-leb _ line p)))

      module _ (i : line < lines (depth m.control)) where
        pub is-pending : (count m.control ≡ 0 → ⊥) → 22 ≡ entry_refusal keys line b m
        unfolding entry_refusal
        is-pending p =
            opened-on _ o (on _ _ _ (unlike-false s)
            (on _ _ _ (lt-leb _ line i) (here _ _ _ (lt-ltb 0 (count m.control) (omega arith)))))

        pub is-idle : count m.control ≡ 0 → 0 ≡ entry_refusal keys line b m
        unfolding entry_refusal
        is-idle p =
            opened-on _ o (on _ _ _ (unlike-false s)
            (on _ _ _ (lt-leb _ line i) (on _ _ _ (le-ltb 0 (count m.control) (omega arith)) end)))

-- the last tests, at the depth of the record
abbrev last : ℕ → List ℕ → Bool → ℕ
last h c kept = judged ((not (formed h c), 23) ∷ (kept, 30) ∷ [])

pub at-depth : (c k : List ℕ) {h r : ℕ} {kept t : Bool} → r ≡ last h c kept → h ≡ depth k → kept ≡ t → r ≡ last (depth k) c t
at-depth c k e d q = e ∙ ap₂ {C = ℕ} (λ (n : ℕ) (b : Bool). last n c b) d q
