-- Laws of format: the control record, the tests of depth and family, and the whole call. Assumes nothing.
use mathlib.Core.Path.{◌≡◌, refl, ap, ap₂, ◌∙◌}
use mathlib.Core.Bool.{false, ◌&&◌, not}
use mathlib.Core.List.{List}
use Prim.Native.Nat.{ℕ, zero, suc, ◌≤◌, ◌<◌}
use native.Mathlib.Nat.{le_refl}
use native.Mathlib.Omega.{arith}
use borrow.Author.Tests.{le-leb, lt-leb}
use lib.Dec.{leb}
use lib.ListN.{length, set, replicate}
use Rattle.words.specs.Bytes.{digits, to_le, put}
use Rattle.memory_map.specs.Map.{cell_of}
use Rattle.memory_map.specs.Map.Item.{node}
use Rattle.memory_map.proofs.Laws.{nodes-some}
use Rattle.slot_map.specs.Slots.{cache_length}
use Rattle.tag.specs.Tag.{node_tag}
use Rattle.answer.specs.declared.Answer.{Answer}
use Rattle.answer.specs.declared.Refusal.{Refusal}
use Rattle.answer.specs.Refusal.{number_of}
use Rattle.answer.specs.declared.Answer.TheVariants.{Done, Refused}
use Rattle.control.specs.Control.{control_length, mark_of, fresh_control}
use Rattle.cache.specs.Cache.{cell_content}
use Rattle.calls.specs.Call.{Module, judged, length_tests, ended}
use Rattle.calls.specs.Format.{format, formatted, format_refusal, fresh_root, fresh_array}
use Rattle.call_laws.proofs.Judged.{here, on, unlike-true, unlike-false}
use Rattle.call_laws.proofs.FreshCells.{none, node-stored}

-- ---- the control record

pub other-mark : (f : ℕ) → (f ≡ 0 → ⊥) → mark_of 1 ≡ mark_of f
unfolding mark_of
other-mark zero p = absurd (p refl)
other-mark (suc f) p = refl

-- the mark, three bytes and the root over zeros
written : (h f r : ℕ) → put (set (set (set (put (replicate 681 0) 0 (to_le 4 (mark_of f))) 4 1) 5 h) 6 1) 7 (to_le 8 r) ≡ fresh_control h f r
unfolding fresh_control digits
written h f r = refl

pub control-written : (k : List ℕ) (h f r : ℕ) {z s after : List ℕ} {x : ℕ} → length k ≡ control_length → z ≡ replicate (length k) 0
    → x ≡ mark_of f → s ≡ put z 0 (to_le 4 x) → after ≡ put (set (set (set s 4 1) 5 h) 6 1) 7 (to_le 8 r) → after ≡ fresh_control h f r
control-written k h f r {z} {s} {after} {x} l e m g w =
    let zeros : List ℕ = replicate 681 0 in
    let marked : s ≡ put zeros 0 (to_le 4 (mark_of f)) =
    g ∙ ap₂ {C = List ℕ} (λ (a : List ℕ) (n : ℕ). put a 0 (to_le 4 n)) (e ∙ ap (λ (n : ℕ). replicate {A = ℕ} n 0) l) m in
    w ∙ ap (λ (a : List ℕ). put (set (set (set a 4 1) 5 h) 6 1) 7 (to_le 8 r)) marked ∙ written h f r

-- ---- refusals

-- none has the number 0
some-number : (r : Refusal) → number_of r ≡ 0 → ⊥
some-number r e = grind arith

module _ (keys : List ℕ) (h f : ℕ) (m : Module) where
  pub too-flat : h < 1 → 1 ≡ format_refusal keys h f m
  unfolding format_refusal
  too-flat p = here _ _ _ (rw (lt-leb 1 h p))

  module _ (low : 1 ≤ h) where
    pub too-deep : 3 < h → 1 ≡ format_refusal keys h f m
    unfolding format_refusal
    too-deep p = here _ _ _ (rw (le-leb 1 h low, lt-leb h 3 p))

    module _ (high : h ≤ 3) where
      pub no-family : 1 < f → 1 ≡ format_refusal keys h f m
      unfolding format_refusal
      no-family p = here _ _ _ (rw (le-leb 1 h low, le-leb h 3 high, lt-leb f 1 p))

      module _ (known : f ≤ 1) where
        right-numbers : not (leb 1 h && leb h 3 && leb f 1) ≡ false
        right-numbers = rw (le-leb 1 h low, le-leb h 3 high, le-leb f 1 known)

        pub wrong-keys : (length keys ≡ 48 → ⊥) → 2 ≡ format_refusal keys h f m
        unfolding format_refusal
        wrong-keys p = on _ _ _ right-numbers (here _ _ _ (unlike-true p))

        module _ (k : length keys ≡ 48) where
          pub wrong-control : (length m.control ≡ control_length → ⊥) → 3 ≡ format_refusal keys h f m
          unfolding format_refusal
          wrong-control p = on _ _ _ right-numbers (on _ _ _ (unlike-false k) (here _ _ _ (unlike-true p)))

          pub lengths-judge : length m.control ≡ control_length → {r : ℕ} → r ≡ judged (length_tests h m) → r ≡ format_refusal keys h f m
          unfolding format_refusal
          lengths-judge p e = on _ _ _ right-numbers (on _ _ _ (unlike-false k) (on _ _ _ (unlike-false p) e))

  -- ---- the call

  pub refused : {n : ℕ} (r : Refusal) → number_of r ≡ n → n ≡ format_refusal keys h f m → {a : Answer} → a ≡ Refused n 0 0 0
      → ended a m.array m.control m.cache ≡ format keys h f m
  unfolding format
  refused {n = zero} r e p g = absurd (some-number r e)
  refused {n = suc n} r e p g = rw (g, format, ← p)

  pub done : 0 ≡ format_refusal keys h f m → {a k c : List ℕ} {r : ℕ} → a ≡ fresh_array keys h → k ≡ fresh_control h f r
      → r ≡ fresh_root keys none none h → c ≡ replicate (cache_length h) 0 → ended (Done 0 0) a k c ≡ format keys h f m
  unfolding format formatted
  done z {a} {k} {c} {r} ea ek er ec = rw (format, ← z) (rw (ea, ek, er, ec))

pub root-fresh : (keys : List ℕ) (h : ℕ) {a b : List ℕ} {n r : ℕ} → a ≡ fresh_array keys h → n ≡ cell_of h (node h 0)
    → b ≡ cell_content a n → r ≡ node_tag keys b h 0 → r ≡ fresh_root keys none none h
root-fresh keys h ea en eb er =
    er ∙ ap (λ (x : List ℕ). node_tag keys x h 0)
    (eb ∙ ap₂ {C = List ℕ} cell_content ea en ∙ node-stored keys h h 0 (le_refl h) (nodes-some h h))

-- a buffer of zeros
pub zeroed : {k n : ℕ} {b : List ℕ} → k ≡ n → b ≡ replicate k 0 → b ≡ replicate n 0
zeroed l e = e ∙ ap (λ (k : ℕ). replicate k 0) l
