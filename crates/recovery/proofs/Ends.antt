-- How recovery ends. Assumes nothing.
use mathlib.Core.Path.{◌≡◌, sym, ap, ap₂, ◌∙◌, subst}
use mathlib.Core.Bool.{Bool, true, false, cond}
use mathlib.Core.List.{List}
use Prim.Native.Nat.{ℕ, zero, suc, min, ◌+◌, ◌-◌, ◌≤◌, ◌<◌}
use native.Mathlib.Nat.{zero-add}
use native.Mathlib.Omega.{arith}
use lib.Dec.{eqb}
use lib.ListN.{length, get_or, take, drop, replicate, length-take, length-replicate, replicate-append-replicate}
use lib.Seq.{take_at, take-take, get_or-take}
use borrow.Author.Tests.{eq-eqb, ne_eqb}
use Rattle.memory_map.specs.Map.{slots}
use Rattle.slot_map.specs.Slots.{cache_length}
use Rattle.tag.specs.Tag.{node_tag}
use Rattle.answer.specs.declared.Answer.{Answer}
use Rattle.answer.specs.declared.Refusal.{Refusal}
use Rattle.answer.specs.Refusal.{number_of}
use Rattle.answer.specs.declared.Answer.TheVariants.{Done, Cut, Refused}
use Rattle.control.specs.Control.{depth, root, count, queue}
use Rattle.control.proofs.Laws.{length-places}
use Rattle.std.specs.Prelude.{Option, None, Some}
use Rattle.cache.specs.Cache.{empty_cache, shadow_owner, shadow_owners, bad_slot, current}
use Rattle.cache.proofs.Laws.{owned, get_d-from}
use Rattle.journal.specs.Journal.{Store, Media, media, store_all, pending_stores, made, is_cut, Stored}
use Rattle.journal.proofs.Laws.{length-finish, pending-some, pending-none, less-cut, enough-whole}
use Rattle.node.specs.Sized.{Sized}
use Rattle.calls.specs.Call.{Module, Called, buffers, ended, media_of, with_media}
use Rattle.calls.specs.Recovery.{Forwarded, so_far, rebuild_blocks, rebuild_nodes, refuse_after, recovery_refusal, recover}
use Rattle.calls.specs.Recovery.{recover_root, recover_rebuilt, recover_shadow, recover_media, recover_judged}
use Rattle.access.proofs.Laws.{some-number}
use Rattle.forwarding.specs.Rebuild.{Placed}

-- ---- the cache rebuilt

-- what is asked at the depth n that was read
module _ (h : ℕ) {n : ℕ} (same : n ≡ h) where
  pub sized-as : (a i j : List ℕ) → Sized h a i → length j ≡ length i → Sized n a j
  sized-as a i j z e =
      subst (λ (k : ℕ). Sized k a j) (sym same) (record { deep = z.deep; flat = z.flat; array = z.array; cache = e ∙ z.cache })

  pub placed-as : (os : List ℕ) → Placed h os → Placed n os
  placed-as os = subst (λ (k : ℕ). Placed k os) (sym same)

-- a refusal, as the code tells it
pub refused_as : (m : Module) {k n x : ℕ} {l : Called} → refuse_after k m n x ≡ l → {r : Answer} → r ≡ Refused n k x 0
    → ended r m.array m.control m.cache ≡ l
refused_as m e f = rw f e

module _ (keys : List ℕ) (k : ℕ) (m : Module) (os : List ℕ) where
  abbrev h : ℕ
  h = depth m.control

  -- d with the counters rebuilt, c with the nodes too; t is the top's tag, q the root
  module _ (d : List ℕ) {c : List ℕ} (sum : ℕ) (nodes : c ≡ rebuild_nodes h keys m.array 4 (drop 4 os) d) {t q : ℕ}
      (tag : t ≡ node_tag keys (current h m.array c h 0) h 0) (right : q ≡ root m.control) where
    by-root : (b : Bool) → eqb t q ≡ b
        → cond b (ended (Done k sum) m.array m.control c) (refuse_after k m 29 0) ≡ recover_rebuilt keys k m os (so_far d sum)
    unfolding recover_rebuilt recover_root
    by-root b e =
        ap (λ (x : Bool). cond x (ended (Done k sum) m.array m.control c) (refuse_after k m 29 0)) (sym e ∙ ap₂ eqb tag right)
        ∙ ap (recover_root keys k m sum) nodes

    pub ends-differs : (t ≡ q → ⊥) → refuse_after k m 29 0 ≡ recover_rebuilt keys k m os (so_far d sum)
    ends-differs p = by-root false (ne_eqb t q p)

    pub ends-done : t ≡ q → {e : List ℕ} → e ≡ c
        → ended (Done k sum) m.array m.control e ≡ recover_rebuilt keys k m os (so_far d sum)
    ends-done p f = ap (ended (Done k sum) m.array m.control) f ∙ by-root true (eq-eqb t q p)

  -- what is told of the counters, at the depth n that was read
  pub at-depth : (image : List ℕ) {n : ℕ} → n ≡ h → {r : Forwarded} → r ≡ rebuild_blocks n keys (media m.array m.control) 0 (take 4 os) image 0
      → recover_rebuilt keys k m (take (slots h) os) r
      ≡ recover_rebuilt keys k m (take (slots h) os) (rebuild_blocks h keys (media m.array m.control) 0 (take 4 os) image 0)
  at-depth image e f =
      ap (recover_rebuilt keys k m (take (slots h) os))
      (f ∙ ap (λ (n : ℕ). rebuild_blocks n keys (media m.array m.control) 0 (take 4 os) image 0) e)

-- ---- the shadow

-- the first of many zeros
zeros-front : (n k : ℕ) → n ≤ k → take n (replicate {A = ℕ} k 0) ≡ replicate n 0
zeros-front n k p =
    let whole : k ≡ n + (k - n) = omega arith in
    ap (λ (i : ℕ). take n (replicate i 0)) whole ∙ ap (take n) (sym (replicate-append-replicate n (k - n) 0))
    ∙ take_at (replicate n 0) (replicate (k - n) 0) n (length-replicate n 0)

-- a part of an array of zeros, as long as the cache
pub image-empty : (h n k : ℕ) → n ≡ cache_length h → n ≤ k → take (n - 0) (replicate k 0) ≡ empty_cache h
image-empty h n k e p =
    let all : n - 0 ≡ n = omega arith in
    ap (λ (i : ℕ). take i (replicate k 0)) all ∙ zeros-front n k p ∙ ap (λ (i : ℕ). replicate i 0) e

pub placed : (h : ℕ) (a os : List ℕ) → take (slots h) os ≡ shadow_owners h a → bad_slot h (take (slots h) os) ≡ None → Placed h os
placed h a os listed fine =
    let f = shadow_owner h a in
    let same : (s : ℕ) → s < slots h → f s ≡ get_or os s 0 = λ s p.
    ap f (sym (zero-add s)) ∙ sym (get_d-from f 0 (slots h) s p) ∙ ap (λ (l : List ℕ). get_or l s 0) (sym listed)
    ∙ get_or-take (slots h) os s 0 p in
    record { belong = λ s i p e. (owned h f (ap (bad_slot h) (sym listed) ∙ fine)).belong s i p (same s p ∙ e) }

module _ (keys : List ℕ) (k : ℕ) (m : Module) (os : List ℕ) where
  -- the owners that the array's shadow lists
  abbrev owners : List ℕ
  owners = shadow_owners (depth m.control) m.array

  abbrev first : List ℕ
  first = take (slots (depth m.control)) os

  module _ (listed : first ≡ owners) {f : Option ℕ} (found : f ≡ bad_slot (depth m.control) first) where
    as-found : {g : Option ℕ} → f ≡ g → recover_media keys k m ≡ recover_shadow keys k m owners g
    as-found e = ap (recover_shadow keys k m owners) (ap (bad_slot (depth m.control)) (sym listed) ∙ sym found ∙ e)

    pub ends-bad : {s : ℕ} → f ≡ Some s → refuse_after k m 27 s ≡ recover_media keys k m
    unfolding recover_shadow
    ends-bad e = sym (as-found e)

    pub ends-rebuilt : f ≡ None → {c : List ℕ} → c ≡ empty_cache (depth m.control)
        → recover_rebuilt keys k m first
        (rebuild_blocks (depth m.control) keys (media_of m) 0 (take 4 os) c 0) ≡ recover_media keys k m
    unfolding recover_shadow slots
    ends-rebuilt e {c} empty =
        let h = depth m.control in
        let four : take 4 os ≡ take 4 first = sym (take-take 4 (slots h) os (omega arith)) in
        ap₂ {C = Called} (λ (l i : List ℕ). recover_rebuilt keys k m first (rebuild_blocks h keys (media_of m) 0 l i 0)) four empty
        ∙ ap (λ (l : List ℕ). recover_rebuilt keys k m l (rebuild_blocks h keys (media_of m) 0 (take 4 l) (empty_cache h) 0)) listed
        ∙ sym (as-found e)

-- ---- the call

-- the stores that are wanted, by the count
module _ (k : List ℕ) {n : ℕ} (number : n ≡ count k) where
  pub wanted-none : n ≡ 0 → length (pending_stores k) ≡ 0
  wanted-none p = ap length (pending-none k (sym number ∙ p))

  pub wanted-some : (n ≡ 0 → ⊥) → length (pending_stores k) ≡ n + 2
  unfolding queue
  wanted-some p =
      ap length (pending-some k (omega arith)) ∙ length-finish _ _ ∙ ap (λ (i : ℕ). i + 2) (length-places k _ (count k) ∙ sym number)

module _ (keys : List ℕ) (allowance : ℕ) (m : Module) where
  pub ends-refused : {n : ℕ} (r : Refusal) → number_of r ≡ n → n ≡ recovery_refusal keys m → {a : Answer} → a ≡ Refused n 0 0 0
      → ended a m.array m.control m.cache ≡ recover keys allowance m
  unfolding recover_judged
  ends-refused {n = zero} r e p f = absurd (some-number r e)
  ends-refused {n = suc n} r e p f = rw f (ap (λ (i : ℕ). recover_judged i keys allowance m) p)

  abbrev xs : List Store
  xs = pending_stores m.control

  module _ (opened : 0 ≡ recovery_refusal keys m) {a k : List ℕ} {told : ℕ} (s : Stored allowance xs (media_of m) (media a k) told) where
    few : told ≡ min allowance (length xs)
    few = s.number ∙ length-take allowance xs

    -- cut, or on with what the stores leave
    abbrev on : Bool → ℕ → Media → Called
    on t n d = cond t (record { answer = Cut n; after = with_media d m.cache }) (recover_media keys (length xs) (with_media d m.cache))

    by-cut : (t : Bool) → is_cut allowance xs ≡ t → on t told (media a k) ≡ recover keys allowance m
    unfolding recover_judged
    by-cut t e =
        let d = store_all (media_of m) (made allowance xs) in
        ap₂ {C = Called} (on t) s.number s.left ∙ ap (λ (b : Bool). on b (length (made allowance xs)) d) (sym e)
        ∙ ap (λ (i : ℕ). recover_judged i keys allowance m) opened

    pub ends-cut : told < length xs → ended (Cut told) a k m.cache ≡ recover keys allowance m
    ends-cut p = by-cut true (less-cut allowance xs (omega (arith, few)))

    pub ends-media : length xs ≤ told → recover_media keys told (buffers a k m.cache) ≡ recover keys allowance m
    ends-media p =
        let all : told ≡ length xs = omega (arith, few) in
        ap (λ (n : ℕ). recover_media keys n (buffers a k m.cache)) all ∙ by-cut false (enough-whole allowance xs (omega (arith, few)))
