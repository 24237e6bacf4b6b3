-- The path renewed in the cache, slot by slot. Assumes nothing.
use mathlib.Core.Path.{◌≡◌, sym, ap, ap₂, ◌∙◌}
use mathlib.Core.List.{List, [], ◌∷◌}
use Prim.Native.Nat.{ℕ, zero, suc, ◌+◌, ◌*◌, ◌%◌, ◌≤◌, ◌<◌, zero-le}
use native.Mathlib.Numerals.{add-one}
use native.Mathlib.Omega.{arith}
use lib.ListN.{length, get_or, set, length-set}
use lib.Seq.{take_all}
use Rattle.words.specs.Bytes.{to_le, part, put}
use Rattle.words.proofs.Digits.{Below, below-take, below-drop, length_digits, digits-exact}
use Rattle.words.proofs.Parts.{length_part, length-put, put-part, put_one}
use Rattle.words.proofs.Puts.{part-put-after, put-within}
use Rattle.memory_map.specs.Map.{on_path}
use Rattle.slot_map.specs.Slots.{cache_length, slot_of, level_of}
use Rattle.slot_map.proofs.Laws.{slot-within, level-slot}
use Rattle.cache.specs.Cache.{owner, content, with_slot}
use Rattle.cache.proofs.Laws.{length-with, owner-other, content-other, content-length, slot-room}
use Rattle.node.proofs.Laws.{slot-put}
use Rattle.renewal.specs.Renewed.{renewed_by}

-- ---- one slot in place

pub slot-renewed : (c : List ℕ) (s j t : ℕ) → 73 * s + 73 ≤ length c → Below 256 c → j < 8
    → put (set c (73 * s + 8) 1) (73 * s + 9 + 8 * j) (to_le 8 t) ≡ with_slot c s (owner c s) 1 (put (content c s) (8 * j) (to_le 8 t))
unfolding owner content
slot-renewed c s j t room plain h =
    let at = 73 * s in
    let d = set c (at + 8) 1 in
    let w = to_le 8 t in
    let wide = length_digits 256 8 t in
    let long : length d ≡ length c = length-set c (at + 8) 1 in
    let old : to_le 8 (owner c s) ≡ part c at 8 =
    digits-exact 256 8 (part c at 8) (length_part c at 8 (omega arith)) (below-take 8 _ (below-drop at c plain)) in
    let same : part d (at + 9) 64 ≡ content c s =
    ap (λ (l : List ℕ). part l (at + 9) 64) (sym (put_one c (at + 8) 1 (omega arith)))
    ∙ part-put-after c (at + 8) (1 ∷ []) (omega arith) (at + 9) 64 (omega arith) in
    let full : length (put (content c s) (8 * j) w) ≡ 64 =
    length-put (content c s) (8 * j) w (omega (arith, content-length c s room)) ∙ content-length c s room in
    put-within d (at + 9) 64 (8 * j) w (omega arith) (omega arith)
    ∙ ap (λ (l : List ℕ). put d (at + 9) (put l (8 * j) w)) same
    ∙ ap₂ {C = List ℕ} (λ (x y : List ℕ). put (set x (at + 8) 1) (at + 9) y) (sym (ap (put c at) old ∙ put-part c at 8 (omega arith)))
    (sym (take_all 64 (put (content c s) (8 * j) w) (omega arith)))
    ∙ slot-put c s (owner c s) 1 (put (content c s) (8 * j) w) room full

-- ---- level by level

module _ (h : ℕ) (c : List ℕ) (sized : length c ≡ cache_length h) (p : ℕ) (b : List ℕ) (full : length b ≡ 64) (f : ℕ) (tags : List ℕ) where
  -- what the slot of level k holds of the tags below
  abbrev renewal : ℕ → List ℕ
  renewal l = put (content c (slot_of (suc l) (on_path p (suc l)))) (8 * (on_path p l % 8)) (to_le 8 (get_or tags l 0))

  renewal-length : (l : ℕ) → l < h → length (renewal l) ≡ 64
  renewal-length l q =
      let s = slot_of (suc l) (on_path p (suc l)) in
      let size = content-length c s (slot-room h s c sized (slot-within h (suc l) (on_path p (suc l)) q)) in
      length-put (content c s) (8 * (on_path p l % 8)) (to_le 8 (get_or tags l 0)) (omega (arith, length_digits 256 8 (get_or tags l 0))) ∙ size

  pub renewed-length : (l : ℕ) → l ≤ h → length (renewed_by c p b f tags l) ≡ cache_length h
  unfolding renewed_by
  renewed-length zero q = length-with h c sized (slot_of 0 p) (slot-within h 0 p zero-le) (suc p) f b full ∙ sized
  renewed-length (suc l) q =
      let below = renewed-length l (omega arith) in
      length-with h (renewed_by c p b f tags l) below (slot_of (suc l) (on_path p (suc l))) (slot-within h (suc l) (on_path p (suc l)) q) _ 1
      (renewal l) (renewal-length l q)
      ∙ below

  -- slots of higher levels are as they were
  levels-apart : (k i l j : ℕ) → l < k → slot_of k i ≡ slot_of l j → ⊥
  levels-apart k i l j q e = omega (arith, level-slot k i, level-slot l j, ap level_of e)

  pub higher : (l k i : ℕ) → l < k → k ≤ h
      → (owner (renewed_by c p b f tags l) (slot_of k i) ≡ owner c (slot_of k i))
      × (content (renewed_by c p b f tags l) (slot_of k i) ≡ content c (slot_of k i))
  unfolding renewed_by
  higher zero k i q r = (
    owner-other h c sized (slot_of 0 p) (slot-within h 0 p zero-le) (suc p) f b full (slot_of k i) (levels-apart k i 0 p q),
    content-other h c sized (slot_of 0 p) (slot-within h 0 p zero-le) (suc p) f b full (slot_of k i) (levels-apart k i 0 p q),
  )
  higher (suc l) k i q r =
      let x = renewed_by c p b f tags l in
      let s = slot_of (suc l) (on_path p (suc l)) in
      let size = renewed-length l (omega arith) in
      let within = slot-within h (suc l) (on_path p (suc l)) (omega arith) in
      let below = higher l k i (omega arith) r in (
        owner-other h x size s within _ 1 (renewal l) (renewal-length l (omega arith)) (slot_of k i)
            (levels-apart k i (suc l) (on_path p (suc l)) q) ∙ below.0,
        content-other h x size s within _ 1 (renewal l) (renewal-length l (omega arith)) (slot_of k i)
            (levels-apart k i (suc l) (on_path p (suc l)) q) ∙ below.1,
      )

  -- the next slot, in place
  pub renew-first : (s : ℕ) → s ≡ slot_of 0 p → with_slot c s (p + 1) f b ≡ renewed_by c p b f tags 0
  unfolding renewed_by
  renew-first s e = ap₂ {C = List ℕ} (λ (i o : ℕ). with_slot c i o f b) e (add-one p)

  pub renew-next : (l : ℕ) → l < h → ((k : ℕ) → k ≤ h → owner c (slot_of k (on_path p k)) ≡ suc (on_path p k)) → (x : List ℕ) → x
      ≡ renewed_by c p b f tags l
      → (i s j t : ℕ) → i ≡ on_path p (l + 1) → s ≡ slot_of (l + 1) i → j ≡ on_path p l % 8 → t ≡ get_or tags l 0
      → with_slot x s (owner x s) 1 (put (content x s) (8 * j) (to_le 8 t)) ≡ renewed_by c p b f tags (l + 1)
  unfolding renewed_by
  renew-next l q held x e i s j t up slot low tag =
      let k = suc l in
      let s' = slot_of k (on_path p k) in
      let at : s ≡ s' = slot ∙ ap₂ slot_of (add-one l) (up ∙ ap (on_path p) (add-one l)) in
      let same = higher l k (on_path p k) (omega arith) (omega arith) in
      let r = renewed_by c p b f tags l in
      ap₂ {C = List ℕ} (λ (y : List ℕ) (z : ℕ). with_slot y z (owner y z) 1 (put (content y z) (8 * j) (to_le 8 t))) e at
      ∙ ap₂ {C = List ℕ} (λ (o : ℕ) (z : List ℕ). with_slot r s' o 1 (put z (8 * j) (to_le 8 t))) (same.0 ∙ held k (omega arith))
      same.1
      ∙ ap₂ {C = List ℕ} (λ (u v : ℕ). with_slot r s' (suc (on_path p k)) 1 (put (content c s') (8 * u) (to_le 8 v))) low tag
      ∙ ap (renewed_by c p b f tags) (sym (add-one l))
