-- The list has the page of each dirty counter slot once, and what the code writes is the list. Assumes nothing.
use mathlib.Core.Path.{◌≡◌, refl, sym, ap, ap₂, ◌∙◌, subst}
use mathlib.Core.Bool.{Bool, true, false, ◌&&◌, cond, and-eq-true_iff, false≢true}
use mathlib.Core.List.{List, [], ◌∷◌, ◌++◌}
use Prim.Native.Nat.{ℕ, zero, suc, ◌+◌, ◌-◌, ◌*◌, ◌<◌, ◌≤◌, zero-le}
use native.Mathlib.Omega.{arith}
use borrow.Author.Tests.{eq-eqb, ne_eqb, eqb-true}
use lib.Dec.{eqb}
use lib.ListN.{length, replicate, length-append, length-replicate, replicate-append-replicate}
use Rattle.words.specs.Bytes.{digits, bytes_of}
use Rattle.words.proofs.Words.{bytes-append}
use Rattle.memory_map.specs.Map.{pages, nodes, slots}
use Rattle.memory_map.proofs.Laws.{nodes-bottom, nodes-small}
use Rattle.slot_map.specs.Slots.{slot_of}
use Rattle.slot_map.proofs.Laws.{slot-within, level-low}
use Rattle.cache.specs.Cache.{owner, dirty, from, holds}
use Rattle.cache.proofs.Laws.{Formed, holds-owner, slot-holds}
use Rattle.calls.specs.DirtyPages.{is_dirty, dirty_from, page_list}
use Rattle.rising.specs.Rising.{rising}
use Rattle.rising.proofs.Occurrences.{occurrences, occurs-other, none, once}
use Rattle.rising.proofs.Sequences.{Rises, rises-lower, padded}
use Rattle.rising.proofs.Laws.{rising-occurs, rising-four, rising-rises}
use Rattle.dirty_pages.specs.Entry.{spare, entry}

-- the pages of the dirty ones of n counter slots from s on, slot by slot
unfoldable pub slot_pages : List ℕ → ℕ → ℕ → List ℕ
slot_pages c s zero = []
slot_pages c s (suc n) = cond (eqb (dirty c s) 1) ((owner c s - 1) ∷ slot_pages c (suc s) n) (slot_pages c (suc s) n)

-- a dirty page is its slot's
dirty-page : (c : List ℕ) (p : ℕ) → is_dirty c p ≡ true → (owner c (slot_of 0 p) ≡ suc p) × (dirty c (slot_of 0 p) ≡ 1)
unfolding is_dirty
dirty-page c p e =
    let both = (and-eq-true_iff (holds c 0 p) (eqb (dirty c (slot_of 0 p)) 1)).0 e in
    (holds-owner c 0 p both.0, eqb-true (dirty c (slot_of 0 p)) 1 both.1)

module _ (h : ℕ) (c : List ℕ) (f : Formed h c) where
  -- a dirty counter slot has a dirty page of the map, one that may take this slot
  record Paged (s : ℕ) : Type 0 where
    page : (owner c s - 1 < pages h) × (slot_of 0 (owner c s - 1) ≡ s)
    listed : is_dirty c (owner c s - 1) ≡ true

  paged : (s : ℕ) → s < 4 → dirty c s ≡ 1 → Paged s
  unfolding is_dirty slots
  paged s p d = go (owner c s) refl
    where
      go : (o : ℕ) → owner c s ≡ o → Paged s
      go zero e = absurd (omega (arith, f.clean s (omega arith) e, d))
      go (suc i) e =
          let at = subst (λ (l : ℕ). (i < nodes h l) × ((slot_of l i ≡ s) × (holds c l i ≡ true))) (level-low s p)
          (slot-holds h c s i f (omega arith) e) in
          let is : owner c s - 1 ≡ i = omega arith in
          record {
            page = (omega (arith, at.0, nodes-bottom h, is), ap (slot_of 0) is ∙ at.1.0);
            listed = ap (is_dirty c) is
                ∙ ap₂ (λ (a b : Bool). a && b) at.1.1 (eq-eqb (dirty c (slot_of 0 i)) 1 (ap (dirty c) at.1.0 ∙ d));
          }

  -- the page of each dirty counter slot stands in the list once
  pub slot-once : (s : ℕ) → s < 4 → dirty c s ≡ 1 → occurrences (owner c s - 1) (dirty_from c 0 (pages h)) ≡ 1
  unfolding dirty_from
  slot-once s p d =
      let at = paged s p d in
      once (is_dirty c) (λ t. t) (dirty_from c) (λ t. refl) (λ t n. refl) (owner c s - 1) (owner c s - 1) at.listed refl 0
      (pages h) zero-le (omega (arith, at.page.0)) (λ t a b e q. q)

  -- and so the list has the pages of the slots, each as often
  pub same-pages : (x : ℕ) → occurrences x (dirty_from c 0 (pages h)) ≡ occurrences x (slot_pages c 0 4)
  unfolding dirty_from slot_pages slots
  same-pages x = go (is_dirty c x) refl
    where
      k : ℕ
      k = slot_of 0 x

      -- a dirty slot with page x is the slot of x, and x is dirty
      own : (t : ℕ) → t < 4 → eqb (dirty c t) 1 ≡ true → owner c t - 1 ≡ x → (t ≡ k) × (is_dirty c x ≡ true)
      own t p e q =
          let at = paged t p (eqb-true (dirty c t) 1 e) in
          (sym at.page.1 ∙ ap (slot_of 0) q, ap (is_dirty c) (sym q) ∙ at.listed)

      go : (b : Bool) → is_dirty c x ≡ b → occurrences x (dirty_from c 0 (pages h)) ≡ occurrences x (slot_pages c 0 4)
      go true e =
          let at = dirty-page c x e in
          let low : k < 4 = slot-within 0 0 x zero-le in
          let is : owner c k - 1 ≡ x = omega (arith, at.0) in
          ap (λ (y : ℕ). occurrences y (dirty_from c 0 (pages h))) (sym is) ∙ slot-once k low at.1
          ∙ sym (once (λ t. eqb (dirty c t) 1) (λ t. owner c t - 1) (slot_pages c) (λ t. refl) (λ t n. refl) x k
          (eq-eqb (dirty c k) 1 at.1) is 0 4 zero-le low (λ t a b d q. (own t b d q).0))
      go false e =
          none (is_dirty c) (λ t. t) (dirty_from c) (λ t. refl) (λ t n. refl) x 0 (pages h)
          (λ t a b d q. false≢true (sym e ∙ ap (is_dirty c) (sym q) ∙ d))
          ∙ sym (none (λ t. eqb (dirty c t) 1) (λ t. owner c t - 1) (slot_pages c) (λ t. refl) (λ t n. refl) x 0 4
          (λ t a b d q. false≢true (sym e ∙ (own t b d q).1)))

-- the list rises
pages-rise : (c : List ℕ) (hi p n : ℕ) → p + n ≤ hi → Rises p (dirty_from c p n) hi
unfolding dirty_from
pages-rise c hi p zero q = omega arith
pages-rise c hi p (suc n) q =
    go (is_dirty c p) (rises-lower p (suc p) (dirty_from c (suc p) n) hi (omega arith) (pages-rise c hi (suc p) n (omega arith)))
  where
    go : (b : Bool) → Rises p (dirty_from c (suc p) n) hi → Rises p (cond b (p ∷ dirty_from c (suc p) n) (dirty_from c (suc p) n)) hi
    go true r = (omega arith, r)
    go false r = r

pages-small : (h : ℕ) → h ≤ 3 → pages h ≤ 512
pages-small h flat = nodes-small {h = h} 0 (sym (nodes-bottom h)) flat

-- ---- what the code writes

pub entry-page : (c : List ℕ) (s : ℕ) → dirty c s ≡ 1 → owner c s - 1 ≡ entry c s
unfolding entry
entry-page c s e = ap (λ (b : Bool). cond b (owner c s - 1) spare) (sym (eq-eqb (dirty c s) 1 e))

pub entry-spare : (c : List ℕ) (s : ℕ) → (dirty c s ≡ 1 → ⊥) → spare ≡ entry c s
unfolding entry
entry-spare c s e = ap (λ (b : Bool). cond b (owner c s - 1) spare) (sym (ne_eqb (dirty c s) 1 e))

-- below the number of a spare place the entries are the pages
entries-pages : (c : List ℕ) (x : ℕ) → x < spare → (s n : ℕ) → occurrences x (from (entry c) s n) ≡ occurrences x (slot_pages c s n)
unfolding from slot_pages entry occurrences
entries-pages c x p s zero = refl
entries-pages c x p s (suc n) = go (eqb (dirty c s) 1) (entries-pages c x p (suc s) n)
  where
    go : (b : Bool) → occurrences x (from (entry c) (suc s) n) ≡ occurrences x (slot_pages c (suc s) n)
        → occurrences x (cond b (owner c s - 1) spare ∷ from (entry c) (suc s) n)
        ≡ occurrences x (cond b ((owner c s - 1) ∷ slot_pages c (suc s) n) (slot_pages c (suc s) n))
    go true e = omega arith
    go false e = occurs-other x spare (from (entry c) (suc s) n) (λ z. omega (arith, z, p)) ∙ e

spare-bytes : (n : ℕ) → bytes_of 8 (replicate n spare) ≡ replicate (8 * n) 255
unfolding bytes_of digits
spare-bytes zero = refl
spare-bytes (suc n) =
    let next : 8 * suc n ≡ 8 + 8 * n = omega arith in
    ap (λ (l : List ℕ). replicate 8 255 ++ l) (spare-bytes n) ∙ replicate-append-replicate 8 (8 * n) 255
    ∙ ap (λ (k : ℕ). replicate k 255) (sym next)

-- the entry of a slot is no more than a spare place
entry-most : (h : ℕ) (c : List ℕ) → h ≤ 3 → Formed h c → (s : ℕ) → s < 4 → entry c s ≤ spare
unfolding entry
entry-most h c flat f s p = go (eqb (dirty c s) 1) refl
  where
    go : (b : Bool) → eqb (dirty c s) 1 ≡ b → cond b (owner c s - 1) spare ≤ spare
    go true e = omega (arith, (paged h c f s p (eqb-true (dirty c s) 1 e)).page.0, pages-small h flat)
    go false e = omega arith

-- the entries in rising sequence are the list
pub written : (h : ℕ) (c : List ℕ) → h ≤ 3 → Formed h c
    → bytes_of 8 (rising (entry c 0) (entry c 1) (entry c 2) (entry c 3)) ≡ page_list h c
unfolding page_list from
written h c flat f =
    let xs = dirty_from c 0 (pages h) in
    let first = entry c 0 in
    let second = entry c 1 in
    let third = entry c 2 in
    let fourth = entry c 3 in
    let ys = rising first second third fourth in
    let most = entry-most h c flat f in
    let all = padded spare (pages h) (omega (arith, pages-small h flat)) 0 0 xs ys (pages-rise c (pages h) 0 (pages h) (omega arith))
    (rising-rises first second third fourth spare (most 0 (omega arith)) (most 1 (omega arith)) (most 2 (omega arith))
    (most 3 (omega arith)))
    (λ x p. same-pages h c f x ∙ sym (entries-pages c x p 0 4) ∙ sym (rising-occurs first second third fourth x)) in
    let spares = replicate all.count spare in
    let size : 4 ≡ length xs + all.count =
    sym (rising-four first second third fourth) ∙ ap length all.same ∙ length-append xs spares
    ∙ omega (arith, length-replicate all.count spare) in
    let left : 8 * all.count ≡ 32 - 8 * length xs = omega arith in
    ap (bytes_of 8) all.same ∙ bytes-append 8 xs spares
    ∙ ap (λ (l : List ℕ). bytes_of 8 xs ++ l) (spare-bytes all.count ∙ ap (λ (k : ℕ). replicate k 255) left)
