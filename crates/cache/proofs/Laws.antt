-- Laws of the cache: what a written slot and the other slots hold, what a formed cache is, and which nodes it holds.
-- Assumes nothing.
use mathlib.Core.Path.{◌≡◌, refl, sym, ap, ap₂, ◌∙◌, subst}
use mathlib.Core.Logic.{◌⊎◌, inl, inr}
use mathlib.Core.Bool.{Bool, true, false, ◌&&◌, ◌||◌, not, cond, and-eq-true_iff, and-false, false≢true}
use mathlib.Core.List.{List, ◌∷◌, ◌++◌}
use Prim.Native.Nat.{ℕ, zero, suc, ◌+◌, ◌-◌, ◌*◌, ◌^◌, ◌<◌, ◌≤◌, zero-le}
use native.Mathlib.Nat.{add-zero, zero-add, le_refl, sub_self}
use native.Mathlib.Decide.{ℕ_discrete}
use native.Mathlib.Omega.{arith}
use lib.Dec.{leb, eqb, lit<}
use lib.ListN.{length, take, drop, get_or, length-append, length-replicate}
use lib.Seq.{take_all}
use borrow.Author.Tests.{eq-eqb, ne_eqb, eqb-true, leb-true, le-leb}
use Rattle.words.specs.Bytes.{digits, from_le, to_le, part, put}
use Rattle.words.proofs.Order.{lt-eq-gt}
use Rattle.words.proofs.Digits.{Below, below-cons, below-append, below-take, below-drop, below-digits, length_digits, number-exact}
use Rattle.words.proofs.Parts.{part-part, length_part, length-put, below_put}
use Rattle.words.proofs.Puts.{get_d_part, part-put-same, part-put-before, part-put-after}
use Rattle.words.proofs.Zeros.{below-zeros, number-zeros}
use Rattle.memory_map.specs.Map.{slots, cell_of, nodes, array_length, InMap, Item}
use Rattle.memory_map.proofs.Laws.{cell-within}
use Rattle.slot_map.specs.Slots.{cache_length, slot_of, level_of, belongs}
use Rattle.memory_map.specs.Map.Item.{node}
use Rattle.slot_map.proofs.Laws.{slot-within, level-slot, belongs-node}
use Rattle.cache.specs.Cache.{owner, dirty, content, with_slot, empty_cache, cell_content, from, cache_owners, top_slot, stray, any_owner}
use Rattle.cache.specs.Cache.{missing_top, bad_slot, flags_formed, formed, holds, current}
use Rattle.cache.proofs.Owners.{place-empty, place-filled, flag-empty, flag-filled}
use Rattle.std.specs.Option.{is_none, option_or}
use Rattle.std.specs.Prelude.{Option, None, Some}

-- ---- a slot's bytes

abbrev slot : List ℕ → ℕ → List ℕ
slot c s = part c (73 * s) 73

owner-slot : (c : List ℕ) (s : ℕ) → owner c s ≡ from_le (take 8 (slot c s))
unfolding owner
owner-slot c s = sym (ap from_le (part-part c (73 * s) 73 0 8 (omega arith) ∙ ap (λ (k : ℕ). part c k 8) (add-zero (73 * s))))

dirty-slot : (c : List ℕ) (s : ℕ) → dirty c s ≡ get_or (slot c s) 8 0
unfolding dirty
dirty-slot c s = sym (get_d_part c (73 * s) 73 8 (lit< tt))

content-slot : (c : List ℕ) (s : ℕ) → content c s ≡ part (slot c s) 9 64
unfolding content
content-slot c s = sym (part-part c (73 * s) 73 9 64 (omega arith))

module _ (h : ℕ) (c : List ℕ) (sized : length c ≡ cache_length h) (s : ℕ) (within : s < slots h) (o d : ℕ) (b : List ℕ)
    (full : length b ≡ 64) where
  room : 73 * s + 73 ≤ length c
  unfolding cache_length
  room = omega arith

  size : length (to_le 8 o ++ (d ∷ b)) ≡ 73
  size = rw (length-append, length_digits) (omega arith)

  written : slot (with_slot c s o d b) s ≡ to_le 8 o ++ (d ∷ b)
  unfolding with_slot
  written = part-put-same c (73 * s) (to_le 8 o ++ (d ∷ b)) (omega (arith, room)) 73 size

  other : (t : ℕ) → (t ≡ s → ⊥) → slot (with_slot c s o d b) t ≡ slot c t
  unfolding with_slot
  other t e = go (lt-eq-gt t s)
    where
      go : (t < s) ⊎ ((t ≡ s) ⊎ (s < t)) → slot (put c (73 * s) (to_le 8 o ++ (d ∷ b))) t ≡ slot c t
      go (inl p) = part-put-before c (73 * s) (to_le 8 o ++ (d ∷ b)) (omega (arith, room)) (73 * t) 73 (omega arith)
      go (inr (inl p)) = absurd (e p)
      go (inr (inr p)) = part-put-after c (73 * s) (to_le 8 o ++ (d ∷ b)) (omega (arith, room)) (73 * t) 73 (omega (arith, size))

  pub length-with : length (with_slot c s o d b) ≡ length c
  unfolding with_slot
  length-with = length-put c (73 * s) (to_le 8 o ++ (d ∷ b)) (rw size room)

  pub owner-same : o < 2 ^ 64 → owner (with_slot c s o d b) s ≡ o
  unfolding digits
  owner-same p = owner-slot (with_slot c s o d b) s ∙ ap (λ (l : List ℕ). from_le (take 8 l)) written ∙ number-exact 256 8 o (lit< tt) p

  pub dirty-same : dirty (with_slot c s o d b) s ≡ d
  unfolding digits
  dirty-same = dirty-slot (with_slot c s o d b) s ∙ ap (λ (l : List ℕ). get_or l 8 0) written

  pub content-same : content (with_slot c s o d b) s ≡ b
  unfolding digits
  content-same = content-slot (with_slot c s o d b) s ∙ ap (λ (l : List ℕ). part l 9 64) written ∙ take_all 64 b (omega arith)

  pub owner-other : (t : ℕ) → (t ≡ s → ⊥) → owner (with_slot c s o d b) t ≡ owner c t
  owner-other t e = owner-slot (with_slot c s o d b) t ∙ ap (λ (l : List ℕ). from_le (take 8 l)) (other t e) ∙ sym (owner-slot c t)

  pub dirty-other : (t : ℕ) → (t ≡ s → ⊥) → dirty (with_slot c s o d b) t ≡ dirty c t
  dirty-other t e = dirty-slot (with_slot c s o d b) t ∙ ap (λ (l : List ℕ). get_or l 8 0) (other t e) ∙ sym (dirty-slot c t)

  pub content-other : (t : ℕ) → (t ≡ s → ⊥) → content (with_slot c s o d b) t ≡ content c t
  content-other t e = content-slot (with_slot c s o d b) t ∙ ap (λ (l : List ℕ). part l 9 64) (other t e) ∙ sym (content-slot c t)

  pub below-with : d < 256 → Below 256 b → Below 256 c → Below 256 (with_slot c s o d b)
  unfolding with_slot
  below-with p q r =
      below_put c (73 * s) (to_le 8 o ++ (d ∷ b)) r (below-append (to_le 8 o) (d ∷ b) (below-digits 256 8 o (lit< tt)) (below-cons p q))

-- ---- lengths and bytes of contents

pub content-length : (c : List ℕ) (s : ℕ) → 73 * s + 73 ≤ length c → length (content c s) ≡ 64
unfolding content
content-length c s p = length_part c (73 * s + 9) 64 (omega arith)

pub content-below : (c : List ℕ) (s : ℕ) → Below 256 c → Below 256 (content c s)
unfolding content
content-below c s b = below-take 64 _ (below-drop (73 * s + 9) c b)

pub cell-length : (h : ℕ) (a : List ℕ) (x : Item) → length a ≡ array_length h → InMap h x → length (cell_content a (cell_of h x)) ≡ 64
unfolding cell_content array_length
cell-length h a x e m = length_part a (72 * cell_of h x) 64 (omega (arith, cell-within h x m))

pub cell_below : (a : List ℕ) (n : ℕ) → Below 256 a → Below 256 (cell_content a n)
unfolding cell_content
cell_below a n b = below-take 64 _ (below-drop (72 * n) a b)

pub slot-room : (h s : ℕ) (c : List ℕ) → length c ≡ cache_length h → s < slots h → 73 * s + 73 ≤ length c
unfolding cache_length
slot-room h s c e p = omega arith

-- ---- formed

-- p at s, s + 1, .., n of them
abbrev pub all : (ℕ → Bool) → ℕ → ℕ → Bool
all p s zero = true
all p s (suc n) = p s && all p (suc s) n

all-at : (p : ℕ → Bool) (s n : ℕ) → all p s n ≡ true → (t : ℕ) → s ≤ t → t < s + n → p t ≡ true
all-at p s zero e t l u = absurd (omega arith)
all-at p s (suc n) e t l u = go (lt-eq-gt s t) ((and-eq-true_iff (p s) (all p (suc s) n)).0 e) (all-at p (suc s) n)
  where
    go : (s < t) ⊎ ((s ≡ t) ⊎ (t < s)) → (p s ≡ true) × (all p (suc s) n ≡ true)
        → (all p (suc s) n ≡ true → (k : ℕ) → suc s ≤ k → k < suc s + n → p k ≡ true) → p t ≡ true
    go (inl a) f ih = ih f.1 t a (omega arith)
    go (inr (inl a)) f ih = ap p (sym a) ∙ f.0
    go (inr (inr a)) f ih = absurd (omega arith)

at_all : (p : ℕ → Bool) (s n : ℕ) → ((t : ℕ) → s ≤ t → t < s + n → p t ≡ true) → all p s n ≡ true
at_all p s zero f = refl
at_all p s (suc n) f =
    (and-eq-true_iff (p s) (all p (suc s) n)).1
    (f s (omega arith) (omega arith), at_all p (suc s) n (λ t l u. f t (omega arith) (omega arith)))

-- a slot is in place where it is empty or its owner belongs there
abbrev pub placed : ℕ → (ℕ → ℕ) → ℕ → Bool
placed h f t = eqb (f t) 0 || belongs h t (f t)

abbrev pub empty : (ℕ → ℕ) → ℕ → Bool
empty f t = eqb (f t) 0

abbrev pub flagged : List ℕ → ℕ → Bool
flagged c t = leb (dirty c t) (cond (eqb (owner c t) 0) 0 1)

stray-all : (h : ℕ) (f : ℕ → ℕ) (s n : ℕ) → is_none (stray h s (from f s n)) ≡ all (placed h f) s n
unfolding stray from
stray-all h f s zero = refl
stray-all h f s (suc n) = go (placed h f s) (stray-all h f (suc s) n)
  where
    go : (b : Bool) → is_none (stray h (suc s) (from f (suc s) n)) ≡ all (placed h f) (suc s) n
        → is_none (cond b (stray h (suc s) (from f (suc s) n)) (Some s)) ≡ (b && all (placed h f) (suc s) n)
    go true e = e
    go false e = refl

pub any-all : (f : ℕ → ℕ) (s n : ℕ) → any_owner (from f s n) ≡ not (all (empty f) s n)
unfolding any_owner from
any-all f s zero = refl
any-all f s (suc n) = go (empty f s) (any-all f (suc s) n)
  where
    go : (b : Bool) → any_owner (from f (suc s) n) ≡ not (all (empty f) (suc s) n)
        → (not b || any_owner (from f (suc s) n)) ≡ not (b && all (empty f) (suc s) n)
    go true e = e
    go false e = refl

pub flags-all : (c : List ℕ) (s n : ℕ) → flags_formed c s n ≡ all (flagged c) s n
unfolding flags_formed
flags-all c s zero = refl
flags-all c s (suc n) = ap (λ (b : Bool). flagged c s && b) (flags-all c (suc s) n)

pub get_d-from : (f : ℕ → ℕ) (s n i : ℕ) → i < n → get_or (from f s n) i 0 ≡ f (s + i)
unfolding from
get_d-from f s zero i p = absurd (omega arith)
get_d-from f s (suc n) zero p = ap f (sym (add-zero s))
get_d-from f s (suc n) (suc i) p = get_d-from f (suc s) n i (omega arith) ∙ ap f (let e : suc s + i ≡ s + suc i = omega arith in e)

both : (a b : Option ℕ) → is_none (option_or a b) ≡ (is_none a && is_none b)
both None b = refl
both (Some s) b = refl

neither : (b : Bool) (s : ℕ) → is_none (cond b (Some s) None) ≡ not b
neither true s = refl
neither false s = refl

nothing : (a : Option ℕ) → is_none a ≡ true → a ≡ None
nothing None e = refl
nothing (Some s) e = absurd (false≢true e)

pub bad-all : (h : ℕ) (f : ℕ → ℕ) → is_none (bad_slot h (from f 0 (slots h)))
    ≡ (all (placed h f) 0 (slots h) && not (not (all (empty f) 0 (slots h)) && eqb (f (top_slot h)) 0))
unfolding bad_slot missing_top
bad-all h f =
    let os = from f 0 (slots h) in
    both (stray h 0 os) (missing_top h os)
    ∙ ap₂ ◌&&◌ (stray-all h f 0 (slots h))
    (neither (any_owner os && eqb (get_or os (top_slot h) 0) 0) (top_slot h)
    ∙ ap₂ (λ (a : Bool) (o : ℕ). not (a && eqb o 0)) (any-all f 0 (slots h))
    (get_d-from f 0 (slots h) (top_slot h) (slot-within h h 0 (le_refl h)) ∙ ap f (zero-add (top_slot h))))

-- owners are formed: each belongs to its slot, and where the top's slot is empty all are
pub record Owned (h : ℕ) (f : ℕ → ℕ) : Type 0 where
  pub belong : (s i : ℕ) → s < slots h → f s ≡ suc i → belongs h s (suc i) ≡ true
  pub top : f (top_slot h) ≡ 0 → (s : ℕ) → s < slots h → f s ≡ 0

pub owned-same : {h : ℕ} {f g : ℕ → ℕ} → Owned h f → ((s : ℕ) → s < slots h → g s ≡ f s) → Owned h g
owned-same {h} o e =
    record {
      belong = λ s i p q. o.belong s i p (sym (e s p) ∙ q);
      top = λ z s p. e s p ∙ o.top (sym (e (top_slot h) (slot-within h h 0 (le_refl h))) ∙ z) s p;
    }

pub owned : (h : ℕ) (f : ℕ → ℕ) → bad_slot h (from f 0 (slots h)) ≡ None → Owned h f
owned h f e =
    let facts = (and-eq-true_iff (all (placed h f) 0 (slots h)) (not (not (all (empty f) 0 (slots h)) && eqb (f (top_slot h)) 0))).0
    (sym (bad-all h f) ∙ ap is_none e) in
    record {
      belong = λ s i p q.
          ap (belongs h s) (sym q) ∙ sym (place-filled (f s) (belongs h s (f s)) (λ z. omega arith))
          ∙ all-at (placed h f) 0 (slots h) facts.0 s zero-le (rw zero-add p);
      top = λ z s p.
          eqb-true (f s) 0
          (all-at (empty f) 0 (slots h) (missing (all (empty f) 0 (slots h)) (eqb (f (top_slot h)) 0) (eq-eqb (f (top_slot h)) 0 z)
          facts.1) s zero-le (rw zero-add p));
    }
  where
    missing : (a b : Bool) → b ≡ true → not (not a && b) ≡ true → a ≡ true
    missing true b p q = refl
    missing false b p q = absurd (false≢true (ap not (sym p) ∙ q))

pub not-bad : (h : ℕ) (f : ℕ → ℕ) → Owned h f → bad_slot h (from f 0 (slots h)) ≡ None
not-bad h f o =
    nothing (bad_slot h (from f 0 (slots h)))
    (bad-all h f ∙ (and-eq-true_iff (all (placed h f) 0 (slots h)) (not (not (all (empty f) 0 (slots h)) && eqb (f (top_slot h)) 0))).1
    (at_all (placed h f) 0 (slots h) (λ t l u. place t (rw zero-add at u) (f t) refl), cached (f (top_slot h)) refl))
  where
    place : (t : ℕ) → t < slots h → (k : ℕ) → f t ≡ k → placed h f t ≡ true
    place t p zero e = place-empty (f t) (belongs h t (f t)) e
    place t p (suc i) e = place-filled (f t) (belongs h t (f t)) (λ z. omega arith) ∙ ap (belongs h t) e ∙ o.belong t i p e

    cached : (k : ℕ) → f (top_slot h) ≡ k → not (not (all (empty f) 0 (slots h)) && eqb (f (top_slot h)) 0) ≡ true
    cached zero e =
        ap (λ (a : Bool). not (not a && eqb (f (top_slot h)) 0))
        (at_all (empty f) 0 (slots h) (λ t l u. eq-eqb (f t) 0 (o.top e t (rw zero-add at u))))
    cached (suc i) e =
        ap (λ (b : Bool). not (not (all (empty f) 0 (slots h)) && b)) (ne_eqb (f (top_slot h)) 0 (λ z. omega arith))
        ∙ ap not (and-false (not (all (empty f) 0 (slots h))))

-- a formed cache
pub record Formed (h : ℕ) (c : List ℕ) : Type 0 where
  pub owners : Owned h (owner c)
  pub flag : (s : ℕ) → s < slots h → dirty c s ≤ 1
  pub clean : (s : ℕ) → s < slots h → owner c s ≡ 0 → dirty c s ≡ 0

pub formed-facts : (h : ℕ) (c : List ℕ) → formed h c ≡ true → Formed h c
unfolding formed
formed-facts h c e =
    let facts = (and-eq-true_iff (is_none (bad_slot h (cache_owners h c))) (flags_formed c 0 (slots h))).0 e in
    let flags = all-at (flagged c) 0 (slots h) (sym (flags-all c 0 (slots h)) ∙ facts.1) in
    record {
      owners = owned h (owner c) (nothing (bad_slot h (cache_owners h c)) facts.0);
      flag = λ s p. few (owner c s) (dirty c s) (flags s zero-le (rw zero-add p));
      clean = λ s p z. omega (arith, leb-true (dirty c s) 0 (sym (flag-empty (owner c s) (dirty c s) z) ∙ flags s zero-le (rw zero-add p)));
    }
  where
    few : (o d : ℕ) → leb d (cond (eqb o 0) 0 1) ≡ true → d ≤ 1
    few zero d q = omega (arith, leb-true d 0 (sym (flag-empty 0 d refl) ∙ q))
    few (suc i) d q = leb-true d 1 (sym (flag-filled (suc i) d (λ z. omega arith)) ∙ q)

pub facts-formed : (h : ℕ) (c : List ℕ) → Formed h c → formed h c ≡ true
unfolding formed
facts-formed h c f =
    (and-eq-true_iff (is_none (bad_slot h (cache_owners h c))) (flags_formed c 0 (slots h))).1 (
      ap is_none (not-bad h (owner c) f.owners),
      flags-all c 0 (slots h) ∙ at_all (flagged c) 0 (slots h) (λ t l u. fine t (rw zero-add at u) (owner c t) refl),
    )
  where
    fine : (t : ℕ) → t < slots h → (o : ℕ) → owner c t ≡ o → flagged c t ≡ true
    fine t p zero e = flag-empty (owner c t) (dirty c t) e ∙ le-leb (dirty c t) 0 (omega (arith, f.clean t p e))
    fine t p (suc i) e = flag-filled (owner c t) (dirty c t) (λ z. omega arith) ∙ le-leb (dirty c t) 1 (f.flag t p)

-- a formed cache stays formed when a slot takes a node that belongs there, if the top's slot is filled or is this one
pub formed-with : (h : ℕ) (c : List ℕ) (sized : length c ≡ cache_length h) (s : ℕ) (within : s < slots h) (i d : ℕ) (b : List ℕ)
    (full : length b ≡ 64)
    → suc i < 2 ^ 64 → belongs h s (suc i) ≡ true → d ≤ 1 → (owner c (top_slot h) ≡ 0 → s ≡ top_slot h) → Formed h c
    → Formed h (with_slot c s (suc i) d b)
formed-with h c sized s within i d b full small fits flag top f =
    record {
      owners = record {
        belong = λ t j p q. belong t j p q (ℕ_discrete t s);
        top = λ z. absurd (filled z (ℕ_discrete (top_slot h) s));
      };
      flag = λ t p. few t p (ℕ_discrete t s);
      clean = λ t p z. clean t p z (ℕ_discrete t s);
    }
  where
    new : List ℕ
    new = with_slot c s (suc i) d b

    same : (t : ℕ) → t ≡ s → owner new t ≡ suc i
    same t e = ap (owner new) e ∙ owner-same h c sized s within (suc i) d b full small

    belong : (t j : ℕ) → t < slots h → owner new t ≡ suc j → Dec (t ≡ s) → belongs h t (suc j) ≡ true
    belong t j p q (yes e) = ap₂ (belongs h) e (sym q ∙ same t e) ∙ fits
    belong t j p q (no e) = f.owners.belong t j p (sym (owner-other h c sized s within (suc i) d b full t e) ∙ q)

    filled : owner new (top_slot h) ≡ 0 → Dec (top_slot h ≡ s) → ⊥
    filled z (yes e) = omega (arith, same (top_slot h) e)
    filled z (no e) = e (sym (top (sym (owner-other h c sized s within (suc i) d b full (top_slot h) e) ∙ z)))

    few : (t : ℕ) → t < slots h → Dec (t ≡ s) → dirty new t ≤ 1
    few t p (yes e) = rw (e, dirty-same h c sized s within (suc i) d b full) flag
    few t p (no e) = rw (dirty-other h c sized s within (suc i) d b full t e) (f.flag t p)

    clean : (t : ℕ) → t < slots h → owner new t ≡ 0 → Dec (t ≡ s) → dirty new t ≡ 0
    clean t p z (yes e) = absurd (omega (arith, same t e))
    clean t p z (no e) =
        dirty-other h c sized s within (suc i) d b full t e ∙ f.clean t p (sym (owner-other h c sized s within (suc i) d b full t e) ∙ z)

-- ---- the empty cache

pub length-empty : (h : ℕ) → length (empty_cache h) ≡ cache_length h
length-empty h = length-replicate (cache_length h) 0

pub below-empty : (h : ℕ) → Below 256 (empty_cache h)
below-empty h = record { at = λ i. omega (arith, (below-zeros (cache_length h)).at i) }

pub owner-empty : (h s : ℕ) → owner (empty_cache h) s ≡ 0
unfolding owner
owner-empty h s =
    number-zeros 256 (part (empty_cache h) (73 * s) 8)
    (below-take 8 (drop (73 * s) (empty_cache h)) (below-drop (73 * s) (empty_cache h) (below-zeros (cache_length h))))

pub dirty-empty : (h s : ℕ) → dirty (empty_cache h) s ≡ 0
unfolding dirty
dirty-empty h s = omega (arith, (below-zeros (cache_length h)).at (73 * s + 8))

pub formed-empty : (h : ℕ) → Formed h (empty_cache h)
formed-empty h =
    record {
      owners = record { belong = λ s i p q. absurd (omega (arith, owner-empty h s)); top = λ z s p. owner-empty h s };
      flag = λ s p. omega (arith, dirty-empty h s);
      clean = λ s p z. dirty-empty h s;
    }

-- ---- what the cache holds

pub holds-owner : (c : List ℕ) (l i : ℕ) → holds c l i ≡ true → owner c (slot_of l i) ≡ suc i
unfolding holds
holds-owner c l i e = eqb-true (owner c (slot_of l i)) (suc i) e

pub owner-holds : (c : List ℕ) (l i : ℕ) → owner c (slot_of l i) ≡ suc i → holds c l i ≡ true
unfolding holds
owner-holds c l i e = eq-eqb (owner c (slot_of l i)) (suc i) e

pub current-cached : (h : ℕ) (a c : List ℕ) (l i : ℕ) → holds c l i ≡ true → current h a c l i ≡ content c (slot_of l i)
unfolding current
current-cached h a c l i e = ap (λ (b : Bool). cond b (content c (slot_of l i)) (cell_content a (cell_of h (node l i)))) e

pub current-missing : (h : ℕ) (a c : List ℕ) (l i : ℕ) → holds c l i ≡ false → current h a c l i ≡ cell_content a (cell_of h (node l i))
unfolding current
current-missing h a c l i e = ap (λ (b : Bool). cond b (content c (slot_of l i)) (cell_content a (cell_of h (node l i)))) e

-- a filled slot of a formed cache holds a node of its level
pub slot-holds : (h : ℕ) (c : List ℕ) (s i : ℕ) → Formed h c → s < slots h → owner c s ≡ suc i
    → (i < nodes h (level_of s)) × ((slot_of (level_of s) i ≡ s) × (holds c (level_of s) i ≡ true))
slot-holds h c s i f p e =
    let place = belongs-node h s i (f.owners.belong s i p e) in
    (place.0, (place.1, owner-holds c (level_of s) i (ap (owner c) place.1 ∙ e)))

-- a dirty slot of a formed cache has an owner, a node of its level
pub dirty-owner : (h : ℕ) (c : List ℕ) (l i : ℕ) → Formed h c → l ≤ h → dirty c (slot_of l i) ≡ 1
    → (0 < owner c (slot_of l i)) × InMap h (node l (owner c (slot_of l i) - 1))
unfolding InMap
dirty-owner h c l i f q d = go (owner c (slot_of l i)) refl
  where
    go : (o : ℕ) → owner c (slot_of l i) ≡ o → (0 < o) × ((l ≤ h) × (o - 1 < nodes h l))
    go zero e = absurd (omega (arith, f.clean (slot_of l i) (slot-within h l i q) e))
    go (suc j) e =
        let at = (slot-holds h c (slot_of l i) j f (slot-within h l i q) e).0 in
        (omega arith, (q, omega (arith, subst (λ (k : ℕ). j < nodes h k) (level-slot l i) at)))

-- a formed cache with a filled slot holds the top
pub top-cached : (h : ℕ) (c : List ℕ) (s i : ℕ) → Formed h c → s < slots h → owner c s ≡ suc i → holds c h 0 ≡ true
unfolding nodes
top-cached h c s i f p e = go (owner c (top_slot h)) refl
  where
    go : (o : ℕ) → owner c (top_slot h) ≡ o → holds c h 0 ≡ true
    go zero z = absurd (omega (arith, f.owners.top z s p))
    go (suc j) z =
        let at : j < 8 ^ (h - level_of (top_slot h)) = (slot-holds h c (top_slot h) j f (slot-within h h 0 (le_refl h)) z).0 in
        let one : 8 ^ (h - level_of (top_slot h)) ≡ 1 = ap (λ (l : ℕ). 8 ^ (h - l)) (level-slot h 0) ∙ ap (λ (k : ℕ). 8 ^ k) (sub_self h) in
        owner-holds c h 0 (z ∙ omega arith)

module _ (h : ℕ) (c : List ℕ) (sized : length c ≡ cache_length h) (s : ℕ) (within : s < slots h) (o d : ℕ) (b : List ℕ)
    (full : length b ≡ 64) where
  pub holds_same : (l i : ℕ) → s ≡ slot_of l i → o ≡ suc i → o < 2 ^ 64 → holds (with_slot c s o d b) l i ≡ true
  holds_same l i e p q =
      owner-holds (with_slot c s o d b) l i (ap (owner (with_slot c s o d b)) (sym e) ∙ owner-same h c sized s within o d b full q ∙ p)

  pub holds-other : (l i : ℕ) → (slot_of l i ≡ s → ⊥) → holds (with_slot c s o d b) l i ≡ holds c l i
  unfolding holds
  holds-other l i e = ap (λ (k : ℕ). eqb k (suc i)) (owner-other h c sized s within o d b full (slot_of l i) e)
