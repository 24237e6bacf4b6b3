-- Recovery from what a power failure leaves: where the array has a fresh tree but for what the shadow lists, and cells that bring the
-- listed blocks forward to its counts, the rebuilt cache gives every block and node of that tree. Assumes nothing.
use mathlib.Core.Path.{◌≡◌, refl, sym, ap, ap₂, ◌∙◌, subst}
use mathlib.Core.Logic.{◌⊎◌, inl, inr}
use mathlib.Core.Bool.{Bool, true, false, cond, false≢true}
use mathlib.Core.List.{List}
use Prim.Native.Nat.{ℕ, zero, suc, ◌+◌, ◌-◌, ◌*◌, ◌/◌, ◌^◌, ◌≤◌, ◌<◌}
use native.Mathlib.Nat.{le_refl, add-zero}
use native.Mathlib.Omega.{arith}
use borrow.Author.Tests.{eq-eqb}
use lib.ListN.{length, take, drop}
use Rattle.words.proofs.Order.{eq-or-not}
use Rattle.memory_map.specs.Map.{pages, nodes, slots}
use Rattle.memory_map.proofs.Laws.{nodes-small, nodes-below, nodes-bottom, nodes-some}
use Rattle.slot_map.specs.Slots.{cache_length, slot_of, level_of}
use Rattle.slot_map.proofs.Laws.{slot-within, level-slot, level-low, level-high, level-within, belongs-node}
use Rattle.cache.specs.Cache.{owner, dirty, content, shadow_owner, shadow_owners, with_slot}
use Rattle.cache.specs.Cache.{bad_slot, empty_cache, from, holds, current}
use Rattle.cache.proofs.Laws.{owned-same, Formed, not-bad, length-with, owner-same, dirty-same}
use Rattle.cache.proofs.Laws.{content-same, owner-other, dirty-other, content-other, length-empty, owner-empty}
use Rattle.cache.proofs.Laws.{dirty-empty, holds-owner, owner-holds, current-cached, current-missing}
use Rattle.answer.specs.declared.Answer.TheVariants.{Done}
use Rattle.control.specs.Control.{family, depth, root}
use Rattle.calls.specs.Call.{Module, Called, media_of}
use Rattle.calls.specs.Recovery.{Forwarded, rebuild_slot, rebuild_blocks, rebuild_node, rebuild_nodes, recover_root}
use Rattle.calls.specs.Recovery.{recover_rebuilt, recover_shadow, recover_media, refuse_after}
use Rattle.calls.specs.Format.{counts_from, fresh_node}
use Rattle.history_laws.specs.History.{total}
use Rattle.calls.specs.Path.{child_tags}
use Rattle.call_laws.proofs.Tags.{tags-agree}
use Rattle.history_laws.proofs.Setting.{Setting, Tree, tree_node, tree_root, tag_of, Opening, Section}
use Rattle.history_laws.proofs.Tree.{tree-length}
use Rattle.history_laws.proofs.Fitting.{Fitted}
use Rattle.history_laws.proofs.Durable.{Durable}
use Rattle.history_laws.proofs.Brought.{Comes, on, ended, then-comes, Doubt, page_sum, block-comes}

-- ---- sums slot by slot

adds_none : (g : ℕ → ℕ) (s sum : ℕ) → sum ≡ sum + total (counts_from g s 0)
unfolding total counts_from
adds_none g s sum = sym (add-zero sum)

adds-step : (g : ℕ → ℕ) (s n sum t told : ℕ) → t ≡ sum + g s → told ≡ t + total (counts_from g (suc s) n)
    → told ≡ sum + total (counts_from g s (suc n))
unfolding total counts_from
adds-step g s n sum t told e q = omega (arith, e, q)

-- ---- blocks

module _ {S : Setting} {T : Tree} {o : Opening} {a : List ℕ} (m : Durable S T o a) where
  open S use {keys, h, high}
  open T use {count}

  -- ---- the cache, slot by slot

  -- the slots below s are rebuilt, the others empty
  pub record Upto (s : ℕ) (c : List ℕ) : Type 0 where
    pub sized : length c ≡ cache_length h
    pub listed : (t : ℕ) → t < s → t < slots h → owner c t ≡ shadow_owner h a t
    pub fresh : (t i : ℕ) → t < s → t < slots h → shadow_owner h a t ≡ suc i → content c t ≡ tree_node S T (level_of t) i
    pub rest : (t : ℕ) → s ≤ t → t < slots h → owner c t ≡ 0
    pub full : (t i : ℕ) → t < slots h → owner c t ≡ suc i → dirty c t ≡ 1
    pub bare : (t : ℕ) → t < slots h → owner c t ≡ 0 → dirty c t ≡ 0

  none_yet : Upto 0 (empty_cache h)
  none_yet =
      record {
        sized = length-empty h;
        listed = λ t p q. absurd (omega arith);
        fresh = λ t i p q e. absurd (omega arith);
        rest = λ t p q. owner-empty h t;
        full = λ t i p e. absurd (omega (arith, owner-empty h t));
        bare = λ t p e. dirty-empty h t;
      }

  -- an empty slot is passed over
  skipped : (s : ℕ) (c : List ℕ) → shadow_owner h a s ≡ 0 → Upto s c → Upto (suc s) c
  skipped s c e u =
      record {
        sized = u.sized;
        listed = λ t p q. own t p q (eq-or-not t s);
        fresh = λ t i p q o. made t i p q o (eq-or-not t s);
        rest = λ t p q. u.rest t (omega arith) q;
        full = u.full;
        bare = u.bare;
      }
    where
      own : (t : ℕ) → t < suc s → t < slots h → (t ≡ s) ⊎ (t ≡ s → ⊥) → owner c t ≡ shadow_owner h a t
      own t p q (inl z) = u.rest t (omega arith) q ∙ sym (subst (λ (k : ℕ). shadow_owner h a k ≡ 0) (sym z) e)
      own t p q (inr z) = u.listed t (omega (arith, z)) q

      made : (t i : ℕ) → t < suc s → t < slots h → shadow_owner h a t ≡ suc i → (t ≡ s) ⊎ (t ≡ s → ⊥)
          → content c t ≡ tree_node S T (level_of t) i
      made t i p q o (inl z) = absurd (omega (arith, o, subst (λ (k : ℕ). shadow_owner h a k ≡ 0) (sym z) e))
      made t i p q o (inr z) = u.fresh t i (omega (arith, z)) q o

  -- what the shadow lists belongs to its slot
  listed-node : (s i : ℕ) → s < slots h → shadow_owner h a s ≡ suc i → (i < nodes h (level_of s)) × (slot_of (level_of s) i ≡ s)
  listed-node s i within e = belongs-node h s i (m.owners.belong s i within e)

  -- a listed slot is filled with its node of the fresh tree
  module _ (s i : ℕ) (c b : List ℕ) (within : s < slots h) (e : shadow_owner h a s ≡ suc i) (same : b ≡ tree_node S T (level_of s) i)
      (u : Upto s c) where
    size : length b ≡ 64
    size = ap length same ∙ tree-length S T (level_of s) i

    word : suc i < 2 ^ 64
    word = omega (arith, (listed-node s i within e).0, nodes-small {h = h} (level_of s) refl high)

    abbrev next : List ℕ
    next = with_slot c s (suc i) 1 b

    own_same : owner next s ≡ suc i
    own_same = owner-same h c u.sized s within (suc i) 1 b size word

    own-other : (t : ℕ) → (t ≡ s → ⊥) → owner next t ≡ owner c t
    own-other = owner-other h c u.sized s within (suc i) 1 b size

    flag-other : (t : ℕ) → (t ≡ s → ⊥) → dirty next t ≡ dirty c t
    flag-other = dirty-other h c u.sized s within (suc i) 1 b size

    own : (t : ℕ) → t < suc s → t < slots h → (t ≡ s) ⊎ (t ≡ s → ⊥) → owner next t ≡ shadow_owner h a t
    own t p q (inl z) = subst (λ (k : ℕ). owner next k ≡ shadow_owner h a k) (sym z) (own_same ∙ sym e)
    own t p q (inr z) = own-other t z ∙ u.listed t (omega (arith, z)) q

    made : (t j : ℕ) → t < suc s → t < slots h → shadow_owner h a t ≡ suc j → (t ≡ s) ⊎ (t ≡ s → ⊥)
        → content next t ≡ tree_node S T (level_of t) j
    made t j p q o (inl z) =
        let index : i ≡ j = omega (arith, e, subst (λ (k : ℕ). shadow_owner h a k ≡ suc j) z o) in
        subst (λ (k : ℕ). content next k ≡ tree_node S T (level_of k) j) (sym z)
        (content-same h c u.sized s within (suc i) 1 b size ∙ same ∙ ap (tree_node S T (level_of s)) index)
    made t j p q o (inr z) = content-other h c u.sized s within (suc i) 1 b size t z ∙ u.fresh t j (omega (arith, z)) q o

    flag : (t j : ℕ) → t < slots h → owner next t ≡ suc j → (t ≡ s) ⊎ (t ≡ s → ⊥) → dirty next t ≡ 1
    flag t j q o (inl z) = subst (λ (k : ℕ). dirty next k ≡ 1) (sym z) (dirty-same h c u.sized s within (suc i) 1 b size)
    flag t j q o (inr z) = flag-other t z ∙ u.full t j q (sym (own-other t z) ∙ o)

    clean : (t : ℕ) → t < slots h → owner next t ≡ 0 → (t ≡ s) ⊎ (t ≡ s → ⊥) → dirty next t ≡ 0
    clean t q o (inl z) = absurd (omega (arith, own_same, subst (λ (k : ℕ). owner next k ≡ 0) z o))
    clean t q o (inr z) = flag-other t z ∙ u.bare t q (sym (own-other t z) ∙ o)

    filled : Upto (suc s) next
    filled =
        record {
          sized = length-with h c u.sized s within (suc i) 1 b size ∙ u.sized;
          listed = λ t p q. own t p q (eq-or-not t s);
          fresh = λ t j p q o. made t j p q o (eq-or-not t s);
          rest = λ t p q. own-other t (λ z. omega arith) ∙ u.rest t (omega arith) q;
          full = λ t j q o. flag t j q o (eq-or-not t s);
          bare = λ t q o. clean t q o (eq-or-not t s);
        }

  -- ---- the tree

  -- a node whose slot is rebuilt, or was never listed, is the fresh tree's
  current-fresh : (s : ℕ) (c : List ℕ) → Upto s c → (l i : ℕ) → l ≤ h → i < nodes h l → slot_of l i < s
      → current h a c l i ≡ tree_node S T l i
  current-fresh s c u l i low Node-in before = go (holds c l i) refl
    where
      within : slot_of l i < slots h
      within = slot-within h l i low

      go : (b : Bool) → holds c l i ≡ b → current h a c l i ≡ tree_node S T l i
      go true e =
          current-cached h a c l i e
          ∙ u.fresh (slot_of l i) i before within (sym (u.listed (slot_of l i) before within) ∙ holds-owner c l i e)
          ∙ ap (λ (k : ℕ). tree_node S T k i) (level-slot l i)
      go false e =
          current-missing h a c l i e
          ∙ m.stored l i low Node-in (λ o. false≢true (sym e ∙ owner-holds c l i (u.listed (slot_of l i) before within ∙ o)))

  -- a listed node, from the tags of its children
  node-built : (s i : ℕ) (c : List ℕ) → 4 ≤ s → s < slots h → shadow_owner h a s ≡ suc i → Upto s c
      → child_tags keys (level_of s - 1) (current h a c (level_of s - 1)) i ≡ tree_node S T (level_of s) i
  unfolding fresh_node slots
  node-built s i c far within e u =
      ap (λ (k : ℕ). child_tags keys (k - 1) (current h a c (k - 1)) i) level
      ∙ above ((s - 4) / 2) (omega (arith, level, level-within h s within)) (omega arith)
      (subst (λ (k : ℕ). i < nodes h k) level (listed-node s i within e).0)
      ∙ sym (ap (λ (k : ℕ). tree_node S T k i) level)
    where
      level : level_of s ≡ suc ((s - 4) / 2)
      level = level-high s far

      above : (k : ℕ) → suc k ≤ h → 4 + 2 * k ≤ s → i < nodes h (suc k)
          → child_tags keys (suc k - 1) (current h a c (suc k - 1)) i ≡ tree_node S T (suc k) i
      above k low far inside =
          let one : suc k - 1 ≡ k = omega arith in
          ap (λ (j : ℕ). child_tags keys j (current h a c j) i) one
          ∙ tags-agree keys k (current h a c k) (tree_node S T k) (8 * i) 8
          (λ j p q. current-fresh s c u k j (omega arith) (omega (arith, nodes-below h k low))
          (omega (arith, slot-within k k j (le_refl k))))

  -- ---- all slots

  abbrev listing : ℕ → ℕ → List ℕ
  listing s n = from (shadow_owner h a) s n

  -- what the owner of a slot adds to the sum
  unfoldable pub added : ℕ → ℕ
  added zero = 0
  added (suc p) = page_sum S T a p

  owner-none : (o sum : ℕ) → o ≡ 0 → sum ≡ sum + added o
  unfolding added
  owner-none o sum e = sym (ap (λ (k : ℕ). sum + added k) e ∙ add-zero sum)

  owner-some : (o p sum : ℕ) → o ≡ suc p → sum + page_sum S T a p ≡ sum + added o
  unfolding added
  owner-some o p sum e = sym (ap (λ (k : ℕ). sum + added k) e)

  -- node slots from s on
  nodes-from : (n s : ℕ) (c : List ℕ) → 4 ≤ s → s + n ≤ slots h → Upto s c → Upto (s + n) (rebuild_nodes h keys a s (listing s n) c)
  unfolding rebuild_nodes rebuild_node from
  nodes-from zero s c far p u = subst (λ (k : ℕ). Upto k c) (omega arith) u
  nodes-from (suc n) s c far p u = go (λ d v. nodes-from n (suc s) d (omega arith) (omega arith) v) (shadow_owner h a s) refl
    where
      Others : Type 0
      Others = (d : List ℕ) → Upto (suc s) d → Upto (suc s + n) (rebuild_nodes h keys a (suc s) (listing (suc s) n) d)

      step : Others → {d : List ℕ} → rebuild_node h keys a c s (shadow_owner h a s) ≡ d → Upto (suc s) d
          → Upto (s + suc n) (rebuild_nodes h keys a (suc s) (listing (suc s) n) (rebuild_node h keys a c s (shadow_owner h a s)))
      step others {d} e v =
          subst (λ (x : List ℕ). Upto (s + suc n) (rebuild_nodes h keys a (suc s) (listing (suc s) n) x)) (sym e)
          (subst (λ (k : ℕ). Upto k (rebuild_nodes h keys a (suc s) (listing (suc s) n) d)) (omega arith) (others d v))

      go : Others → (o : ℕ) → shadow_owner h a s ≡ o
          → Upto (s + suc n) (rebuild_nodes h keys a (suc s) (listing (suc s) n) (rebuild_node h keys a c s (shadow_owner h a s)))
      go others zero e = step others (ap (rebuild_node h keys a c s) e) (skipped s c e u)
      go others (suc i) e =
          step others (ap (rebuild_node h keys a c s) e) (filled s i c _ (omega arith) e (node-built s i c far (omega arith) e u) u)

  four : slots h ≡ suc (suc (suc (suc (2 * h))))
  unfolding slots
  four = omega arith

-- ---- the whole recovery, once the pending stores are made

-- what it is about
pub record Recoverable (S : Setting) (T : Tree) (o : Opening) (x : Module) : Type 0 where
  pub deep : depth x.control ≡ S.h
  pub alike : family x.control ≡ S.family
  pub said : Section o x.control
  pub durable : Durable S T o x.array
  pub cells : Fitted S T o x.array
  pub top : root x.control ≡ tree_root S T

module _ {S : Setting} {T : Tree} {o : Opening} {x : Module} (v : Recoverable S T o x) where
  open S use {keys, h}
  open v use {deep}

  abbrev a : List ℕ
  a = x.array

  abbrev m : Durable S T o a
  m = v.durable

  -- counter slots from s on
  pub record BlocksFrom (n s : ℕ) (c : List ℕ) (sum : ℕ) : Type 0 where
    pub cache : List ℕ
    pub told : ℕ
    pub comes : Comes (Doubt S T o a) (rebuild_blocks h keys (media_of x) s (listing m s n) c sum) cache told
    pub upto : Upto m (s + n) cache
    pub adds : told ≡ sum + total (counts_from (λ t. added m (shadow_owner h a t)) s n)

  blocks_from : (n s : ℕ) (c : List ℕ) (sum : ℕ) → s + n ≤ 4 → Upto m s c → BlocksFrom n s c sum
  unfolding rebuild_blocks rebuild_slot from slots
  blocks_from zero s c sum p u =
      record {
        cache = c;
        told = sum;
        comes = on refl;
        upto = subst (λ (k : ℕ). Upto m k c) (omega arith) u;
        adds = adds_none (λ t. added m (shadow_owner h a t)) s sum;
      }
  blocks_from (suc n) s c sum p u = go (λ e t v. blocks_from n (suc s) e t (omega arith) v) (shadow_owner h a s) refl
    where
      Slot : ℕ → List ℕ → ℕ → Type 0
      Slot owner i t = Comes (Doubt S T o a) (rebuild_slot h keys (media_of x) c sum s owner) i t

      step : {i : List ℕ} {t : ℕ} → Slot (shadow_owner h a s) i t → t ≡ sum + added m (shadow_owner h a s) → BlocksFrom n (suc s) i t
          → BlocksFrom (suc n) s c sum
      step e w r =
          record {
            cache = r.cache;
            told = r.told;
            comes = then-comes (rebuild_blocks h keys (media_of x) (suc s) (listing m (suc s) n)) e r.comes;
            upto = subst (λ (k : ℕ). Upto m k r.cache) (omega arith) r.upto;
            adds = adds-step (λ t. added m (shadow_owner h a t)) s n sum _ r.told w r.adds;
          }

      go : ((e : List ℕ) (t : ℕ) → Upto m (suc s) e → BlocksFrom n (suc s) e t) → (i : ℕ) → shadow_owner h a s ≡ i
          → BlocksFrom (suc n) s c sum
      go others zero e =
          step (subst (λ (i : ℕ). Slot i c sum) (sym e) (on refl)) (owner-none m (shadow_owner h a s) sum e)
          (others c sum (skipped m s c e u))
      go others (suc i) e =
          let level : level_of s ≡ 0 = level-low s (omega arith) in
          let there = listed-node m s i (omega arith) e in
          let index : i < nodes h 0 = subst (λ (k : ℕ). i < nodes h k) level there.0 in
          let page : i < pages h = omega (arith, index, nodes-bottom h) in
          let own : slot_of 0 i ≡ s = subst (λ (k : ℕ). slot_of k i ≡ s) level there.1 in
          let listed : shadow_owner h a (slot_of 0 i) ≡ suc i = ap (shadow_owner h a) own ∙ e in
          let new = with_slot c s (suc i) 1 (tree_node S T 0 i) in
          step (subst (λ (j : ℕ). Slot j new (sum + page_sum S T a i)) (sym e)
          (block-comes m v.cells v.said v.alike i page listed c sum s))
          (owner-some m (shadow_owner h a s) i sum e)
          (others new (sum + page_sum S T a i)
          (filled m s i c (tree_node S T 0 i) (omega arith) e (ap (λ (k : ℕ). tree_node S T k i) (sym level)) u))

  pub blocks : BlocksFrom 4 0 (empty_cache h) 0
  blocks = blocks_from 4 0 (empty_cache h) 0 (le_refl 4) (none_yet m)

  pub cache_after : List ℕ
  cache_after = rebuild_nodes h keys a 4 (listing m 4 (2 * h)) blocks.cache

  pub all_slots : Upto m (slots h) cache_after
  unfolding cache_after
  all_slots =
      subst (λ (k : ℕ). Upto m k cache_after) (omega (arith, four m))
      (nodes-from m (2 * h) 4 blocks.cache (le_refl 4) (omega (arith, four m)) blocks.upto)

  pub formed-after : Formed h cache_after
  formed-after =
      record {
        owners = owned-same m.owners (λ s p. all_slots.listed s p p);
        flag = λ s p. flags s p (owner cache_after s) refl;
        clean = all_slots.bare;
      }
    where
      flags : (s : ℕ) → s < slots h → (o : ℕ) → owner cache_after s ≡ o → dirty cache_after s ≤ 1
      flags s p zero e = omega (arith, all_slots.bare s p e)
      flags s p (suc i) e = omega (arith, all_slots.full s i p e)

  -- ---- and its end

  abbrev os : List ℕ
  os = shadow_owners h a

  counter-slots : take 4 os ≡ from (shadow_owner h a) 0 4
  unfolding from
  counter-slots = ap (λ (n : ℕ). take 4 (from (shadow_owner h a) 0 n)) (four m)

  node-slots : drop 4 os ≡ from (shadow_owner h a) 4 (2 * h)
  unfolding from
  node-slots = ap (λ (n : ℕ). drop 4 (from (shadow_owner h a) 0 n)) (four m)

  -- k is the number of the pending stores
  module _ (k : ℕ) where
    abbrev done-with : ℕ → Called
    done-with sum = record { answer = Done k sum; after = record { array = a; control = x.control; cache = cache_after } }

    -- the top is the fresh tree's, so it gives the root
    root-right : (sum : ℕ) → recover_root keys k x sum cache_after ≡ done-with sum
    unfolding recover_root
    root-right sum =
        let top_in = slot-within h h 0 (le_refl h) in
        let u = all_slots in
        ap (λ (b : Bool). cond b (done-with sum) (refuse_after k x 29 0))
        (eq-eqb _ _ (ap (λ (d : ℕ). tag_of S (current d a cache_after d 0) d 0) deep
        ∙ ap (λ (b : List ℕ). tag_of S b h 0) (current-fresh m (slots h) cache_after u h 0 (le_refl h) (nodes-some h h) top_in)
        ∙ sym v.top))

    -- by what the counters come to
    abbrev counters : Forwarded
    counters = rebuild_blocks h keys (media_of x) 0 (from (shadow_owner h a) 0 4) (empty_cache h) 0

    by-counters : recover_media keys k x ≡ recover_rebuilt keys k x os counters
    unfolding recover_shadow
    by-counters =
        ap (λ (d : ℕ). recover_shadow keys k x (shadow_owners d a) (bad_slot d (shadow_owners d a))) deep
        ∙ ap (recover_shadow keys k x os) (not-bad h (shadow_owner h a) m.owners)
        ∙ ap (recover_rebuilt keys k x os)
        (ap₂ (λ (i : ℕ) (l : List ℕ). rebuild_blocks i keys (media_of x) 0 l (empty_cache i) 0) deep counter-slots)

    -- it is done, unless a line ends it as 34
    pub data Result : Type 0 where
      built : recover_media keys k x ≡ done-with blocks.told → Result
      halted : Doubt S T o a → (n : ℕ) → recover_media keys k x ≡ refuse_after k x 34 n → Result

    pub result : Result
    unfolding recover_rebuilt cache_after
    result = go blocks.comes
      where
        go : Comes (Doubt S T o a) counters blocks.cache blocks.told → Result
        go (on e) =
            built
            (by-counters ∙ ap (recover_rebuilt keys k x os) e
            ∙ ap₂ (λ (d : ℕ) (l : List ℕ). recover_root keys k x blocks.told (rebuild_nodes d keys a 4 l blocks.cache)) deep node-slots
            ∙ root-right blocks.told)
        go (ended doubt n e) = halted doubt n (by-counters ∙ ap (recover_rebuilt keys k x os) e)
