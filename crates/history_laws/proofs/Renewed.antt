-- The cache after a path is renewed: that of the page is the new tree's, dirty but for the block's flag; owners and all other slots stay.
-- It goes with an array that keeps the new tree. Assumes nothing.
use mathlib.Core.Path.{◌≡◌, refl, sym, ap, ◌∙◌, subst}
use mathlib.Core.Logic.{◌⊎◌, inl, inr}
use mathlib.Core.List.{List}
use Prim.Native.Nat.{ℕ, zero, suc, ◌^◌, ◌≤◌, ◌<◌, zero-le}
use native.Mathlib.Nat.{le_refl}
use native.Mathlib.Omega.{arith}
use lib.ListN.{length}
use Rattle.words.proofs.Digits.{Below}
use Rattle.words.proofs.Order.{eq-or-not}
use Rattle.memory_map.specs.Map.{pages, nodes, slots, on_path}
use Rattle.memory_map.specs.Map.Item.{node}
use Rattle.memory_map.proofs.Laws.{path-bottom, nodes-small, path-within}
use Rattle.slot_map.specs.Slots.{cache_length, slot_of, level_of}
use Rattle.slot_map.proofs.Laws.{slot-within, level-slot, level-within}
use Rattle.cache.specs.Cache.{owner, dirty, content, shadow_owner, with_slot}
use Rattle.cache.proofs.Laws.{owned-same, slot-holds}
use Rattle.cache.proofs.Laws.{length-with, below-with, owner-same, dirty-same, content-same, owner-other, dirty-other, content-other}
use Rattle.calls.specs.Path.{renewed, renew_path}
use Rattle.call_laws.proofs.Loads.{Fit}
use Rattle.history_laws.proofs.Setting.{Setting, Tree, tree_node, node_in, Opening}
use Rattle.history_laws.proofs.Tree.{tree-bytes, tree-length, Path, off-path, renewed-fresh}
use Rattle.history_laws.proofs.Durable.{Durable}
use Rattle.history_laws.proofs.Stores.{first, second}
use Rattle.history_laws.proofs.Live.{Live}

-- the cache c holds the path of page p in the tree T, to be renewed to that of U with this flag for its block
pub record Renewing (S : Setting) (T U : Tree) (p : ℕ) (c : List ℕ) (flag : ℕ) : Type 0 where
  pub fit : Fit S.h c
  pub page : p < pages S.h
  pub held : (k : ℕ) → k ≤ S.h → owner c (slot_of k (on_path p k)) ≡ suc (on_path p k)
  pub path : Path S T U p c
  pub small : flag ≤ 1

-- the block's flag, and 1 for the nodes above it
unfoldable pub flag_at : ℕ → ℕ → ℕ
flag_at flag zero = flag
flag_at flag (suc k) = 1

pub flag_small : (flag : ℕ) → flag ≤ 1 → (k : ℕ) → flag_at flag k ≤ 1
unfolding flag_at
flag_small flag p zero = p
flag_small flag p (suc k) = le_refl 1

module _ {S : Setting} {T U : Tree} {p : ℕ} {c : List ℕ} {flag : ℕ} (w : Renewing S T U p c flag) where
  open S use {keys, h, high}

  abbrev pub slot : ℕ → ℕ
  slot k = slot_of k (on_path p k)

  -- the n lowest levels are renewed
  pub record After (n : ℕ) (d : List ℕ) : Type 0 where
    pub sized : length d ≡ cache_length h
    pub bytes : Below 256 d
    pub own : (t : ℕ) → t < slots h → owner d t ≡ owner c t
    pub on : (k : ℕ) → k < n → content d (slot k) ≡ tree_node S U k (on_path p k)
    pub flags : (k : ℕ) → k < n → dirty d (slot k) ≡ flag_at flag k
    pub off : (t : ℕ) → t < slots h → ((k : ℕ) → k < n → t ≡ slot k → ⊥) → (content d t ≡ content c t) × (dirty d t ≡ dirty c t)

  none_yet : After 0 c
  none_yet =
      record {
        sized = w.fit.sized;
        bytes = w.fit.bytes;
        own = λ t s. refl;
        on = λ k s. absurd (omega arith);
        flags = λ k s. absurd (omega arith);
        off = λ t s z. (refl, refl);
      }

  -- one level more
  module _ (n : ℕ) (q : n ≤ h) (d : List ℕ) (u : After n d) (b : List ℕ) (new : b ≡ tree_node S U n (on_path p n)) where
    size : length b ≡ 64
    size = ap length new ∙ tree-length S U n (on_path p n)

    there : slot n < slots h
    there = slot-within h n (on_path p n) q

    word : suc (on_path p n) < 2 ^ 64
    word = omega (arith, path-within h p n w.page q, nodes-small {h = h} n refl high)

    abbrev next : List ℕ
    next = with_slot d (slot n) (suc (on_path p n)) (flag_at flag n) b

    -- lower levels have other slots
    lower : (k : ℕ) → k < n → slot k ≡ slot n → ⊥
    lower k s e = omega (arith, sym (level-slot k (on_path p k)) ∙ ap level_of e ∙ level-slot n (on_path p n))

    content-off : (t : ℕ) → (t ≡ slot n → ⊥) → content next t ≡ content d t
    content-off = content-other h d u.sized (slot n) there (suc (on_path p n)) (flag_at flag n) b size

    dirty-off : (t : ℕ) → (t ≡ slot n → ⊥) → dirty next t ≡ dirty d t
    dirty-off = dirty-other h d u.sized (slot n) there (suc (on_path p n)) (flag_at flag n) b size

    owns : (t : ℕ) → t < slots h → (t ≡ slot n) ⊎ (t ≡ slot n → ⊥) → owner next t ≡ owner c t
    owns t s (inl z) =
        subst (λ (k : ℕ). owner next k ≡ owner c k) (sym z)
        (owner-same h d u.sized (slot n) there (suc (on_path p n)) (flag_at flag n) b size word ∙ sym (w.held n q))
    owns t s (inr z) = owner-other h d u.sized (slot n) there (suc (on_path p n)) (flag_at flag n) b size t z ∙ u.own t s

    contents : (k : ℕ) → k < suc n → (k ≡ n) ⊎ (k ≡ n → ⊥) → content next (slot k) ≡ tree_node S U k (on_path p k)
    contents k s (inl z) =
        subst (λ (k : ℕ). content next (slot k) ≡ tree_node S U k (on_path p k)) (sym z)
        (content-same h d u.sized (slot n) there (suc (on_path p n)) (flag_at flag n) b size ∙ new)
    contents k s (inr z) = content-off (slot k) (lower k (omega (arith, z))) ∙ u.on k (omega (arith, z))

    dirties : (k : ℕ) → k < suc n → (k ≡ n) ⊎ (k ≡ n → ⊥) → dirty next (slot k) ≡ flag_at flag k
    dirties k s (inl z) =
        subst (λ (k : ℕ). dirty next (slot k) ≡ flag_at flag k) (sym z)
        (dirty-same h d u.sized (slot n) there (suc (on_path p n)) (flag_at flag n) b size)
    dirties k s (inr z) = dirty-off (slot k) (lower k (omega (arith, z))) ∙ u.flags k (omega (arith, z))

    after_next : After (suc n) next
    after_next =
        record {
          sized = length-with h d u.sized (slot n) there (suc (on_path p n)) (flag_at flag n) b size ∙ u.sized;
          bytes = below-with h d u.sized (slot n) there (suc (on_path p n)) (flag_at flag n) b size
              (omega (arith, flag_small flag w.small n)) (subst (Below 256) (sym new) (tree-bytes S U n (on_path p n)))
              u.bytes;
          own = λ t s. owns t s (eq-or-not t (slot n));
          on = λ k s. contents k s (eq-or-not k n);
          flags = λ k s. dirties k s (eq-or-not k n);
          off = λ t s z.
              let away = z n (omega arith) in
              let below = u.off t s (λ k r. z k (omega arith)) in (content-off t away ∙ below.0, dirty-off t away ∙ below.1);
        }

  pub after-path : (l : ℕ) → l ≤ h → After (suc l) (renew_path keys c p (tree_node S U 0 p) flag l)
  unfolding renew_path flag_at
  after-path zero q =
      subst (λ (i : ℕ). After 1 (with_slot c (slot_of 0 i) (suc i) flag (tree_node S U 0 i))) (path-bottom p)
      (after_next 0 q c none_yet (tree_node S U 0 (on_path p 0)) refl)
  after-path (suc l) q =
      after_next (suc l) q _ (after-path l (omega arith)) (renewed keys c p (tree_node S U 0 p) (suc l)) (renewed-fresh w.path (suc l) q)

-- ---- array and cache together

-- the cache c goes with the array a, and its path is renewed once the array is d, which keeps the tree U, and its block if the flag is 0
pub record Renewal (S : Setting) (T U : Tree) (o r : Opening) (p : ℕ) (a c : List ℕ) (flag : ℕ) (d : List ℕ) : Type 0 where
  pub live : Live S T o a c
  pub renewing : Renewing S T U p c flag
  pub durable : Durable S U r d
  pub shadows : (s : ℕ) → s < slots S.h → shadow_owner S.h d s ≡ shadow_owner S.h a s
  pub others : (k i : ℕ) → k ≤ S.h → i < nodes S.h k → (node k i ≡ node 0 p → ⊥) → node_in S d k i ≡ node_in S a k i
  pub now : flag ≡ 0 → node_in S d 0 p ≡ tree_node S U 0 p

module _ {S : Setting} {T U : Tree} {o r : Opening} {p : ℕ} {a c : List ℕ} {flag : ℕ} {d : List ℕ}
    (w : Renewal S T U o r p a c flag d) where
  open S use {keys, h}
  open w use {live as v, renewing, shadows, others}
  open renewing use {held, path}

  abbrev after : List ℕ
  after = renew_path keys c p (tree_node S U 0 p) flag h

  u : After renewing (suc h) after
  u = after-path renewing h (le_refl h)

  -- the path's slot at the level of slot s
  abbrev spot : ℕ → ℕ
  spot s = slot_of (level_of s) (on_path p (level_of s))

  -- a slot on the path, and one off it
  on-path : (s : ℕ) → s < slots h → s ≡ spot s → (P : ℕ → ℕ → Type 0) → ((k : ℕ) → k ≤ h → P (slot_of k (on_path p k)) k) → P s (level_of s)
  on-path s q e P each = subst (λ (t : ℕ). P t (level_of s)) (sym e) (each (level_of s) (level-within h s q))

  off-slot : (s : ℕ) → (s ≡ spot s → ⊥) → (k : ℕ) → k ≤ h → s ≡ slot_of k (on_path p k) → ⊥
  off-slot s e k q z =
      let level : level_of s ≡ k = ap level_of z ∙ level-slot k (on_path p k) in
      e (z ∙ ap (λ (j : ℕ). slot_of j (on_path p j)) (sym level))

  away-slot : (s : ℕ) → s < slots h → (s ≡ spot s → ⊥) → (content after s ≡ content c s) × (dirty after s ≡ dirty c s)
  away-slot s q e = u.off s q (λ k r. off-slot s e k (omega arith))

  index-off : (s i : ℕ) → s < slots h → owner c s ≡ suc i → (s ≡ spot s → ⊥) → i ≡ on_path p (level_of s) → ⊥
  index-off s i q o e z = e (sym (slot-holds h c s i v.fit.formed q o).1.0 ∙ ap (slot_of (level_of s)) z)

  path-flag : (k : ℕ) → k ≤ h → dirty after (slot_of k (on_path p k)) ≤ 1
  path-flag k q = omega (arith, u.flags k (omega arith), flag_small flag renewing.small k)

  flags : (s : ℕ) → s < slots h → (s ≡ spot s) ⊎ (s ≡ spot s → ⊥) → dirty after s ≤ 1
  flags s q (inl e) = on-path s q e (λ t k. dirty after t ≤ 1) path-flag
  flags s q (inr e) = omega (arith, (away-slot s q e).1, v.fit.formed.flag s q)

  cleans : (s : ℕ) → s < slots h → owner after s ≡ 0 → (s ≡ spot s) ⊎ (s ≡ spot s → ⊥) → dirty after s ≡ 0
  cleans s q o (inl e) =
      absurd (on-path s q e (λ t k. owner c t ≡ 0 → ⊥) (λ k r z. omega (arith, held k r, z)) (sym (u.own s q) ∙ o))
  cleans s q o (inr e) = (away-slot s q e).1 ∙ v.fit.formed.clean s q (sym (u.own s q) ∙ o)

  fit-renewed : Fit h after
  fit-renewed =
      record {
        sized = u.sized;
        formed = record {
          owners = owned-same v.fit.formed.owners u.own;
          flag = λ s q. flags s q (eq-or-not s (spot s));
          clean = λ s q o. cleans s q o (eq-or-not s (spot s));
        };
        bytes = u.bytes;
      }

  fresh-renewed : (s i : ℕ) → s < slots h → owner after s ≡ suc i
      → (s ≡ spot s) ⊎ (s ≡ spot s → ⊥) → content after s ≡ tree_node S U (level_of s) i
  fresh-renewed s i q o (inl e) =
      on-path s q e (λ t k. owner c t ≡ suc i → content after t ≡ tree_node S U k i)
      (λ k r z. let same : on_path p k ≡ i = omega (arith, held k r, z) in u.on k (omega arith) ∙ ap (tree_node S U k) same)
      (sym (u.own s q) ∙ o)
  fresh-renewed s i q o (inr e) =
      let o' = sym (u.own s q) ∙ o in
      (away-slot s q e).0 ∙ v.fresh s i q o' ∙ off-path S T U p path.same (level_of s) i (index-off s i q o' e)

  path-clean : (k i : ℕ) → k ≤ h → owner c (slot_of k (on_path p k)) ≡ suc i → dirty after (slot_of k (on_path p k)) ≡ 0
      → node_in S d k i ≡ tree_node S U k i
  unfolding flag_at
  path-clean (suc k) i q o z = absurd (omega (arith, u.flags (suc k) (omega arith), z))
  path-clean zero i q o z =
      let same : p ≡ i = sym (path-bottom p) ∙ omega (arith, held 0 zero-le, o) in
      subst (λ (j : ℕ). node_in S d 0 j ≡ tree_node S U 0 j) same (w.now (sym (u.flags 0 (omega arith)) ∙ z))

  clean-renewed : (s i : ℕ) → s < slots h → owner after s ≡ suc i → dirty after s ≡ 0 → (s ≡ spot s) ⊎ (s ≡ spot s → ⊥)
      → node_in S d (level_of s) i ≡ tree_node S U (level_of s) i
  unfolding first second
  clean-renewed s i q o z (inl e) =
      on-path s q e (λ t k. owner c t ≡ suc i → dirty after t ≡ 0 → node_in S d k i ≡ tree_node S U k i)
      (λ k r x y. path-clean k i r x y) (sym (u.own s q) ∙ o) z
  clean-renewed s i q o z (inr e) =
      let o' = sym (u.own s q) ∙ o in
      let away = index-off s i q o' e in
      others (level_of s) i (level-within h s q) (slot-holds h c s i v.fit.formed q o').0
      (λ w. away (ap second w ∙ sym (path-bottom p) ∙ ap (on_path p) (sym (ap first w))))
      ∙ v.clean s i q o' (sym (away-slot s q e).1 ∙ z) ∙ off-path S T U p path.same (level_of s) i away

  pub live-renewed : Live S U r d after
  live-renewed =
      record {
        durable = w.durable;
        fit = fit-renewed;
        listed = λ s q. u.own s q ∙ v.listed s q ∙ sym (shadows s q);
        fresh = λ s i q o. fresh-renewed s i q o (eq-or-not s (spot s));
        clean = λ s i q o z. clean-renewed s i q o z (eq-or-not s (spot s));
      }
