-- Nodes rebuilt one by one. Assumes nothing.
use mathlib.Core.Path.{◌≡◌, sym, ap, ap₂, ◌∙◌, subst}
use mathlib.Core.List.{List}
use Prim.Native.Nat.{ℕ, suc, ◌+◌, ◌-◌, ◌*◌, ◌≤◌, ◌<◌}
use native.Mathlib.Numerals.{add-one}
use native.Mathlib.Omega.{arith}
use lib.ListN.{length, get_or}
use Rattle.words.specs.Bytes.{to_le, put}
use Rattle.words.proofs.Digits.{length_digits}
use Rattle.words.proofs.Parts.{put-nil, put-append, put_all}
use Rattle.memory_map.specs.Map.{InMap}
use Rattle.memory_map.specs.Map.Item.{node}
use Rattle.slot_map.specs.Slots.{cache_length, level_of}
use Rattle.slot_map.proofs.Laws.{level-high}
use Rattle.tag.specs.Tag.{node_tag}
use Rattle.cache.specs.Cache.{with_slot, current}
use Rattle.cache.proofs.Owners.{none}
use Rattle.calls.specs.Path.{tags_from, child_tags}
use Rattle.calls.specs.Recovery.{rebuild_node, rebuild_nodes}
use Rattle.call_laws.proofs.Tags.{tags-length, tags-snoc}
use Rattle.forwarding.proofs.Blocks.{left, left-next}

-- the tags of the first k children, whose contents f tells, are stored in s
pub record Tagged (keys : List ℕ) (l : ℕ) (f : ℕ → List ℕ) (i : ℕ) (o s : List ℕ) (k : ℕ) : Type 0 where
  pub bytes : s ≡ put o 0 (tags_from keys l f (8 * i) k)
  pub full : length s ≡ 64

module _ (keys : List ℕ) (l : ℕ) (f : ℕ → List ℕ) (i : ℕ) (o : List ℕ) (size : length o ≡ 64) where
  pub tagged-none : Tagged keys l f i o o 0
  unfolding tags_from
  tagged-none = record { bytes = sym (put-nil o 0 (omega arith)); full = size }

  pub tagged-next : {s after b : List ℕ} {k t : ℕ} → Tagged keys l f i o s k → k < 8 → b ≡ f (8 * i + k)
      → t ≡ node_tag keys b l (8 * i + k) → after ≡ put s (8 * k) (to_le 8 t) → length after ≡ length s → Tagged keys l f i o after (k + 1)
  tagged-next {s} {after} {b} {k} {t} w p eb et e z =
      let old = tags_from keys l f (8 * i) k in
      let new = node_tag keys (f (8 * i + k)) l (8 * i + k) in
      let many = tags-length keys l f (8 * i) k in
      let behind : 8 * k ≡ 0 + length old = omega arith in
      record {
        bytes =
            e ∙ ap₂ {C = List ℕ} (λ (x : List ℕ) (n : ℕ). put x n (to_le 8 t)) w.bytes behind
            ∙ ap (λ (n : ℕ). put (put o 0 old) (0 + length old) (to_le 8 n)) (et ∙ ap (λ (x : List ℕ). node_tag keys x l (8 * i + k)) eb)
            ∙ put-append o 0 old (to_le 8 new) (omega (arith, length_digits 256 8 new))
            ∙ ap (put o 0) (sym (tags-snoc keys l f (8 * i) k));
        full = z ∙ w.full;
      }

  pub tagged-all : {s : List ℕ} {k : ℕ} → Tagged keys l f i o s k → k ≡ 8 → s ≡ child_tags keys l f i
  tagged-all {s} {k} w e =
      w.bytes ∙ ap (λ (n : ℕ). put o 0 (tags_from keys l f (8 * i) n)) e
      ∙ put_all o (child_tags keys l f i) (tags-length keys l f (8 * i) 8 ∙ sym size)

-- ---- a node of a slot

pub level-some : (s : ℕ) → 4 ≤ s → {l : ℕ} → l ≡ level_of s → 1 ≤ l
level-some s p e = omega (arith, level-high s p)

pub level-below : (h s i : ℕ) → 4 ≤ s → InMap h (node (level_of s) i) → {l : ℕ} → l ≡ level_of s → InMap h (node (l - 1 + 1) i)
level-below h s i p m {l} e =
    let whole : level_of s ≡ l - 1 + 1 = omega (arith, level-high s p) in
    subst (λ (n : ℕ). InMap h (node n i)) whole m

pub node-put : (h : ℕ) (keys a c : List ℕ) (s i : ℕ) {l : ℕ} {b d : List ℕ} → l ≡ level_of s
    → b ≡ child_tags keys (l - 1) (current h a c (l - 1)) i → d ≡ with_slot c s (i + 1) 1 b → d ≡ rebuild_node h keys a c s (suc i)
unfolding rebuild_node
node-put h keys a c s i {l} {b} {d} e f g =
    g ∙ ap₂ {C = List ℕ} (λ (o : ℕ) (x : List ℕ). with_slot c s o 1 x) (add-one i)
    (f ∙ ap (λ (k : ℕ). child_tags keys (k - 1) (current h a c (k - 1)) i) e)

-- ---- node slots, one by one

module _ (h : ℕ) (keys a os : List ℕ) (n : ℕ) where
  -- what is left to do from slot s on
  abbrev pub nodes_from : ℕ → List ℕ → List ℕ
  nodes_from s c = rebuild_nodes h keys a s (left os n s) c

  -- the node slots before s are rebuilt, from the cache first
  pub record Renewing (first c : List ℕ) (s : ℕ) : Type 0 where
    pub full : length c ≡ cache_length h
    pub rest : nodes_from 4 first ≡ nodes_from s c

  module _ (size : n ≤ length os) {first c : List ℕ} {s : ℕ} (r : Renewing first c s) (p : s < n) where
    pub renewing-next : {d : List ℕ} {o : ℕ} → o ≡ get_or os s 0 → d ≡ rebuild_node h keys a c s o → length d ≡ cache_length h
        → Renewing first d (s + 1)
    unfolding rebuild_nodes
    renewing-next {d} {o} e f l =
        record {
          full = l;
          rest =
              r.rest ∙ ap (λ (x : List ℕ). rebuild_nodes h keys a s x c) (left-next os n s p size)
              ∙ ap₂ {C = List ℕ} (λ (k : ℕ) (x : List ℕ). rebuild_nodes h keys a k (left os n (s + 1)) x) (sym (add-one s))
              (ap (rebuild_node h keys a c s) (sym e) ∙ sym f);
        }

    pub renewing-empty : {d : List ℕ} → get_or os s 0 ≡ 0 → d ≡ c → Renewing first d (s + 1)
    unfolding rebuild_node
    renewing-empty e f = renewing-next (sym e) f (ap length f ∙ r.full)

  pub renewing-all : {first c : List ℕ} {s : ℕ} → Renewing first c s → n ≤ s → c ≡ nodes_from 4 first
  unfolding rebuild_nodes
  renewing-all {first} {c} {s} r p = sym (r.rest ∙ ap (λ (x : List ℕ). rebuild_nodes h keys a s x c) (none os n s p))
