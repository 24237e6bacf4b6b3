-- Recovery keeps the lengths of the buffers, and bytes stay bytes. Assumes nothing.
use mathlib.Core.Path.{◌≡◌, refl, sym, ap, ◌∙◌, subst}
use mathlib.Core.Bool.{Bool, true, false, cond}
use mathlib.Core.List.{List, [], ◌∷◌}
use Prim.Native.Nat.{ℕ, zero, suc, ◌+◌, ◌-◌, ◌*◌, ◌/◌, ◌≤◌, ◌<◌}
use native.Mathlib.Omega.{arith}
use lib.Dec.{eqb, lit<}
use lib.ListN.{length, take, drop, length-take, length-drop}
use Rattle.words.specs.Bytes.{part}
use Rattle.words.proofs.Digits.{Below}
use Rattle.memory_map.specs.Map.{cells, slots, cell_of}
use Rattle.slot_map.specs.Slots.{cache_length, level_of}
use Rattle.memory_map.specs.Map.Item.{node}
use Rattle.counter.specs.Counter.{major, minors, counter_block}
use Rattle.counter.proofs.Laws.{length-counter_block, below-counter_block}
use Rattle.tag.specs.Tag.{node_tag}
use Rattle.control.specs.Control.{family, depth, root}
use Rattle.control.proofs.Laws.{same-depth, same-family, valid-parts}
use Rattle.std.specs.Prelude.{Option, None, Some}
use Rattle.cache.specs.Cache.{from, with_slot, empty_cache, cell_content, shadow_owners, bad_slot, current}
use Rattle.cache.proofs.Laws.{length-with, below-with, length-empty, below-empty}
use Rattle.journal.specs.Journal.{Store, Media, store_all, made, is_cut, pending_stores}
use Rattle.journal.proofs.Each.{Each, each_take}
use Rattle.journal.proofs.Kept.{Within, within-pending, stores-front}
use Rattle.answer.specs.declared.Answer.TheVariants.{Done, Cut, Refused}
use Rattle.calls.specs.Call.{Module, Called, media_of, with_media}
use Rattle.calls.specs.Recovery.{Forwarded, so_far, failed, onward, forward_page, source_of, rebuild_block, rebuild_slot, rebuild_blocks}
use Rattle.calls.specs.Recovery.{rebuild_node, rebuild_nodes, recover_root, recover_rebuilt, recover_shadow, recover_media, recover_judged}
use Rattle.calls.specs.Recovery.{recover, recovery_refusal}
use Rattle.call_laws.proofs.Judged.{Opened, recovery-opened, head_of}
use Rattle.call_laws.proofs.Tags.{tags-length, tags-bytes}
use Rattle.call_laws.proofs.Kept.{Bytes, Kept, kept_same, Buffers, after-stores, media-formed, array-cells}

-- a cache by its length and its bytes
record Plain (h : ℕ) (c : List ℕ) : Type 0 where
  sized : length c ≡ cache_length h
  bytes : Below 256 c

with-plain : (h s o d : ℕ) (b c : List ℕ) → s < slots h → d < 256 → length b ≡ 64 → Below 256 b → Plain h c → Plain h (with_slot c s o d b)
with-plain h s o d b c within flag size plain p =
    record {
      sized = length-with h c p.sized s within o d b size ∙ p.sized;
      bytes = below-with h c p.sized s within o d b size flag plain p.bytes;
    }

empty-plain : (h : ℕ) → Plain h (empty_cache h)
empty-plain h = record { sized = length-empty h; bytes = below-empty h }

-- ---- the rebuilt cache

PlainIf : ℕ → Forwarded → Type 0
PlainIf h (so_far c t) = Plain h c
PlainIf h (failed k n) = Unit {0}

onward-plain : (h : ℕ) (r : Forwarded) (next : List ℕ → ℕ → Forwarded)
    → ((c : List ℕ) (t : ℕ) → r ≡ so_far c t → PlainIf h (next c t)) → PlainIf h (onward r next)
unfolding onward PlainIf
onward-plain h (so_far c t) next keeps = keeps c t refl
onward-plain h (failed k n) next keeps = tt

module _ (h : ℕ) (keys : List ℕ) (m : Media) where
  abbrev a : List ℕ
  a = m.array

  block-plain : (c : List ℕ) (sum s p : ℕ) → s < slots h → Plain h c → PlainIf h (rebuild_block h keys m c sum s p)
  unfolding rebuild_block PlainIf
  block-plain c sum s p within plain =
      let b = cell_content a (cell_of h (node 0 p)) in
      onward-plain h (forward_page m.control (source_of keys m (major b)) p (minors b) sum)
      (λ ms t. so_far (with_slot c s (suc p) 1 (counter_block (major b) ms)) t)
      (λ ms t e. with-plain h s (suc p) 1 _ c within (lit< tt) (length-counter_block _ ms) (below-counter_block _ ms) plain)

  slot-plain : (c : List ℕ) (sum s o : ℕ) → s < slots h → Plain h c → PlainIf h (rebuild_slot h keys m c sum s o)
  unfolding rebuild_slot PlainIf
  slot-plain c sum s zero within plain = plain
  slot-plain c sum s (suc p) within plain = block-plain c sum s p within plain

  blocks-plain : (s : ℕ) (os c : List ℕ) (sum : ℕ) → s + length os ≤ slots h → Plain h c → PlainIf h (rebuild_blocks h keys m s os c sum)
  unfolding rebuild_blocks PlainIf
  blocks-plain s [] c sum few plain = plain
  blocks-plain s (o ∷ os) c sum few plain =
      onward-plain h (rebuild_slot h keys m c sum s o) (rebuild_blocks h keys m (suc s) os)
      (λ d t e. blocks-plain (suc s) os d t (omega arith) (subst (PlainIf h) e (slot-plain c sum s o (omega arith) plain)))

  node-plain : (c : List ℕ) (s o : ℕ) → s < slots h → Plain h c → Plain h (rebuild_node h keys a c s o)
  unfolding rebuild_node
  node-plain c s zero within plain = plain
  node-plain c s (suc i) within plain =
      with-plain h s (suc i) 1 _ c within (lit< tt) (tags-length keys (level_of s - 1) (current h a c (level_of s - 1)) (8 * i) 8)
      (tags-bytes keys (level_of s - 1) (current h a c (level_of s - 1)) (8 * i) 8) plain

  nodes-plain : (s : ℕ) (os c : List ℕ) → s + length os ≤ slots h → Plain h c → Plain h (rebuild_nodes h keys a s os c)
  unfolding rebuild_nodes
  nodes-plain s [] c few plain = plain
  nodes-plain s (o ∷ os) c few plain =
      nodes-plain (suc s) os (rebuild_node h keys a c s o) (omega arith) (node-plain c s o (omega arith) plain)

-- ---- the call

from-length : (f : ℕ → ℕ) (s n : ℕ) → length (from f s n) ≡ n
unfolding from
from-length f s zero = refl
from-length f s (suc n) = ap suc (from-length f (suc s) n)

-- a module whose cache is rebuilt
rebuilt-kept : (m : Module) (c : List ℕ) → Bytes m → length c ≡ length m.cache → Below 256 c
    → Kept m (record { array = m.array; control = m.control; cache = c })
rebuilt-kept m c b e p =
    record { array = refl; control = refl; cache = e; bytes = record { array = b.array; control = b.control; cache = p } }

module _ (keys : List ℕ) (k : ℕ) (m : Module) (b : Bytes m) (sized : length m.cache ≡ cache_length (depth m.control)) where
  abbrev h : ℕ
  h = depth m.control

  root_kept : (sum : ℕ) (c : List ℕ) → Plain h c → Kept m (recover_root keys k m sum c).after
  unfolding recover_root
  root_kept sum c p = go (eqb (node_tag keys (current h m.array c h 0) h 0) (root m.control))
    where
      done : Called
      done = record { answer = Done k sum; after = record { array = m.array; control = m.control; cache = c } }

      go : (t : Bool) → Kept m (cond {A = Called} t done (record { answer = Refused 29 k 0 0; after = m })).after
      go true = rebuilt-kept m c b (p.sized ∙ sym sized) p.bytes
      go false = kept_same m b

  rebuilt-call : (os : List ℕ) → length os ≡ slots h → (r : Forwarded) → PlainIf h r → Kept m (recover_rebuilt keys k m os r).after
  unfolding recover_rebuilt PlainIf slots
  rebuilt-call os e (failed n x) p = kept_same m b
  rebuilt-call os e (so_far d sum) p =
      root_kept sum (rebuild_nodes h keys m.array 4 (drop 4 os) d)
      (nodes-plain h keys (media_of m) 4 (drop 4 os) d (omega (arith, length-drop 4 os)) p)

  shadow-call : (os : List ℕ) → length os ≡ slots h → (f : Option ℕ) → Kept m (recover_shadow keys k m os f).after
  unfolding recover_shadow slots
  shadow-call os e (Some s) = kept_same m b
  shadow-call os e None =
      rebuilt-call os e (rebuild_blocks h keys (media_of m) 0 (take 4 os) (empty_cache h) 0)
      (blocks-plain h keys (media_of m) 0 (take 4 os) (empty_cache h) 0 (omega (arith, length-take 4 os)) (empty-plain h))

  media-kept : Kept m (recover_media keys k m).after
  media-kept = shadow-call (shadow_owners h m.array) (from-length _ 0 (slots h)) (bad_slot h (shadow_owners h m.array))

kept_trans : (m n o : Module) → Kept m n → Kept n o → Kept m o
kept_trans m n o p q =
    record { array = q.array ∙ p.array; control = q.control ∙ p.control; cache = q.cache ∙ p.cache; bytes = q.bytes }

-- the module with the pending stores that an allowance lets be made
abbrev pub made-module : Module → ℕ → Module
made-module m a = with_media (store_all (media_of m) (made a (pending_stores m.control))) m.cache

module _ (keys : List ℕ) (m : Module) (b : Bytes m) (ok : Opened keys m) where
  buffers : Buffers (depth m.control) m
  buffers = record { bytes = b; high = (head_of keys m ok).flat; whole = ok.fits.array; control_length = ok.control_length }

  pending-within : Each (Within (length m.array / 72)) (pending_stores m.control)
  pending-within =
      rw (array-cells (depth m.control) (length m.array) ok.fits.array)
      (within-pending (cells (depth m.control)) m.control ok.control_length b.control (head_of keys m ok).few
      (valid-parts ok.right).cells_in)

  abbrev xs : List Store
  xs = pending_stores m.control

  pending-kept : (a : ℕ) → Kept m (made-module m a)
  pending-kept a = after-stores buffers a m.cache pending-within refl b.cache

  made-front : (a : ℕ) → part (made-module m a).control 0 7 ≡ part m.control 0 7
  made-front a = stores-front (media-formed buffers) (each_take a pending-within)

  pub made-depth : (a : ℕ) → depth (made-module m a).control ≡ depth m.control
  made-depth a = same-depth _ m.control (made-front a)

  pub made-family : (a : ℕ) → family (made-module m a).control ≡ family m.control
  made-family a = same-family _ m.control (made-front a)

  opened-kept : (a : ℕ) → Kept m (recover_judged 0 keys a m).after
  unfolding recover_judged
  opened-kept a = go (is_cut a xs)
    where
      go : (t : Bool) → Kept m (cond {A = Called} t (record { answer = Cut (length (made a xs)); after = made-module m a })
          (recover_media keys (length xs) (made-module m a))).after
      go true = pending-kept a
      go false =
          kept_trans m (made-module m a) _ (pending-kept a)
          (media-kept keys (length xs) (made-module m a) (pending-kept a).bytes (ok.fits.cache ∙ ap cache_length (sym (made-depth a))))

pub recover-kept : (keys : List ℕ) (a : ℕ) (m : Module) → Bytes m → Kept m (recover keys a m).after
unfolding recover_judged
recover-kept keys a m b = go (recovery_refusal keys m) refl
  where
    go : (k : ℕ) → recovery_refusal keys m ≡ k → Kept m (recover_judged k keys a m).after
    go zero e = opened-kept keys m b (recovery-opened keys m e) a
    go (suc k) e = kept_same m b
