-- Counter slots rebuilt one by one. Assumes nothing.
use mathlib.Core.Path.{◌≡◌, refl, sym, ap, ap₂, ◌∙◌, subst}
use mathlib.Core.Bool.{cond}
use mathlib.Core.List.{List, ◌∷◌}
use Prim.Native.Nat.{ℕ, zero, suc, ◌+◌, ◌-◌, ◌*◌, ◌≤◌, ◌<◌}
use native.Mathlib.Numerals.{add-one}
use native.Mathlib.Omega.{arith}
use lib.ListN.{length, get_or, set, take, drop}
use lib.Seq.{take_all}
use Rattle.words.specs.Bytes.{to_le, put}
use Rattle.memory_map.specs.Map.{InMap, cell_of, slots, lines, level_start, array_length}
use Rattle.memory_map.specs.Map.Item.{node}
use Rattle.memory_map.proofs.Laws.{in-map-node, nodes-bottom, node-cell}
use Rattle.slot_map.specs.Slots.{level_of, cache_length}
use Rattle.slot_map.proofs.Laws.{belongs-node, level-within, level-low}
use Rattle.counter.specs.Counter.{major, minors, counter_block}
use Rattle.counter.proofs.Laws.{length-counter_block}
use Rattle.control.specs.Control.{family, is_open}
use Rattle.cache.specs.Cache.{with_slot, cell_content}
use Rattle.cache.proofs.Owners.{rest, none as past}
use Rattle.node.proofs.Laws.{slot-put, cell_room}
use Rattle.journal.specs.Journal.{Media}
use Rattle.calls.specs.Recovery.{bad, Source, line_step, source_of, Forwarded, so_far, failed, onward, forward_page}
use Rattle.calls.specs.Recovery.{rebuild_block, rebuild_slot, rebuild_blocks}
use Rattle.forwarding.specs.Rebuild.{Placed, source_is}
use Rattle.forwarding.proofs.Forward.{Forwarding, page-fails, page-all}

-- the owners from slot s on, of n
abbrev pub left : List ℕ → ℕ → ℕ → List ℕ
left os n s = drop s (take n os)

pub left-next : (os : List ℕ) (n s : ℕ) → s < n → n ≤ length os → left os n s ≡ get_or os s 0 ∷ left os n (s + 1)
left-next os n s p q = rest os n s p q ∙ ap (λ (k : ℕ). get_or os s 0 ∷ drop k (take n os)) (sym (add-one s))

-- a block written into a slot
pub block-put : (c : List ℕ) (s o d m : ℕ) (ms : List ℕ) → 73 * s + 73 ≤ length c
    → put (set (put c (73 * s) (to_le 8 o)) (73 * s + 8) d) (73 * s + 9) (counter_block m ms) ≡ with_slot c s o d (counter_block m ms)
block-put c s o d m ms h =
    let full = length-counter_block m ms in
    ap (put (set (put c (73 * s) (to_le 8 o)) (73 * s + 8) d) (73 * s + 9)) (sym (take_all 64 (counter_block m ms) (omega arith)))
    ∙ slot-put c s o d (counter_block m ms) h full

-- an owner is a node of its slot's level
pub placed-node : (h : ℕ) (os : List ℕ) → Placed h os → (s o : ℕ) → s < slots h → o ≡ get_or os s 0 → (o ≡ 0 → ⊥)
    → InMap h (node (level_of s) (o - 1))
unfolding InMap
placed-node h os f s zero p e q = absurd (q refl)
placed-node h os f s (suc i) p e q =
    let at = belongs-node h s i (f.belong s i p (sym e)) in
    let same : suc i - 1 ≡ i = omega arith in
    (level-within h s p, rw same at.0)

-- the lines of a page of the map, and a cell behind them
pub page-lines : (h : ℕ) (a : List ℕ) (p : ℕ) → length a ≡ array_length h → InMap h (node 0 p) → 72 * (64 * p + 65) ≤ length a
unfolding lines level_start
page-lines h a p size m = omega (arith, cell_room h a 0 p size m, node-cell h 0 p, (in-map-node h 0 p m).1, nodes-bottom h)

-- the counter slots are of the cache
pub few-slots : (h : ℕ) {s : ℕ} → s < 4 → s < slots h
unfolding slots
few-slots h p = omega arith

-- the page of a filled counter slot
pub placed-page : (h : ℕ) (os : List ℕ) → Placed h os → (s : ℕ) → s < 4 → (get_or os s 0 ≡ 0 → ⊥)
    → InMap h (node 0 (get_or os s 0 - 1))
placed-page h os f s p q =
    subst (λ (l : ℕ). InMap h (node l (get_or os s 0 - 1))) (level-low s p) (placed-node h os f s _ (few-slots h p) refl q)

-- an owner that is not 0
pub filled : (o : ℕ) → (o ≡ 0 → ⊥) → o ≡ suc (o - 1)
filled o p = omega arith

-- ---- the slots

module _ (h : ℕ) (keys : List ℕ) (m : Media) (os : List ℕ) where
  open m use {array as a, control as k}

  abbrev owner : ℕ → ℕ
  owner s = get_or os s 0

  -- what is left to do from slot s on
  abbrev pub blocks_from : ℕ → List ℕ → ℕ → Forwarded
  blocks_from s c sum = rebuild_blocks h keys m s (left os 4 s) c sum

  -- the counter slots before s are rebuilt, from the cache first: c with what is told so far
  pub record Rebuilding (first c : List ℕ) (sum s : ℕ) : Type 0 where
    pub few : sum ≤ 192 * s
    pub full : length c ≡ cache_length h
    pub rest : blocks_from 0 first 0 ≡ blocks_from s c sum

  pub rebuilding-same : {first c d : List ℕ} {sum t s : ℕ} → Rebuilding first c sum s → d ≡ c → t ≡ sum → Rebuilding first d t s
  rebuilding-same {first} {c} {d} {sum} {t} {s} r e f =
      record {
        few = omega (arith, r.few);
        full = ap length e ∙ r.full;
        rest = r.rest ∙ sym (ap₂ {C = Forwarded} (blocks_from s) e f);
      }

  pub blocks_end : (s : ℕ) → 4 ≤ s → (c : List ℕ) (sum : ℕ) → blocks_from s c sum ≡ so_far c sum
  unfolding rebuild_blocks
  blocks_end s p c sum = rw (past os 4 s p)

  module _ (size : length os ≡ 10) where
    module _ (s : ℕ) (p : s < 4) (c : List ℕ) (sum : ℕ) where
      slot-then : {r : Forwarded} → rebuild_slot h keys m c sum s (owner s) ≡ r
          → blocks_from s c sum ≡ onward r (rebuild_blocks h keys m (suc s) (left os 4 (s + 1)))
      unfolding rebuild_blocks
      slot-then {r} e =
          ap (λ (l : List ℕ). rebuild_blocks h keys m s l c sum) (left-next os 4 s p (omega arith))
          ∙ ap (λ (x : Forwarded). onward x (rebuild_blocks h keys m (suc s) (left os 4 (s + 1)))) e

      slot-first : {d : List ℕ} {t : ℕ} → rebuild_slot h keys m c sum s (owner s) ≡ so_far d t → blocks_from s c sum ≡ blocks_from (s + 1) d t
      unfolding onward
      slot-first {d} {t} e = slot-then e ∙ ap (λ (i : ℕ). rebuild_blocks h keys m i (left os 4 (s + 1)) d t) (sym (add-one s))

      pub blocks-empty : owner s ≡ 0 → blocks_from s c sum ≡ blocks_from (s + 1) c sum
      unfolding rebuild_slot
      blocks-empty e = slot-first (ap (rebuild_slot h keys m c sum s) e)

      -- a filled slot: the owner's block b, and the minors ms of this
      module _ (some· : owner s ≡ 0 → ⊥) {b ms : List ℕ} (u : b ≡ cell_content a (cell_of h (node 0 (owner s - 1))))
          (w : ms ≡ minors b) where
        block : rebuild_slot h keys m c sum s (owner s) ≡ rebuild_block h keys m c sum s (owner s - 1)
        unfolding rebuild_slot
        block = ap (rebuild_slot h keys m c sum s) (filled (owner s) some·)

        as-minors : ms ≡ minors (cell_content a (cell_of h (node 0 (owner s - 1))))
        as-minors = w ∙ ap minors u

        -- what its lines are brought forward by
        abbrev source : Source
        source = source_of keys m (major b)

        -- the block's minors brought forward, and then its slot
        slot-forward : {r : Forwarded} → forward_page k source (owner s - 1) ms sum ≡ r
            → let b = cell_content a (cell_of h (node 0 (owner s - 1))) in
            rebuild_slot h keys m c sum s (owner s)
            ≡ onward r (λ (ns : List ℕ) (t : ℕ). so_far (with_slot c s (suc (owner s - 1)) 1 (counter_block (major b) ns)) t)
        unfolding rebuild_block
        slot-forward f =
            block
            ∙ ap (λ (r : Forwarded). onward r (λ (ns : List ℕ) (t : ℕ). so_far
            (with_slot c s (suc (owner s - 1)) 1 (counter_block (major (cell_content a (cell_of h (node 0 (owner s - 1))))) ns)) t))
            (ap₂ {C = Forwarded} (λ (l x : List ℕ). forward_page k (source_of keys m (major x)) (owner s - 1) l sum)
            (sym as-minors) (sym u)
            ∙ f)

        blocks-fails : (j n : ℕ) → forward_page k source (owner s - 1) ms sum ≡ failed j n → blocks_from s c sum ≡ failed j n
        unfolding onward
        blocks-fails j n f = slot-then (slot-forward f)

        blocks-next : {cur d : List ℕ} {t ma : ℕ} → forward_page k source (owner s - 1) ms sum ≡ so_far cur t → ma ≡ major b
            → d ≡ with_slot c s (owner s) 1 (counter_block ma cur) → blocks_from s c sum ≡ blocks_from (s + 1) d t
        unfolding onward
        blocks-next {cur} {d} {t} {ma} f q z =
            slot-first (slot-forward f
            ∙ ap (λ (x : List ℕ). so_far x t)
            (ap₂ {C = List ℕ} (λ (o i : ℕ). with_slot c s o 1 (counter_block i cur))
            (sym (filled (owner s) some·)) (sym (q ∙ ap major u))
            ∙ sym z))

    module _ {first c : List ℕ} {sum s : ℕ} (r : Rebuilding first c sum s) (p : s < 4) where
      pub rebuilding-empty : owner s ≡ 0 → Rebuilding first c sum (s + 1)
      rebuilding-empty e =
          record { few = omega (arith, r.few); full = r.full; rest = r.rest ∙ blocks-empty s p c sum e }

      -- the owner's block b lies in cell i, and its minors ms are brought forward in cur
      module _ (some· : owner s ≡ 0 → ⊥) {i : ℕ} {b ms cur : List ℕ} {j t : ℕ} (cell : i ≡ cell_of h (node 0 (owner s - 1)))
          (block : b ≡ cell_content a i) (unpacked : ms ≡ minors b) {ma g : ℕ} (majored : ma ≡ major b) (told : g ≡ family k)
          (f : Forwarding (source_is g keys a ma) (64 * (owner s - 1)) ms sum cur j t) {n : ℕ}
          (bound : n ≡ cond (is_open k (owner s - 1)) 0 64) where
        -- the line after those that are brought forward
        abbrev line : ℕ
        line = 64 * (owner s - 1) + j

        as_source : {x : Forwarded} → forward_page k (source_is g keys a ma) (owner s - 1) ms sum ≡ x
            → forward_page k (source_of keys m (major b)) (owner s - 1) ms sum ≡ x
        as_source e =
            ap₂ {C = Forwarded} (λ (i n : ℕ). forward_page k (source_is i keys a n) (owner s - 1) ms sum) (sym told) (sym majored) ∙ e

        pub rebuilding-fails : j < n → {v : ℕ} → bad v ≡ line_step (source_is g keys a ma) line (get_or cur j 0)
            → blocks_from 0 first 0 ≡ failed v line
        rebuilding-fails q {v} e =
            r.rest ∙ blocks-fails s p c sum some· (block ∙ ap (cell_content a) cell) unpacked v line
            (as_source (page-fails k (source_is g keys a ma) (owner s - 1) ms sum f bound q e))

        pub rebuilding-next : j ≤ n → n ≤ j → n ≤ 64 → {d : List ℕ} → d ≡ with_slot c s (owner s) 1 (counter_block ma cur)
            → length d ≡ length c → Rebuilding first d t (s + 1)
        rebuilding-next q all most e l =
            record {
              few = omega (arith, r.few, f.least);
              full = l ∙ r.full;
              rest = r.rest ∙ blocks-next s p c sum some· (block ∙ ap (cell_content a) cell) unpacked
                  (as_source (page-all k (source_is g keys a ma) (owner s - 1) ms sum f bound q all)) majored e;
            }
