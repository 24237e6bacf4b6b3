-- `recovery::recover_media` meets its contract. Assumes nothing.
use mathlib.Core.Path.{◌≡◌, refl, sym, ap, ◌∙◌, subst}
use Prim.Native.Nat.{ℕ, ◌-◌, ◌≤◌}
use native.Mathlib.Omega.{arith}
use lib.ListN.{length, take, replicate}
use Rattle.memory_map.specs.Map.{array_length, slots}
use Rattle.memory_map.proofs.Laws.{slots_small}
use Rattle.slot_map.specs.Slots.{cache_length}
use Rattle.control.specs.Control.{depth}
use Rattle.cache.specs.Cache.{empty_cache, shadow_owners, bad_slot}
use Rattle.cache.proofs.Laws.{length-empty}
use Rattle.std.proofs.Common.{List}
use Rattle.words.proofs.Parts.{copy-all}
use Rattle.answer.specs.declared.Answer.TheVariants.{Done}
use Rattle.node.specs.Sized.{Sized}
use Rattle.recovery.specs.Told.{told}
use Rattle.calls.specs.Call.{Module, buffers, ended}
use Rattle.recovery.proofs.Ends.{refused_as, ends-bad, ends-rebuilt, placed, image-empty}
use Rattle.recovery.proofs.recover_media.Goals as goal
use Rattle.recovery.proofs.recover_media.Goals.{After-bad_slot, After-rebuild}

-- the owners that were read are those that the shadow lists, and were searched
listed : (c : After-bad_slot)
    → take (slots (depth c.args.control.now)) c.shadow_owners-owners.result ≡ shadow_owners (depth c.args.control.now) c.args.array.now
listed c =
    subst (λ (n : ℕ). take (slots n) c.shadow_owners-owners.result ≡ shadow_owners n c.args.array.now) c.depth-h.ensures
    c.shadow_owners-owners.ensures

searched : (c : After-bad_slot) → let h = depth c.args.control.now in
    c.bad_slot.result ≡ bad_slot h (take (slots h) c.shadow_owners-owners.result)
searched c = c.bad_slot.ensures ∙ ap (λ (n : ℕ). bad_slot n (take (slots n) c.shadow_owners-owners.result)) c.depth-h.ensures

cache-short : {h : ℕ} {a c : List ℕ} → Sized h a c → length c ≤ 730
unfolding cache_length
cache-short {h} z = omega (arith, z.cache, slots_small {h = h} refl z.flat)

-- the image is empty
empty : (c : After-bad_slot) → take (length c.args.cache.now - 0) (replicate 730 0) ≡ empty_cache (depth c.args.control.now)
empty c = image-empty _ _ 730 c.requires.1.1.cache (cache-short c.requires.1.1)

pub shadow_owners-owners-requires : goal.shadow_owners-owners-requires
shadow_owners-owners-requires c = (omega (arith, c.requires.1.1.deep), (omega (arith, c.requires.1.1.flat), c.requires.1.1.array ∙ ap array_length (sym c.depth-h.ensures)))

pub returns-in-Some : goal.returns-in-Some
returns-in-Some c =
    let given : Module = buffers c.args.array.now c.args.control.now c.args.cache.now in
    let at = (goal.at.returns-in-Some c).After-bad_slot in
    refused_as given
    (ends-bad c.args.keys.now c.args.stores given c.shadow_owners-owners.result (listed at) (searched at) c.in-Some.is) c.after.ensures

pub slice_bounds-empty-end : goal.slice_bounds-empty-end
slice_bounds-empty-end c = cache-short c.requires.1.1

pub rebuild-requires : goal.rebuild-requires
rebuild-requires c =
    let at = (goal.at.rebuild-requires c).After-bad_slot in
    record {
      keys_length = c.requires.0;
      control_length = c.requires.1.0;
      sized = record {
        deep = c.requires.1.1.deep;
        flat = c.requires.1.1.flat;
        array = c.requires.1.1.array;
        cache = ap length (empty at) ∙ length-empty (depth c.args.control.now);
      };
      same_length = refl;
      placed =
          placed (depth c.args.control.now) c.args.array.now c.shadow_owners-owners.result (listed at)
          (sym (searched at) ∙ c.in_default.is);
    }

-- the image is as long as the cache
full : (c : After-rebuild) → length c.rebuild.new.image ≡ length c.args.cache.now
full c =
    c.rebuild.auto.image
    ∙ ap length (image-empty (depth c.args.control.now) (length c.args.cache.now) 730 c.requires.1.1.cache (cache-short c.requires.1.1))
    ∙ length-empty (depth c.args.control.now) ∙ sym c.requires.1.1.cache

pub copy-requires : goal.copy-requires
copy-requires c = let same = full (goal.at.copy-requires c).After-rebuild in (omega arith, omega (arith, same))

pub returns-in-Ok : goal.returns-in-Ok
unfolding told
returns-in-Ok c =
    let given : Module = buffers c.args.array.now c.args.control.now c.args.cache.now in
    let at = goal.at.returns-in-Ok c in
    let found = at.After-bad_slot in
    ap (ended (Done c.args.stores c.in-Ok.sum) c.args.array.now c.args.control.now)
    (c.copy.ensures ∙ copy-all _ c.args.cache.now _ refl (full at.After-rebuild))
    ∙ c.in-Ok.ensures c.args.stores c.args.cache.now
    ∙ ends-rebuilt c.args.keys.now c.args.stores given c.shadow_owners-owners.result (listed found) (searched found) c.in_default.is (empty found)

pub returns-in-Err : goal.returns-in-Err
unfolding told
returns-in-Err c =
    let given : Module = buffers c.args.array.now c.args.control.now c.args.cache.now in
    let found = (goal.at.returns-in-Err c).After-bad_slot in
    refused_as given
    (c.in-Err.ensures c.args.stores c.args.cache.now
    ∙ ends-rebuilt c.args.keys.now c.args.stores given c.shadow_owners-owners.result (listed found) (searched found) c.in_default.is (empty found))
    c.after-in-Err.ensures
