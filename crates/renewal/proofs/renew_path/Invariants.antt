use mathlib.Core.Path.{◌≡◌}
use Prim.Native.Nat.{ℕ, ◌≤◌, suc}
use mathlib.Core.List.{List}
use lib.ListN.{length}
use Rattle.slot_map.specs.Slots.{cache_length, slot_of}
use Rattle.memory_map.specs.Map.{on_path}
use Rattle.cache.specs.Cache.{owner}
use Rattle.renewal.specs.Renewed.{renewed_by}
use Rattle.renewal.proofs.renew_path.Given as goal

abbrev pub invariant-loop-l : goal.invariant-loop-l
invariant-loop-l l =
    (l.l ≤ l.h) × ((c : List ℕ) → length c ≡ cache_length l.h → ((k : ℕ) → k ≤ l.h → owner c (slot_of k (on_path l.p k)) ≡ suc (on_path l.p k))
    → l.initial.cache ≡ renewed_by c l.p l.block l.flag l.tags 0 → l.cache ≡ renewed_by c l.p l.block l.flag l.tags l.l)
