use mathlib.Core.List.{List}
use Prim.Native.Nat.{ℕ}
use lib.ListN.{length}
use Rattle.bits.specs.Bits.{set_bits}
use Rattle.turn_store.proofs.Turning.{Begins, Turning}
use Rattle.turn_store.proofs.run_batches.Given as goal

abbrev pub invariant-loop-j : goal.invariant-loop-j
invariant-loop-j l =
    (k : List ℕ) → Begins l.h l.initial.array k l.cache l.t.p l.t.missing l.t.major l.t.minors.now l.t.mask l.allowance l.initial.control l.initial.held
    → Turning l.h l.family l.keys l.initial.array k l.cache l.t.p l.old l.allowance l.control l.array l.left l.held l.rest

abbrev pub decreases-loop-j : goal.decreases-loop-j
decreases-loop-j l = length (set_bits l.rest)
