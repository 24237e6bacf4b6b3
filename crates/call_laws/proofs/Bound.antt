-- The bound on a batch, with the depth as a parameter: a read's has at most 2h cells, a write's at most 2h + 2, so at most 8.
-- Assumes nothing.
use mathlib.Core.Path.{◌≡◌}
use mathlib.Core.List.{List}
use Prim.Native.Nat.{ℕ, ◌+◌, ◌*◌, ◌≤◌}
use native.Mathlib.Omega.{arith}
use lib.ListN.{length}
use Rattle.words.proofs.Digits.{Below}
use Rattle.control.specs.Control.{Cell, family, depth}
use Rattle.calls.specs.Path.{loaded}
use Rattle.calls.specs.Call.{Module, path_of, access_refusal}
use Rattle.calls.specs.Write.{write_batch}
use Rattle.call_laws.proofs.Judged.{access-accepted, head_of}
use Rattle.call_laws.proofs.Kept.{Bytes, Given, path-few, batch-bound}

module _ (keys : List ℕ) (n : ℕ) (b : List ℕ) (m : Module) (bytes : Bytes m) (plain : Below 256 b) (open-now : access_refusal keys n b m ≡ 0)
    (c : List ℕ) (x : List Cell) (path : path_of keys n m ≡ loaded c x) where
  given : Given keys n b m
  given = record { bytes = bytes; plain = plain; ok = access-accepted keys n b m open-now }

  pub read-bound : length x ≤ 2 * depth m.control
  read-bound = path-few given c x path

  pub write-bound : length (write_batch (depth m.control) (family m.control) keys n b c x) ≤ 2 * depth m.control + 2
  write-bound = batch-bound given c (family m.control) x read-bound

  pub eight : length (write_batch (depth m.control) (family m.control) keys n b c x) ≤ 8
  eight = omega (arith, write-bound, (head_of keys m given.ok.entry.opening).flat)
