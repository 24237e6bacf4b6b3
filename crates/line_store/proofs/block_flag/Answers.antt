-- `line_store::block_flag` meets its contract. Assumes nothing.
use mathlib.Core.Path.{◌≡◌}
use mathlib.Core.Bool.{Bool, true, false, not, cond}
use Prim.Native.Nat.{ℕ, ◌%◌}
use lib.Dec.{eqb}
use Rattle.std.specs.Int.{from_bool}
use Rattle.line_store.proofs.block_flag.Goals as goal

by-test : (t : Bool) {n : ℕ} → n ≡ from_bool (not t) → n ≡ cond t 0 1
by-test true e = e
by-test false e = e

pub returns : goal.returns
returns c = by-test (eqb (c.args.minor % 4) 0) c.from.ensures
