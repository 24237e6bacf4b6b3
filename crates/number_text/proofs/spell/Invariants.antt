use mathlib.Core.Path.{◌≡◌}
use mathlib.Core.List.{◌++◌}
use Prim.Native.Nat.{suc, ◌<◌, ◌^◌}
use lib.ListN.{length, drop}
use Rattle.number_text.specs.Text.{digits_of, printed}
use Rattle.number_text.proofs.spell.Given as goal

abbrev pub invariant-loop-x : goal.invariant-loop-x
invariant-loop-x l = (l.i < 20) × ((l.x < 10 ^ suc l.i) × ((digits_of (suc l.i) l.x ++ drop (suc l.i) l.s ≡ printed l.n) × (length l.s ≡ 20)))

abbrev pub decreases-loop-x : goal.decreases-loop-x
decreases-loop-x l = l.i
