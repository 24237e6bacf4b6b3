use Rattle.std.proofs.Common.{◌≡◌, ◌+◌, ◌-◌, ◌*◌}
use Rattle.control.specs.Control.{places, in_map}
use Rattle.control.proofs.cells_below.Given as goal

abbrev pub invariant-loop-j : goal.invariant-loop-j
invariant-loop-j l = in_map l.bound (places l.control 24 l.n) ≡ in_map l.bound (places l.control (24 + 80 * l.j) (l.n - l.j))
