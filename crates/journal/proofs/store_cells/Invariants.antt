use Rattle.std.proofs.Common.{◌≡◌, map, length}
use Rattle.control.specs.Control.{places}
use Rattle.journal.specs.Journal.{media, store_all}
use Rattle.journal.specs.Journal.Store.{cell}
use Rattle.journal.proofs.store_cells.Given as goal

abbrev pub invariant-loop-j : goal.invariant-loop-j
invariant-loop-j l = (media l.array l.control ≡ store_all (media l.initial.array l.control) (map cell (places l.control 24 l.j))) × (length l.array ≡ length l.initial.array)
