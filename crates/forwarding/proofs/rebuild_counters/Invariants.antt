use mathlib.Core.Path.{◌≡◌}
use Prim.Native.Nat.{◌*◌}
use Rattle.std.proofs.Common.{None}
use Rattle.journal.specs.Journal.{media}
use Rattle.forwarding.specs.Rebuild.{source_is}
use Rattle.forwarding.proofs.Forward.{Forwarding}
use Rattle.forwarding.proofs.Blocks.{Rebuilding}
use Rattle.forwarding.proofs.rebuild_counters.Given as goal

abbrev pub invariant-slots : goal.invariant-slots
invariant-slots l = record {
  none : l.failed ≡ None;
  rebuilding : Rebuilding l.h l.keys (media l.array l.control) l.owners l.initial.image l.image l.sum l.s;
}

abbrev pub invariant-loop-j : goal.invariant-loop-j
invariant-loop-j l = record {
  none : l.failed ≡ None;
  forwarding : Forwarding (source_is l.family l.keys l.array l.major) (64 * l.page) l.initial.minors l.initial.sum l.minors l.j l.sum;
}
