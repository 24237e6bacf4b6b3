-- `journal::finish` meets its contract. Assumes nothing.
use Prim.Native.Nat.{◌/◌}
use native.Mathlib.Omega.{arith}
use lib.ListN.{length}
use Rattle.journal.specs.Journal.{media}
use Rattle.journal.proofs.Steps.{queue-front, finish-none, finish-part, Rooted, finish-rooted}
use Rattle.journal.proofs.finish.Goals as goal

pub returns-then-n-eq0 : goal.returns-then-n-eq0
returns-then-n-eq0 c =
    finish-none c.args.control.now (media c.args.array.now c.args.control.now) c.args.allowance c.count-n.result
    c.count-n.ensures c.if-n-eq0.true

pub store_cells-requires : goal.store_cells-requires
store_cells-requires c = (
  c.requires.0,
  (
    omega (arith, c.min-cells.ensures, c.count-n.ensures, c.requires.1.0),
    queue-front (length c.args.array.now / 72) c.args.control.now c.min-cells.result
        (omega (arith, c.min-cells.ensures, c.count-n.ensures)) c.requires.1.1,
  ),
)

pub returns-then-allowance-n : goal.returns-then-allowance-n
returns-then-allowance-n c =
    finish-part c.args.control.now (media c.args.array.now c.args.control.now) c.args.allowance c.count-n.result
    c.count-n.ensures c.if-n-eq0.false c.min-cells.result c.min-cells.ensures
    c.store_cells.new.array c.store_cells.ensures c.if-allowance-n.true

pub returns-then-allowance-n-2 : goal.returns-then-allowance-n-2
returns-then-allowance-n-2 c =
    let rooted : Rooted c.args.control.now (media c.args.array.now c.args.control.now) c.args.allowance c.count-n.result c.store_cells.new.array c.store.new.s = finish-rooted c.args.control.now (media c.args.array.now c.args.control.now) c.args.allowance c.count-n.result
    c.count-n.ensures c.if-n-eq0.false c.min-cells.result c.min-cells.ensures
    c.store_cells.new.array c.store_cells.ensures c.if-allowance-n.false
    c.new_root-root.result c.new_root-root.ensures c.store.new.s c.store.ensures in
    rooted.one-short c.if-allowance-n-2.true

pub returns : goal.returns
returns c =
    let rooted : Rooted c.args.control.now (media c.args.array.now c.args.control.now) c.args.allowance c.count-n.result c.store_cells.new.array c.store.new.s = finish-rooted c.args.control.now (media c.args.array.now c.args.control.now) c.args.allowance c.count-n.result
    c.count-n.ensures c.if-n-eq0.false c.min-cells.result c.min-cells.ensures
    c.store_cells.new.array c.store_cells.ensures c.if-allowance-n.false
    c.new_root-root.result c.new_root-root.ensures c.store.new.s c.store.ensures in
    rooted.whole c.if-allowance-n-2.false (omega (arith, c.store.auto.s, c.requires.0))
