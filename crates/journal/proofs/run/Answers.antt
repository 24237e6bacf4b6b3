-- `journal::run` meets its contract. Assumes nothing.
use mathlib.Core.Path.{ap, ◌∙◌}
use Prim.Native.Nat.{◌/◌}
use native.Mathlib.Omega.{arith}
use lib.ListN.{length}
use Rattle.control.specs.Control.{in_map}
use Rattle.journal.specs.Journal.{media}
use Rattle.journal.proofs.Steps.{Committed, run-part, run-commit}
use Rattle.journal.proofs.run.Goals as goal

pub returns-then-allowance-n : goal.returns-then-allowance-n
returns-then-allowance-n c =
    let ran = run-part c.args.array.now c.args.control.now c.args.n c.args.root c.args.allowance c.if-allowance-n.true in
    record { control_after = ran.left; value = ran.number }

pub finish-requires : goal.finish-requires
finish-requires c =
    let committed : Committed c.args.array.now c.args.control.now c.args.n c.args.root c.args.allowance c.commit.new.control = run-commit c.args.array.now c.args.control.now c.args.n c.args.root c.args.allowance c.requires.1.0.0 c.requires.1.0.1 c.requires.0
    (record { at = λ i. (c.slice_known-2-1.given i).fits }) c.if-allowance-n.false c.ranges.root.fits
    c.commit.new.control c.commit.ensures in (
      c.commit.auto.control ∙ c.requires.0,
      (
        omega (arith, committed.counted, c.requires.1.0.1),
        ap (in_map (length c.args.array.now / 72)) committed.queued
            ∙ c.requires.1.1 c.if-allowance-n.false,
      ),
    )

pub overflow_add-result-2 : goal.overflow_add-result-2
overflow_add-result-2 c =
    let committed : Committed c.args.array.now c.args.control.now c.args.n c.args.root c.args.allowance c.commit.new.control = run-commit c.args.array.now c.args.control.now c.args.n c.args.root c.args.allowance c.requires.1.0.0 c.requires.1.0.1 c.requires.0
    (record { at = λ i. (c.slice_known-2-1.given i).fits }) c.if-allowance-n.false c.ranges.root.fits
    c.commit.new.control c.commit.ensures in
    omega (arith, c.requires.1.0.1, committed.few _ _ _ c.finish.result c.finish.ensures)

pub returns : goal.returns
returns c =
    let committed : Committed c.args.array.now c.args.control.now c.args.n c.args.root c.args.allowance c.commit.new.control = run-commit c.args.array.now c.args.control.now c.args.n c.args.root c.args.allowance c.requires.1.0.0 c.requires.1.0.1 c.requires.0
    (record { at = λ i. (c.slice_known-2-1.given i).fits }) c.if-allowance-n.false c.ranges.root.fits
    c.commit.new.control c.commit.ensures in
    let ran =
    committed.rest (media c.finish.new.array c.finish.new.control)
    c.finish.result c.finish.ensures in
    record { control_after = ran.left; value = ran.number }
