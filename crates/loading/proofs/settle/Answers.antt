-- `loading::settle` meets its contract. Assumes nothing.
use mathlib.Core.Path.{◌≡◌, ◌∙◌}
use Prim.Native.Nat.{suc, ◌≤◌}
use native.Mathlib.Omega.{arith}
use Rattle.journal.specs.Journal.{media}
use Rattle.journal.proofs.Steps.{Ran}
use Rattle.call_laws.specs.Walk.{missing, path_cells}
use Rattle.call_laws.proofs.Staged.{Staged, staged-inside}
use Rattle.path.proofs.Ready.{Ready, few}
use Rattle.loading.proofs.Settling.{asked, settle-none, settling, settle-cut, settle-done}
use Rattle.loading.proofs.settle.Goals as goal

pub returns-then-missing-eq0 : goal.returns-then-missing-eq0
returns-then-missing-eq0 c =
    let ready : Ready c.args.h c.args.array.now c.args.control.now c.args.cache.now c.args.p = asked c.requires (record { at = λ i. (c.slice_known-2-1.given i).fits })
    (record { at = λ i. (c.slice_known-1.given i).fits }) (record { at = λ i. (c.slice_known-3-1.given i).fits }) in
    let counted : c.args.missing ≡ missing c.args.cache.now c.args.p (suc c.args.h) = c.requires.1.1.1.1 in
    settle-none ready c.args.allowance c.args.missing counted
    c.if-missing-eq0.true

pub gather-n-requires : goal.gather-n-requires
gather-n-requires c =
    let ready : Ready c.args.h c.args.array.now c.args.control.now c.args.cache.now c.args.p = asked c.requires (record { at = λ i. (c.slice_known-2-1.given i).fits })
    (record { at = λ i. (c.slice_known-1.given i).fits }) (record { at = λ i. (c.slice_known-3-1.given i).fits }) in
    let y = ready in
    record { le_h = (y.sized.deep, (y.sized.flat, (y.sized.cache, (y.shaped, y.page)))); control_len = (y.control, omega (arith, few y, y.sized.flat)) }

pub run-stores-requires : goal.run-stores-requires
run-stores-requires c =
    let ready : Ready c.args.h c.args.array.now c.args.control.now c.args.cache.now c.args.p = asked c.requires (record { at = λ i. (c.slice_known-2-1.given i).fits })
    (record { at = λ i. (c.slice_known-1.given i).fits }) (record { at = λ i. (c.slice_known-3-1.given i).fits }) in
    let counted : c.args.missing ≡ missing c.args.cache.now c.args.p (suc c.args.h) = c.requires.1.1.1.1 in
    let staged : Staged c.args.h c.args.allowance c.args.array.now c.args.control.now (path_cells c.args.h c.args.cache.now c.args.p (suc c.args.h)) c.gather-n.new.control c.gather-n.result = settling ready counted c.if-missing-eq0.false c.gather-n.ensures.control_after c.gather-n.ensures.value in
    let s = staged in (
      c.gather-n.auto.control ∙ c.requires.0,
      ((omega (arith, s.some, s.number), omega (arith, s.few, s.number)), staged-inside s),
    )

pub overflow_mul-n : goal.overflow_mul-n
overflow_mul-n c =
    let ready : Ready c.args.h c.args.array.now c.args.control.now c.args.cache.now c.args.p = asked c.requires (record { at = λ i. (c.slice_known-2-1.given i).fits })
    (record { at = λ i. (c.slice_known-1.given i).fits }) (record { at = λ i. (c.slice_known-3-1.given i).fits }) in
    let counted : c.args.missing ≡ missing c.args.cache.now c.args.p (suc c.args.h) = c.requires.1.1.1.1 in
    let staged : Staged c.args.h c.args.allowance c.args.array.now c.args.control.now (path_cells c.args.h c.args.cache.now c.args.p (suc c.args.h)) c.gather-n.new.control c.gather-n.result = settling ready counted c.if-missing-eq0.false c.gather-n.ensures.control_after c.gather-n.ensures.value in
    let small : c.gather-n.result ≤ 8 = let s = staged in omega (arith, s.few, s.number) in
    omega (arith, small)

pub overflow_add-n : goal.overflow_add-n
overflow_add-n c =
    let ready : Ready c.args.h c.args.array.now c.args.control.now c.args.cache.now c.args.p = asked c.requires (record { at = λ i. (c.slice_known-2-1.given i).fits })
    (record { at = λ i. (c.slice_known-1.given i).fits }) (record { at = λ i. (c.slice_known-3-1.given i).fits }) in
    let counted : c.args.missing ≡ missing c.args.cache.now c.args.p (suc c.args.h) = c.requires.1.1.1.1 in
    let staged : Staged c.args.h c.args.allowance c.args.array.now c.args.control.now (path_cells c.args.h c.args.cache.now c.args.p (suc c.args.h)) c.gather-n.new.control c.gather-n.result = settling ready counted c.if-missing-eq0.false c.gather-n.ensures.control_after c.gather-n.ensures.value in
    let small : c.gather-n.result ≤ 8 = let s = staged in omega (arith, s.few, s.number) in
    omega (arith, small)

pub returns-then-stores-n : goal.returns-then-stores-n
returns-then-stores-n c =
    let ready : Ready c.args.h c.args.array.now c.args.control.now c.args.cache.now c.args.p = asked c.requires (record { at = λ i. (c.slice_known-2-1.given i).fits })
    (record { at = λ i. (c.slice_known-1.given i).fits }) (record { at = λ i. (c.slice_known-3-1.given i).fits }) in
    let counted : c.args.missing ≡ missing c.args.cache.now c.args.p (suc c.args.h) = c.requires.1.1.1.1 in
    let staged : Staged c.args.h c.args.allowance c.args.array.now c.args.control.now (path_cells c.args.h c.args.cache.now c.args.p (suc c.args.h)) c.gather-n.new.control c.gather-n.result = settling ready counted c.if-missing-eq0.false c.gather-n.ensures.control_after c.gather-n.ensures.value in
    let ran : Ran c.args.array.now c.gather-n.new.control c.gather-n.result c.root-root.result c.args.allowance (media c.run-stores.new.array c.run-stores.new.control) c.run-stores.result = record { left = c.run-stores.ensures.control_after; number = c.run-stores.ensures.value } in
    settle-cut ready staged c.root-root.ensures ran (omega (arith, c.if-stores-n.true))

pub returns : goal.returns
returns c =
    let ready : Ready c.args.h c.args.array.now c.args.control.now c.args.cache.now c.args.p = asked c.requires (record { at = λ i. (c.slice_known-2-1.given i).fits })
    (record { at = λ i. (c.slice_known-1.given i).fits }) (record { at = λ i. (c.slice_known-3-1.given i).fits }) in
    let counted : c.args.missing ≡ missing c.args.cache.now c.args.p (suc c.args.h) = c.requires.1.1.1.1 in
    let staged : Staged c.args.h c.args.allowance c.args.array.now c.args.control.now (path_cells c.args.h c.args.cache.now c.args.p (suc c.args.h)) c.gather-n.new.control c.gather-n.result = settling ready counted c.if-missing-eq0.false c.gather-n.ensures.control_after c.gather-n.ensures.value in
    let ran : Ran c.args.array.now c.gather-n.new.control c.gather-n.result c.root-root.result c.args.allowance (media c.run-stores.new.array c.run-stores.new.control) c.run-stores.result = record { left = c.run-stores.ensures.control_after; number = c.run-stores.ensures.value } in
    settle-done ready staged c.root-root.ensures ran
    c.if-stores-n.false c.load.new.cache c.load.ensures
