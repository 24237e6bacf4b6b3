-- `read::read_line` meets its contract. Assumes nothing.
use mathlib.Core.Path.{◌≡◌, refl, sym, ap, ◌∙◌}
use mathlib.Core.Logic.{◌⊎◌, inl, inr}
use mathlib.Core.Bool.{true}
use Prim.Native.Nat.{ℕ, suc}
use native.Mathlib.Omega.{arith}
use Rattle.memory_map.proofs.Laws.{lines-small}
use Rattle.control.specs.Control.{family}
use Rattle.node.proofs.Laws.{line-room}
use Rattle.calls.specs.Call.{buffers}
use Rattle.path.specs.Told.{refusal_at}
use Rattle.call_laws.specs.Walk.{missing}
use Rattle.path.proofs.Ready.{ready_of, line-differs, line-found, minor-small}
use Rattle.read.proofs.Reading.{side_is, side-told, read-differs, read-side, read-cut, read_done}
use Rattle.read.proofs.read_line.Goals as goal
use Rattle.read.proofs.read_line.Goals.{then-found-ne0+else-not-side_ok, else-found-ne0}

pub returns-in-Err : goal.returns-in-Err
unfolding refusal_at
returns-in-Err c =
    let y = ready_of c.args.keys.now c.args.out.now c.requires (record { at = λ i. (c.slice_known-2-1.given i).fits })
    (record { at = λ i. (c.slice_known-1.given i).fits }) (record { at = λ i. (c.slice_known-3-1.given i).fits }) in
    read-differs c.args.keys.now c.args.line c.args.allowance c.args.out.now (buffers c.args.array.now c.args.control.now c.args.cache.now)
    (line-differs y c.requires.1.1.0 c.find_line-found.ensures c.in-Err.is) c.into.ensures

pub side_ok-requires : goal.side_ok-requires
side_ok-requires c =
    (c.requires.0, line-room c.args.h c.args.array.now c.args.line c.requires.1.1.1.0.array c.requires.1.1.1.1.1.0)

pub returns-then-not-side_ok : goal.returns-then-not-side_ok
returns-then-not-side_ok c =
    let y = ready_of c.args.keys.now c.args.out.now c.requires (record { at = λ i. (c.slice_known-2-1.given i).fits })
    (record { at = λ i. (c.slice_known-1.given i).fits }) (record { at = λ i. (c.slice_known-3-1.given i).fits }) in
    let both = line-found y c.requires.1.1.0 c.find_line-found.ensures c.in-Ok.is in
    read-side both.1 c.args.allowance c.args.out.now c.if-found-ne0.true
    (side-told both.1 c.family-family.ensures c.side_ok.ensures c.if-not-side_ok.true) c.at.ensures

pub settle-requires : goal.settle-requires
settle-requires c =
    let y = ready_of c.args.keys.now c.args.out.now c.requires (record { at = λ i. (c.slice_known-2-1.given i).fits })
    (record { at = λ i. (c.slice_known-1.given i).fits }) (record { at = λ i. (c.slice_known-3-1.given i).fits }) in
    let both = line-found y c.requires.1.1.0 c.find_line-found.ensures c.in-Ok.is in (
      y.control,
      (
        y.sized,
        (
          y.shaped,
          (
            omega (arith, c.page_of-p.ensures, y.page),
            both.0 ∙ ap (λ (p : ℕ). missing c.args.cache.now p (suc c.args.h)) (sym c.page_of-p.ensures),
          ),
        ),
      ),
    )

pub returns-in-Err-settle : goal.returns-in-Err-settle
returns-in-Err-settle c =
    let y = ready_of c.args.keys.now c.args.out.now c.requires (record { at = λ i. (c.slice_known-2-1.given i).fits })
    (record { at = λ i. (c.slice_known-1.given i).fits }) (record { at = λ i. (c.slice_known-3-1.given i).fits }) in
    let both = line-found y c.requires.1.1.0 c.find_line-found.ensures c.in-Ok.is in
    let passes : (c.find_line-found.result.minor ≡ 0) ⊎ (side_is (family c.args.control.now) c.args.keys.now c.args.array.now c.args.line c.find_line-found.result ≡ true) =
    elim c.if-found-ne0.branch [
      | then-found-ne0+else-not-side_ok w ↦ inr (side-told both.1 w.family-family.ensures w.side_ok.ensures w.if-not-side_ok.false)
      | else-found-ne0 w ↦ inl w.if-found-ne0.false
    ] in
    rw c.into-in-Err-settle.ensures
    (read-cut both.1 c.args.allowance c.args.out.now passes c.page_of-p.ensures c.in-Err-settle.ensures (λ e. cc))

pub give-requires : goal.give-requires
give-requires c =
    let y = ready_of c.args.keys.now c.args.out.now c.requires (record { at = λ i. (c.slice_known-2-1.given i).fits })
    (record { at = λ i. (c.slice_known-1.given i).fits }) (record { at = λ i. (c.slice_known-3-1.given i).fits }) in
    let both = line-found y c.requires.1.1.0 c.find_line-found.ensures c.in-Ok.is in
    let room = line-room c.args.h c.args.array.now c.args.line c.requires.1.1.1.0.array c.requires.1.1.1.1.1.0 in (
      c.requires.0,
      (
        omega (arith, room, c.settle.auto.array),
        (
          omega (arith, c.requires.1.1.1.1.1.0, lines-small {h = c.args.h} refl c.requires.1.1.1.0.flat),
          (minor-small both.1, c.requires.1.1.1.1.1.1),
        ),
      ),
    )

pub returns : goal.returns
returns c =
    let y = ready_of c.args.keys.now c.args.out.now c.requires (record { at = λ i. (c.slice_known-2-1.given i).fits })
    (record { at = λ i. (c.slice_known-1.given i).fits }) (record { at = λ i. (c.slice_known-3-1.given i).fits }) in
    let both = line-found y c.requires.1.1.0 c.find_line-found.ensures c.in-Ok.is in
    let passes : (c.find_line-found.result.minor ≡ 0) ⊎ (side_is (family c.args.control.now) c.args.keys.now c.args.array.now c.args.line c.find_line-found.result ≡ true) =
    elim c.if-found-ne0.branch [
      | then-found-ne0+else-not-side_ok w ↦ inr (side-told both.1 w.family-family.ensures w.side_ok.ensures w.if-not-side_ok.false)
      | else-found-ne0 w ↦ inl w.if-found-ne0.false
    ] in
    read_done both.1 c.args.allowance c.args.out.now passes c.page_of-p.ensures c.in-Ok-settle.ensures refl c.requires.1.1.1.1.1.0
    c.give.ensures.value c.give.ensures.out_after
