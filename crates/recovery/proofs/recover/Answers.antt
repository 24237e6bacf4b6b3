-- `recovery::recover` meets its contract. Assumes nothing.
use mathlib.Core.Path.{◌≡◌, refl, sym, ap, ◌∙◌, subst}
use Prim.Native.Nat.{ℕ, ◌≤◌}
use native.Mathlib.Omega.{arith}
use borrow.Author.Rules.{rules}
use lib.ListN.{length}
use Rattle.control.specs.Control.{depth}
use Rattle.control.proofs.Laws.{valid-parts}
use Rattle.journal.specs.Journal.{Media, pending_stores}
use Rattle.node.specs.Sized.{Sized}
use Rattle.calls.specs.Call.{Module, buffers}
use Rattle.call_laws.proofs.Judged.{Opened, recovery-opened, head_of}
use Rattle.call_laws.proofs.Kept.{Bytes, array-cells}
use Rattle.call_laws.proofs.Rebuilt.{made-depth}
use Rattle.recovery.proofs.Ends.{ends-refused, ends-cut, ends-media, wanted-none, wanted-some}
use Rattle.recovery.proofs.recover.Goals as goal
use Rattle.recovery.proofs.recover.Goals.{In_default, else-n-ne0-via-then-n-ne0+else-stores-n, else-n-ne0-via-else-n-ne0}

-- what is known of the inputs that are accepted
opened : (c : In_default) → Opened c.args.keys.now (buffers c.args.array.now c.args.control.now c.args.cache.now)
opened c = recovery-opened _ _ (sym c.in_default.ensures)

pub returns-in-Err : goal.returns-in-Err
returns-in-Err c =
    let given : Module = buffers c.args.array.now c.args.control.now c.args.cache.now in
    ends-refused c.args.keys.now c.args.allowance given c.in-Err.refusal refl c.in-Err.ensures c.into.ensures

pub count-n-requires : goal.count-n-requires
count-n-requires c =
    let given : Module = buffers c.args.array.now c.args.control.now c.args.cache.now in
    (opened (goal.at.count-n-requires c).In_default).control_length

pub finish-stores-requires : goal.finish-stores-requires
finish-stores-requires c =
    let given : Module = buffers c.args.array.now c.args.control.now c.args.cache.now in
    let o = opened (goal.at.finish-stores-requires c).In_default in (
      o.control_length,
      (
        (head_of _ _ o).few,
        rw (array-cells (depth c.args.control.now) (length c.args.array.now) o.fits.array) (valid-parts o.right).cells_in,
      ),
    )

pub overflow_add-n : goal.overflow_add-n
overflow_add-n c =
    let given : Module = buffers c.args.array.now c.args.control.now c.args.cache.now in
    omega (arith, c.count-n.ensures, (head_of _ _ (opened (goal.at.overflow_add-n c).In_default)).few)

pub returns-then-stores-n : goal.returns-then-stores-n
returns-then-stores-n c =
    let given : Module = buffers c.args.array.now c.args.control.now c.args.cache.now in
    let want = wanted-some c.args.control.now c.count-n.ensures c.if-n-ne0.true in
    ends-cut c.args.keys.now c.args.allowance given c.in_default.ensures
    c.finish-stores.ensures (omega (arith, want, c.if-stores-n.true))

pub recover_media-requires : goal.recover_media-requires
recover_media-requires c =
    let given : Module = buffers c.args.array.now c.args.control.now c.args.cache.now in
    let bytes : Bytes given = record {
      array = record { at = λ i. search rules };
      control = record { at = λ i. search rules };
      cache = record { at = λ i. search rules };
    } in
    let same-depth : depth c.finish-stores.new.control ≡ depth c.args.control.now = ap (λ (m : Media). depth m.control) c.finish-stores.ensures.left
    ∙ made-depth c.args.keys.now given bytes (opened (goal.at.recover_media-requires c).In_default) c.args.allowance in
    let o = opened (goal.at.recover_media-requires c).In_default in
    let head = head_of _ _ o in (
      o.keys_length,
      (
        c.finish-stores.auto.control ∙ o.control_length,
        subst (λ (h : ℕ). Sized h c.finish-stores.new.array c.args.cache.now) (sym same-depth)
            (record { deep = head.deep; flat = head.flat; array = c.finish-stores.auto.array ∙ o.fits.array; cache = o.fits.cache }),
      ),
    )

pub returns : goal.returns
returns c =
    let given : Module = buffers c.args.array.now c.args.control.now c.args.cache.now in
    let all_made : length (pending_stores c.args.control.now) ≤ c.finish-stores.result = elim c.else-n-ne0.branch [
      | else-n-ne0-via-then-n-ne0+else-stores-n w ↦ omega (arith, w.if-stores-n.false, wanted-some c.args.control.now c.count-n.ensures w.if-n-ne0.true)
      | else-n-ne0-via-else-n-ne0 w ↦ omega (arith, wanted-none c.args.control.now c.count-n.ensures w.if-n-ne0.false)
    ] in
    c.recover_media.ensures
    ∙ ends-media c.args.keys.now c.args.allowance given c.in_default.ensures
    c.finish-stores.ensures all_made
