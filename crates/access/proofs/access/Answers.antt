-- `access::access` meets its contract. Assumes nothing.
use mathlib.Core.Path.{sym, ap, ◌∙◌}
use native.Mathlib.Omega.{arith}
use Rattle.slot_map.specs.Slots.{cache_length}
use Rattle.control.specs.Control.{is_open}
use Rattle.calls.specs.Call.{Module, buffers}
use Rattle.call_laws.proofs.Judged.{entry-passed, entry-refused, entry-on, head_of}
use Rattle.std.proofs.lemmas.Result.{err_from_is_err_and}
use Rattle.access.proofs.Laws.{some-number, at-depth}
use Rattle.access.proofs.access.Goals as goal

pub returns-in_err-entry : goal.returns-in_err-entry
returns-in_err-entry c =
    let given : Module = buffers c.args.array.now c.args.control.now c.args.cache.now in
    let gives = err_from_is_err_and c.from_residual.result c.from_residual.ensures.1 in
    rw (gives.1, gives.2) (entry-refused c.args.keys.now c.args.line c.args.buffer.now given c.in_err-entry.ensures (some-number _))

pub is_open-kept-requires : goal.is_open-kept-requires
is_open-kept-requires c =
    let entered = entry-passed _ _ _ _ (sym c.in_ok-entry.ensures) in
    entered.opening.control_length

pub depth-requires : goal.depth-requires
depth-requires c =
    let entered = entry-passed _ _ _ _ (sym c.in_ok-entry.ensures) in
    entered.opening.control_length

pub state-requires : goal.state-requires
state-requires c =
    let entered = entry-passed _ _ _ _ (sym c.in_ok-entry.ensures) in
    let head = head_of _ _ entered.opening in (
      omega (arith, c.depth.ensures, head.deep),
      (omega (arith, c.depth.ensures, head.flat), entered.opening.fits.cache ∙ ap cache_length (sym c.depth.ensures)),
    )

pub returns : goal.returns
returns c =
    let entered = entry-passed _ _ _ _ (sym c.in_ok-entry.ensures) in
    entry-on _ _ _ _ entered
    (at-depth c.args.cache.now c.args.control.now c.state.ensures c.depth.ensures
    (c.is_open-kept.ensures ∙ ap (is_open c.args.control.now) c.page_of.ensures))
