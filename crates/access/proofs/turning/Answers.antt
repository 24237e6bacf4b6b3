-- `access::turning` meets its contract. Assumes nothing.
use mathlib.Core.Path.{◌≡◌, sym, ap, ◌∙◌}
use Prim.Native.Nat.{◌≤◌, ◌<◌}
use native.Mathlib.Omega.{arith}
use Rattle.memory_map.specs.Map.{pages}
use Rattle.slot_map.specs.Slots.{cache_length}
use Rattle.control.specs.Control.{depth}
use Rattle.call_laws.proofs.Judged.{recovery-opened, turn-first, turn-past, turn-pending, turn_on, head_of}
use Rattle.std.proofs.lemmas.Result.{err_from_is_err_and}
use Rattle.access.proofs.Laws.{some-number, at-depth}
use Rattle.access.proofs.turning.Goals as goal

pub returns-in_err-opening : goal.returns-in_err-opening
returns-in_err-opening c =
    let gives = err_from_is_err_and c.from_residual.result c.from_residual.ensures.1 in
    rw (gives.1, gives.2) (turn-first _ _ _ c.in_err-opening.ensures (some-number _))

pub depth-h-requires : goal.depth-h-requires
depth-h-requires c =
    let opened = recovery-opened _ _ (sym c.in_ok-opening.ensures) in
    opened.control_length

pub pages-requires : goal.pages-requires
pages-requires c =
    let opened = recovery-opened _ _ (sym c.in_ok-opening.ensures) in
    let head = head_of _ _ opened in omega (arith, c.depth-h.ensures, head.deep, head.flat)

pub returns-then-pages-page : goal.returns-then-pages-page
returns-then-pages-page c =
    let opened = recovery-opened _ _ (sym c.in_ok-opening.ensures) in
    let pages-are : c.pages.result ≡ pages (depth c.args.control.now) = c.pages.ensures ∙ ap pages c.depth-h.ensures in
    turn-past _ _ _ opened (rw (← pages-are) c.if-pages-page.true)

pub count-requires : goal.count-requires
count-requires c =
    let opened = recovery-opened _ _ (sym c.in_ok-opening.ensures) in
    opened.control_length

pub returns-then-count-gt0 : goal.returns-then-count-gt0
returns-then-count-gt0 c =
    let opened = recovery-opened _ _ (sym c.in_ok-opening.ensures) in
    let pages-are : c.pages.result ≡ pages (depth c.args.control.now) = c.pages.ensures ∙ ap pages c.depth-h.ensures in
    let inside : c.args.page < pages (depth c.args.control.now) = omega (arith, pages-are, c.if-pages-page.false) in
    turn-pending _ _ _ opened inside (λ e. omega (arith, c.count.ensures, c.if-count-gt0.true))

pub other_open-requires : goal.other_open-requires
other_open-requires c =
    let opened = recovery-opened _ _ (sym c.in_ok-opening.ensures) in
    opened.control_length

pub state-requires : goal.state-requires
state-requires c =
    let opened = recovery-opened _ _ (sym c.in_ok-opening.ensures) in
    let deep : (1 ≤ c.depth-h.result) × (c.depth-h.result ≤ 3) = let head = head_of _ _ opened in omega (arith, c.depth-h.ensures, head.deep, head.flat) in
    (deep.0, (deep.1, opened.fits.cache ∙ ap cache_length (sym c.depth-h.ensures)))

pub returns : goal.returns
returns c =
    let opened = recovery-opened _ _ (sym c.in_ok-opening.ensures) in
    let pages-are : c.pages.result ≡ pages (depth c.args.control.now) = c.pages.ensures ∙ ap pages c.depth-h.ensures in
    let inside : c.args.page < pages (depth c.args.control.now) = omega (arith, pages-are, c.if-pages-page.false) in
    turn_on _ _ _ opened inside (omega (arith, c.count.ensures, c.if-count-gt0.false))
    (at-depth c.args.cache.now c.args.control.now c.state.ensures c.depth-h.ensures c.other_open.ensures)
