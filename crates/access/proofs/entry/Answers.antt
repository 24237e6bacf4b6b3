-- `access::entry` meets its contract. Assumes nothing.
use mathlib.Core.Path.{◌≡◌, sym, ap, ◌∙◌}
use Prim.Native.Nat.{◌<◌}
use native.Mathlib.Omega.{arith}
use Rattle.memory_map.specs.Map.{lines}
use Rattle.control.specs.Control.{depth}
use Rattle.call_laws.proofs.Judged.{recovery-opened, head_of}
use Rattle.std.proofs.lemmas.Result.{err_from_is_err_and}
use Rattle.access.proofs.Laws.{some-number, refused-first, wrong-buffer, wrong-line, is-pending, is-idle}
use Rattle.access.proofs.entry.Goals as goal

pub returns-in_err-opening : goal.returns-in_err-opening
returns-in_err-opening c =
    let gives = err_from_is_err_and c.from_residual.result c.from_residual.ensures.1 in
    rw (gives.1, gives.2) (refused-first _ _ _ _ _ c.in_err-opening.ensures (some-number _))

pub returns-then-buffer-ne64 : goal.returns-then-buffer-ne64
returns-then-buffer-ne64 c =
    let opened = recovery-opened _ _ (sym c.in_ok-opening.ensures) in
    wrong-buffer _ _ _ _ opened c.if-buffer-ne64.true

pub depth-requires : goal.depth-requires
depth-requires c =
    let opened = recovery-opened _ _ (sym c.in_ok-opening.ensures) in
    opened.control_length

pub lines-requires : goal.lines-requires
lines-requires c =
    let opened = recovery-opened _ _ (sym c.in_ok-opening.ensures) in
    let head = head_of _ _ opened in omega (arith, c.depth.ensures, head.deep, head.flat)

pub returns-then-lines-line : goal.returns-then-lines-line
returns-then-lines-line c =
    let opened = recovery-opened _ _ (sym c.in_ok-opening.ensures) in
    let lines_are : c.lines.result ≡ lines (depth c.args.control.now) = c.lines.ensures ∙ ap lines c.depth.ensures in
    wrong-line _ _ _ _ opened c.if-buffer-ne64.false (rw (← lines_are) c.if-lines-line.true)

pub count-requires : goal.count-requires
count-requires c =
    let opened = recovery-opened _ _ (sym c.in_ok-opening.ensures) in
    opened.control_length

pub returns-then-count-ne0 : goal.returns-then-count-ne0
returns-then-count-ne0 c =
    let opened = recovery-opened _ _ (sym c.in_ok-opening.ensures) in
    let lines_are : c.lines.result ≡ lines (depth c.args.control.now) = c.lines.ensures ∙ ap lines c.depth.ensures in
    let inside : c.args.line < lines (depth c.args.control.now) = omega (arith, lines_are, c.if-lines-line.false) in
    is-pending _ _ _ _ opened c.if-buffer-ne64.false inside
    (λ e. c.if-count-ne0.true (c.count.ensures ∙ e))

pub returns : goal.returns
returns c =
    let opened = recovery-opened _ _ (sym c.in_ok-opening.ensures) in
    let lines_are : c.lines.result ≡ lines (depth c.args.control.now) = c.lines.ensures ∙ ap lines c.depth.ensures in
    let inside : c.args.line < lines (depth c.args.control.now) = omega (arith, lines_are, c.if-lines-line.false) in
    is-idle _ _ _ _ opened c.if-buffer-ne64.false inside
    (sym c.count.ensures ∙ c.if-count-ne0.false)
