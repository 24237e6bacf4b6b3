-- `control::valid_head` meets its contract. Assumes nothing.
use mathlib.Core.Path.{◌≡◌, sym, ◌∙◌}
use native.Mathlib.Omega.{arith}
use mathlib.Core.Bool.{true}
use Rattle.control.specs.Control.{valid_mark}
use Rattle.control.proofs.Laws.{wrong-mark, wrong_first, wrong_second, depth_low, depth-high, right-depth}
use Rattle.control.proofs.valid_head.Goals as goal

pub returns-then-not-valid_mark : goal.returns-then-not-valid_mark
returns-then-not-valid_mark c = wrong-mark c.args.control.now (sym c.valid_mark.ensures ∙ c.if-not-valid_mark.true)

pub returns-then-control-ne1 : goal.returns-then-control-ne1
returns-then-control-ne1 c =
    let right-mark : valid_mark c.args.control.now ≡ true = sym c.valid_mark.ensures ∙ c.if-not-valid_mark.false in
    wrong_first c.args.control.now right-mark c.if-control-ne1.true

pub returns-then-control-ne1-2 : goal.returns-then-control-ne1-2
returns-then-control-ne1-2 c =
    let right-mark : valid_mark c.args.control.now ≡ true = sym c.valid_mark.ensures ∙ c.if-not-valid_mark.false in
    wrong_second c.args.control.now right-mark c.if-control-ne1.false c.if-control-ne1-2.true

pub returns-then-control-lt1 : goal.returns-then-control-lt1
returns-then-control-lt1 c =
    let right-mark : valid_mark c.args.control.now ≡ true = sym c.valid_mark.ensures ∙ c.if-not-valid_mark.false in
    depth_low c.args.control.now right-mark c.if-control-ne1.false c.if-control-ne1-2.false c.if-control-lt1.true

pub returns-then-control-gt3 : goal.returns-then-control-gt3
returns-then-control-gt3 c =
    let right-mark : valid_mark c.args.control.now ≡ true = sym c.valid_mark.ensures ∙ c.if-not-valid_mark.false in
    depth-high c.args.control.now right-mark c.if-control-ne1.false c.if-control-ne1-2.false
    (omega (arith, c.if-control-gt3.true))

pub returns : goal.returns
returns c =
    let right-mark : valid_mark c.args.control.now ≡ true = sym c.valid_mark.ensures ∙ c.if-not-valid_mark.false in
    right-depth c.args.control.now right-mark c.if-control-ne1.false c.if-control-ne1-2.false
    c.if-control-lt1.false c.if-control-gt3.false
