-- `control::valid_turn` meets its contract. Assumes nothing.
use mathlib.Core.Path.{◌≡◌, sym, ap, ◌∙◌}
use lib.Dec.{ltb}
use lib.ListN.{get_or}
use native.Mathlib.Omega.{arith}
use Rattle.control.proofs.Laws.{turn-page-at, turn-mask-at, turn-none, turn_many, turn-past, turn_in}
use Rattle.control.proofs.valid_turn.Goals as goal

pub returns-then-control-eq0 : goal.returns-then-control-eq0
returns-then-control-eq0 c = turn-none c.args.control.now c.if-control-eq0.true

pub returns-then-control-gt1 : goal.returns-then-control-gt1
returns-then-control-gt1 c = turn_many c.args.control.now c.if-control-eq0.false (λ e. omega (arith, c.if-control-gt1.true, e))

pub returns-then-bound-load : goal.returns-then-bound-load
returns-then-bound-load c =
    let is_one : get_or c.args.control.now 664 0 ≡ 1 = omega (arith, c.if-control-gt1.false, c.if-control-eq0.false) in
    turn-past c.args.control.now c.if-control-eq0.false is_one (omega (arith, c.if-bound-load.true, c.load.ensures, turn-page-at c.args.control.now, c.requires.1))

pub returns : goal.returns
returns c =
    let is_one : get_or c.args.control.now 664 0 ≡ 1 = omega (arith, c.if-control-gt1.false, c.if-control-eq0.false) in
    ap (ltb 0) (c.load-2.ensures ∙ sym (turn-mask-at c.args.control.now))
    ∙ turn_in c.args.control.now c.if-control-eq0.false is_one
    (omega (arith, c.if-bound-load.false, c.load.ensures, turn-page-at c.args.control.now, c.requires.1))
