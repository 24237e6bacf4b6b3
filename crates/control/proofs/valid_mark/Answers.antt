-- `control::valid_mark` meets its contract. Assumes nothing.
use mathlib.Core.Path.{sym, ap₂, ◌∙◌}
use lib.Dec.{eqb}
use Rattle.control.proofs.Laws.{mark-at, mark-bytes, other-mark-bytes, mark-right, mark-other}
use Rattle.control.proofs.valid_mark.Goals as goal

pub returns-then-mark-load : goal.returns-then-mark-load
returns-then-mark-load c = mark-right c.args.control.now (mark-at c.args.control.now ∙ sym c.load-mark.ensures ∙ c.if-mark-load.true ∙ c.load.ensures ∙ mark-bytes)

pub returns : goal.returns
returns c =
    let is = c.load-mark.ensures ∙ sym (mark-at c.args.control.now) in
    ap₂ eqb is (c.load-2.ensures ∙ other-mark-bytes)
    ∙ mark-other c.args.control.now (λ z. c.if-mark-load.false (is ∙ z ∙ sym (c.load.ensures ∙ mark-bytes)))
