-- `control::family` meets its contract. Assumes nothing.
use mathlib.Core.Path.{sym, ◌∙◌}
use Rattle.control.proofs.Laws.{mark-at, other-mark-bytes, family-one, family-zero}
use Rattle.control.proofs.family.Goals as goal

pub returns-then-load : goal.returns-then-load
returns-then-load c = sym (family-one c.args.control.now (mark-at c.args.control.now ∙ sym c.load.ensures ∙ c.if-load.true ∙ c.load-2.ensures ∙ other-mark-bytes))

pub returns : goal.returns
returns c =
    sym (family-zero c.args.control.now
    (λ e. c.if-load.false (c.load.ensures ∙ sym (mark-at c.args.control.now) ∙ e ∙ sym (c.load-2.ensures ∙ other-mark-bytes))))
