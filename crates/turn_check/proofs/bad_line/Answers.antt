-- `turn_check::bad_line` meets its contract. Of the lines at the set bits of the mask those before the ones left fit. Assumes nothing.
use mathlib.Core.Path.{sym, ◌∙◌}
use native.Mathlib.Omega.{arith}
use Rattle.turn_check.proofs.Laws.{bit-small, bad-none, bad-zero, bad-side, bad-later}
use Rattle.turn_check.proofs.bad_line.Goals as goal
use Rattle.turn_check.proofs.bad_line.Goals.{then-minor-eq0-via-then-minor-eq0, then-minor-eq0-via-else-minor-eq0+then-not-side_ok}

pub overflow_add-line : goal.overflow_add-line
overflow_add-line c = omega (arith, c.requires.1.0, bit-small _ c.in-Some.ensures.steps, c.type_inv.array 0)

pub bounds-minors-j : goal.bounds-minors-j
bounds-minors-j c = omega (arith, c.requires.1.1, bit-small _ c.in-Some.ensures.steps)

pub returns-then-minor-eq0 : goal.returns-then-minor-eq0
returns-then-minor-eq0 c =
    elim c.then-minor-eq0.branch [
      | then-minor-eq0-via-then-minor-eq0 w ↦
          bad-zero _ _ _ _ _ _ _ c.in-Some.ensures.steps c.from-minor.ensures w.if-minor-eq0.true ∙ sym c.loop-j.invariant.0
      | then-minor-eq0-via-else-minor-eq0+then-not-side_ok w ↦
          bad-side _ _ _ _ _ _ _ c.in-Some.ensures.steps c.from-minor.ensures w.if-minor-eq0.false
          (sym w.side_ok.ensures ∙ w.if-not-side_ok.true) ∙ sym c.loop-j.invariant.0
    ]

pub loop-j-preserved : goal.loop-j-preserved
loop-j-preserved c = (
  c.loop-j.invariant.0
      ∙ bad-later _ _ _ _ _ _ _ c.in-Some.ensures.steps c.from-minor.ensures c.if-minor-eq0.false
      (sym c.side_ok.ensures ∙ c.if-not-side_ok.false),
  (tt, tt),
)

pub returns : goal.returns
returns c = sym (c.loop-j.invariant.0 ∙ bad-none _ _ _ _ _ _ c.in-None.ensures.steps.0)
