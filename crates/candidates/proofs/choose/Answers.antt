-- `candidates::choose` meets its contract: the candidates passed have come to the choice so far. Assumes nothing.
use mathlib.Core.Path.{sym, ◌∙◌}
use native.Mathlib.Omega.{arith}
use lib.Seq.{length-take-le}
use Rattle.candidates.proofs.Laws.{Lent, hash-candidate, choosing-first, choosing-next, choosing-end}
use Rattle.candidates.proofs.choose.Goals as goal

pub loop-k-init : goal.loop-k-init
loop-k-init c = choosing-first _ _ _ _ _

pub loop-k-preserved : goal.loop-k-preserved
loop-k-preserved c =
    let lent : Lent c.args.keys.now c.args.cell.now c.args.line c.args.major = record {
      keyed = record { at = λ i. (c.type_inv.keys i).fits };
      plain = record { at = λ i. (c.type_inv.cell i).fits };
      full = length-take-le 64 c.args.cell.now (omega (arith, c.requires.1.0));
      line_word = c.ranges.line.fits;
      major-word = c.ranges.major.fits;
    } in
    c.loop-k.invariant
    ∙ choosing-next _ c.args.minor c.loop-k.k (omega (arith, c.loop-k-test.true)) c.loop-k.chosen
    (c.with_candidate-chosen.ensures ∙ hash-candidate lent c.data_state-state.ensures c.loop-k.chosen _ (omega arith))

pub returns : goal.returns
returns c = sym (c.loop-k.invariant ∙ choosing-end _ c.loop-k.k (omega (arith, c.loop-k-test.false)) c.loop-k.chosen _)
