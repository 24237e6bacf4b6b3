-- `candidates::with_candidate` meets its contract. Assumes nothing.
use mathlib.Core.Path.{sym, ◌∙◌}
use native.Mathlib.Omega.{arith}
use Rattle.candidates.proofs.Laws.{past-127, candidate-fits, candidate-not}
use Rattle.candidates.proofs.with_candidate.Goals as goal
use Rattle.candidates.proofs.with_candidate.Goals.{else-v-le127-via-then-v-le127+else-fits_minor, else-v-le127-via-else-v-le127}

pub returns-then-fits_minor : goal.returns-then-fits_minor
returns-then-fits_minor c = c.also.ensures ∙ candidate-fits _ _ (omega (arith, c.if-v-le127.true)) (sym c.fits_minor.ensures ∙ c.if-fits_minor.true)

pub returns-else-v-le127 : goal.returns-else-v-le127
returns-else-v-le127 c =
    elim c.else-v-le127.branch [
      | else-v-le127-via-then-v-le127+else-fits_minor w ↦
          candidate-not _ _ (omega (arith, w.if-v-le127.true)) (sym w.fits_minor.ensures ∙ w.if-fits_minor.false)
      | else-v-le127-via-else-v-le127 w ↦ past-127 _ _ (omega (arith, w.if-v-le127.false)) _
    ]
