-- `candidates::fits_minor` meets its contract. Assumes nothing.
use mathlib.Core.Path.{ap, ◌∙◌}
use Rattle.tag.specs.States.{hash_from}
use Rattle.candidates.proofs.Laws.{hash-zero, hash-some}
use Rattle.candidates.proofs.fits_minor.Goals as goal

pub returns-then-v-eq0 : goal.returns-then-v-eq0
returns-then-v-eq0 c = c.all_zero.ensures ∙ hash-zero _ _ _ c.if-v-eq0.true

pub returns : goal.returns
returns c =
    hash-some _ _ _ c.if-v-eq0.false c.load.ensures (c.data_hash_from.ensures ∙ ap (hash_from c.args.state) c.from.ensures)
