-- `mix_rows` gives the mix of two rows: each column by the rotation. Assumes nothing.
use Rattle.std.proofs.Common.{[], ◌∷◌}
use Rattle.chacha20.specs.Rows.{mix_row}
use Rattle.chacha20.proofs.mix_rows.Goals as goal

pub returns : goal.returns
unfolding mix_row
returns c =
    λ i.
    c.rotate.ensures i
    ∷ c.rotate-2.ensures i
    ∷ c.rotate-3.ensures i
    ∷ c.rotate-4.ensures i
    ∷ []
