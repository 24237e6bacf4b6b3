-- `load_row` reads four words, by `row_at`. Assumes nothing.
use mathlib.Core.Path.{◌∙◌}
use mathlib.Core.List.{[], ◌∷◌}
use Rattle.chacha20_block.proofs.Rows.{row_at}
use Rattle.chacha20_block.proofs.load_row.Goals as goal

pub returns : goal.returns
returns c =
    (λ i.
    c.load.ensures i
    ∷ c.load-2.ensures i
    ∷ c.load-3.ensures i
    ∷ c.load-4.ensures i
    ∷ [])
    ∙ row_at c.args.s.now c.args.at
