-- `start_rows` gives the state's sixteen words, by `start-flat`. Assumes nothing.
use mathlib.Core.Path.{◌∙◌}
use mathlib.Core.List.{[], ◌∷◌}
use borrow.Author.Rules.{rules}
use Rattle.words.specs.Bytes.{number, words_of}
use Rattle.chacha20.specs.Rows.{flat}
use Rattle.chacha20_block.proofs.Rows.{start-flat}
use Rattle.chacha20_block.proofs.start_rows.Goals as goal

pub returns : goal.returns
unfolding number words_of
returns c =
    (λ i. flat (c.load_row.ensures i ∷ c.load_row-2.ensures i ∷ c.load_row-3.ensures i ∷ c.args.last
    ∷ []))
    ∙ start-flat c.args.key.now c.args.last (search rules)
