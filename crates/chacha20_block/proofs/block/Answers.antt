-- `block` gives the RFC's block: the nonce is its three words. Assumes nothing.
use mathlib.Core.Path.{◌∙◌, ap}
use mathlib.Core.List.{List, [], ◌∷◌, ◌++◌}
use Prim.Native.Nat.{ℕ}
use Rattle.words.specs.Bytes.{words_of}
use Rattle.chacha20.specs.ChaCha20.{constants, start, serialised, block}
use Rattle.chacha20_block.proofs.Rows.{three-at}
use Rattle.chacha20_block.proofs.block.Goals as goal

pub returns : goal.returns
unfolding start block
returns c =
    let words =
    (λ i.
    c.load.ensures i
    ∷ c.load-2.ensures i
    ∷ c.load-3.ensures i
    ∷ [])
    ∙ three-at c.args.nonce.now in
    c.row_bytes.ensures ∙ c.key_rows-rows.ensures
    ∙ ap (λ (l : List ℕ). serialised (constants ++ (words_of 4 8 c.args.key.now ++ (c.args.counter ∷ l)))) words
