-- `key_rows` gives the block of a state: the start, its rounds, and their sum. Assumes nothing.
use mathlib.Core.Path.{◌∙◌, ap}
use mathlib.Core.List.{List}
use Prim.Native.Nat.{ℕ}
use Rattle.words.specs.Bytes.{bytes_of}
use Rattle.chacha20.specs.ChaCha20.{add_states, serialised}
use Rattle.chacha20.specs.Rows.{flat}
use Rattle.chacha20_block.proofs.Rows.{sum-flat}
use Rattle.chacha20_block.proofs.key_rows.Goals as goal

pub returns : goal.returns
unfolding serialised
returns c =
    let sum =
    sum-flat c.twenty_rounds-t.result c.start_rows-s.result
    c.add_rows.ensures c.add_rows-2.ensures c.add_rows-3.ensures c.add_rows-4.ensures in
    ap (bytes_of 4) (sum ∙ ap (λ (l : List ℕ). add_states l (flat c.start_rows-s.result)) c.twenty_rounds-t.ensures)
    ∙ ap serialised c.start_rows-s.ensures
