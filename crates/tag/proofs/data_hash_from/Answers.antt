-- `tag::data_hash_from` meets its contract. Assumes nothing.
use mathlib.Core.Path.{◌∙◌, ap}
use mathlib.Core.List.{List}
use Prim.Native.Nat.{ℕ}
use Rattle.siphash.specs.SipHash.{compress, compress_all, finalize}
use Rattle.tag.specs.States.{hash_from}
use Rattle.tag.proofs.data_hash_from.Goals as goal

pub returns : goal.returns
unfolding hash_from compress_all
returns c =
    c.finalize.ensures
    ∙ ap finalize (c.compress-2.ensures
    ∙ ap (λ (w : List ℕ). compress w 0x5800_0000_0000_0000) c.compress.ensures)
