-- `siphash_message::hash` meets its contract, from what its callees ensure.
-- Assumes nothing.
use mathlib.Core.Path.{◌∙◌, ap, ap₂}
use mathlib.Core.List.{List}
use Prim.Native.Nat.{ℕ, ◌/◌}
use lib.ListN.{length}
use Rattle.words.specs.Bytes.{words_of}
use Rattle.siphash.specs.SipHash.{initial, compress, compress_all, finalize}
use Rattle.siphash.proofs.Messages.{hash-last}
use Rattle.siphash_message.proofs.hash.Goals as goal

pub returns : goal.returns
returns c =
    let key = ap₂ initial c.load.ensures c.load-2.ensures in
    let words = c.absorb-v.ensures ∙ ap (λ (k : List ℕ). compress_all k (words_of 8 (length c.args.message.now / 8) c.args.message.now)) key in
    c.finalize.ensures
    ∙ ap finalize (c.compress.ensures ∙ ap₂ compress words c.last_word.ensures)
    ∙ hash-last c.args.key.now c.args.message.now
