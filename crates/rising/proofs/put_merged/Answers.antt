-- `rising::put_merged` meets its contract. Assumes nothing.
use mathlib.Core.Path.{ap, ◌∙◌}
use Rattle.words.specs.Bytes.{bytes_of}
use Rattle.rising.proofs.Laws.{stored, merged-of}
use Rattle.rising.proofs.put_merged.Goals as goal

pub returns : goal.returns
returns c =
    stored _ _ _ _ _ _ _ _ _ c.requires c.store.ensures c.store-2.ensures c.store-3.ensures
    c.store-4.ensures
    ∙ ap (bytes_of 8)
    (merged-of c.args.a c.args.b c.args.c c.args.d c.max-low.ensures c.min-high.ensures c.min.ensures
    c.min-2.ensures c.max.ensures c.max-2.ensures)
