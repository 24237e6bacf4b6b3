-- `rising::put_rising` meets its contract. Assumes nothing.
use mathlib.Core.Path.{ap, ◌∙◌}
use Rattle.words.specs.Bytes.{bytes_of}
use Rattle.rising.proofs.Laws.{rising-of}
use Rattle.rising.proofs.put_rising.Goals as goal

pub returns : goal.returns
returns c =
    c.put_merged.ensures
    ∙ ap (bytes_of 8)
    (rising-of c.args.a c.args.b c.args.c c.args.d c.min.ensures c.max.ensures c.min-2.ensures
    c.max-2.ensures)
