-- `line_batch::seal` meets its contract. Assumes nothing.
use mathlib.Core.Path.{◌∙◌}
use Rattle.line_batch.proofs.Laws.{seal-bytes}
use Rattle.line_batch.proofs.seal.Goals as goal

pub returns : goal.returns
returns c =
    c.store.ensures
    ∙ seal-bytes c.args.family c.args.keys.now c.args.line c.args.text.now c.args.major c.args.minor c.requires.1.1.0 c.args.cell.now
    c.apply.new.out c.word-side.result
    c.requires.1.1.1.1 c.apply.ensures c.word-side.ensures
