-- `line_text::side_ok` meets its contract. Assumes nothing.
use mathlib.Core.Path.{ap, ◌∙◌}
use lib.ListN.{length}
use Rattle.line_text.proofs.Laws.{cell_full}
use Rattle.line_text.proofs.side_ok.Goals as goal

pub matches-requires : goal.matches-requires
matches-requires c = (c.requires.0, ap length c.cell.ensures ∙ cell_full c.args.array.now c.args.line c.requires.1)
