-- `double_round` is a column round and a diagonal round, by `rounds-flat`. Assumes nothing.
use Rattle.std.proofs.Common.{ap, ◌∙◌}
use Rattle.chacha20.specs.Rows.{flat, quarter_rows, turned}
use Rattle.chacha20.proofs.Rounds.{rounds-flat}
use Rattle.chacha20.proofs.double_round.Goals as goal

pub returns : goal.returns
returns c =
    let first = c.turn_rows-t.ensures ∙ ap (turned 1 2 3) c.quarter_rows.ensures in
    ap flat (c.turn_rows.ensures ∙ ap (turned 3 2 1) (c.quarter_rows-2.ensures ∙ ap quarter_rows first))
    ∙ rounds-flat c.args.s
