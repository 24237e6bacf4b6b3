-- `quarter_rows` does a quarter round in each column: by `quarter-steps`. Assumes nothing.
use Rattle.chacha20.proofs.Rounds.{quarter-steps}
use Rattle.chacha20.proofs.quarter_rows.Goals as goal

pub returns : goal.returns
returns c =
    quarter-steps c.args.s
    c.add_rows-a1.ensures
    c.mix_rows-d1.ensures
    c.add_rows-c1.ensures
    c.mix_rows-b1.ensures
    c.add_rows-a2.ensures
    c.mix_rows-d2.ensures
    c.add_rows-c2.ensures
    c.mix_rows-b2.ensures
