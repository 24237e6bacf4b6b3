-- `pad::join_row` meets its contract, by `join-words`. Assumes nothing.
use Rattle.pad.proofs.Rows.{join-words}
use Rattle.pad.proofs.join_row.Goals as goal

pub returns : goal.returns
returns c =
    join-words c.args.text.now c.args.out.now c.args.at c.args.r c.requires.0 c.requires.1
    c.join_word.ensures c.join_word-2.ensures c.join_word-3.ensures c.join_word-4.ensures
