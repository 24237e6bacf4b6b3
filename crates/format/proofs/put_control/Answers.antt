-- `format::put_control` meets its contract. Assumes nothing.
use borrow.Author.Rules.{rules}
use Rattle.format.proofs.Laws.{control-written}
use Rattle.format.proofs.put_control.Goals as goal

pub returns : goal.returns
returns c =
    control-written c.args.control.now c.args.h c.args.family c.args.root c.requires.1
    (c.fill.ensures.after (search rules)) c.mark_of.ensures c.store.ensures c.store-2.ensures
