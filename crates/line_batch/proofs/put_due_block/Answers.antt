-- `line_batch::put_due_block` meets its contract. Assumes nothing.
use Rattle.line_batch.proofs.Laws.{block_none, block-some}
use Rattle.line_batch.proofs.put_due_block.Goals as goal

pub returns-then-minor-ne0 : goal.returns-then-minor-ne0
returns-then-minor-ne0 c =
    let k = block_none c.args.h c.args.p c.args.minor c.args.block.now c.args.allowance c.args.control.now c.args.n c.if-minor-ne0.true in
    record { control_after = k.cells; value = k.number }

pub returns : goal.returns
returns c =
    let k = block-some c.args.h c.args.p c.args.minor c.args.block.now c.args.allowance c.args.control.now c.args.n c.if-minor-ne0.false
    c.put_block.new.control c.put_block.ensures in
    record { control_after = k.cells; value = k.number }
