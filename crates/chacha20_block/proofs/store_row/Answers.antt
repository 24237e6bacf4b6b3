-- `store_row` writes four words, by `put-row`. Assumes nothing.
use Rattle.chacha20_block.proofs.Rows.{put-row}
use Rattle.chacha20_block.proofs.store_row.Goals as goal

pub returns : goal.returns
returns c =
    put-row c.args.out.now c.args.at c.args.r c.requires
    c.store.ensures
    c.store-2.ensures
    c.store-3.ensures
    c.store-4.ensures
