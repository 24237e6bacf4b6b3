-- `row_bytes` gives the bytes of four rows, by `put-rows`. Assumes nothing.
use Rattle.chacha20_block.proofs.Rows.{put-rows}
use Rattle.chacha20_block.proofs.row_bytes.Goals as goal

pub returns : goal.returns
returns c =
    put-rows c.args.s
    c.store_row.ensures
    c.store_row-2.ensures
    c.store_row-3.ensures
    c.store_row-4.ensures
