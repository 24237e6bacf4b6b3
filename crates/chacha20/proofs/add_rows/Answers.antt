-- `add_rows` gives the sum of two rows: each column by the sum that wraps. Assumes nothing.
use Rattle.std.proofs.Common.{refl}
use Rattle.chacha20.specs.Rows.{sum_row}
use Rattle.chacha20.proofs.add_rows.Goals as goal

pub returns : goal.returns
unfolding sum_row
returns c = refl
