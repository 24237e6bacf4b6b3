-- `pad::apply` meets its contract: the text is joined with the block's four rows, by `join-rows`, and the block is the pad, by `pad-is`.
-- Assumes nothing.
use mathlib.Core.Path.{◌∙◌, ap}
use native.Mathlib.Omega.{arith}
use Rattle.pad.specs.Pad.{xor_bytes}
use Rattle.pad.proofs.Nonce.{pad-is}
use Rattle.pad.proofs.Rows.{join-rows}
use Rattle.pad.proofs.apply.Goals as goal

pub returns : goal.returns
returns c =
    join-rows c.args.text.now c.args.out.now c.key_rows-s.result c.requires.1.0 c.requires.1.1
    c.join_row.ensures
    c.join_row-2.ensures
    c.join_row-3.ensures
    c.join_row-4.ensures
    ∙ ap (xor_bytes c.args.text.now)
    (c.key_rows-s.ensures ∙ pad-is c.args.keys.now c.args.line c.args.major c.args.minor (omega arith) (omega arith))
