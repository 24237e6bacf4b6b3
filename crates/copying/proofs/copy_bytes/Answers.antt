-- `copying::copy_bytes` meets its contract. Assumes nothing.
use Rattle.std.proofs.Common.{List, ℕ, ◌+◌, get_or, set, ap, ◌∙◌, arith}
use Rattle.words.proofs.Parts.{copy-next}
use Rattle.copying.proofs.copy_bytes.Goals as goal

pub loop-i-preserved : goal.loop-i-preserved
loop-i-preserved c =
    ap (λ (l : List ℕ). set l (c.args.to + c.loop-i.i) (get_or c.args.src.now (c.args.from + c.loop-i.i) 0)) c.loop-i.invariant
    ∙ copy-next c.args.dst.now c.args.to c.args.src.now c.args.from c.loop-i.i (omega arith) (omega arith)
