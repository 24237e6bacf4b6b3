-- `copying::copy_pairs` meets its contract. Assumes nothing.
use Rattle.std.proofs.Common.{◌≡◌, List, ℕ, ◌+◌, ◌*◌, ap, ◌∙◌, arith}
use Rattle.words.specs.Bytes.{part, put}
use Rattle.words.proofs.Parts.{copy_more}
use Rattle.copying.proofs.copy_pairs.Goals as goal

pub loop-i-preserved : goal.loop-i-preserved
loop-i-preserved c =
    let next : 16 * c.loop-i.i + 16 ≡ 16 * (c.loop-i.i + 1) = omega arith in
    c.copy_pair.ensures
    ∙ ap (λ (l : List ℕ). put l (c.args.to + 16 * c.loop-i.i) (part c.args.src.now (c.args.from + 16 * c.loop-i.i) 16)) c.loop-i.invariant
    ∙ copy_more c.args.dst.now c.args.to c.args.src.now c.args.from (16 * c.loop-i.i) 16 (omega arith) (omega arith)
    ∙ ap (λ (k : ℕ). put c.args.dst.now c.args.to (part c.args.src.now c.args.from k)) next
