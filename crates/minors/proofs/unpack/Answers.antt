-- `minors::unpack` writes the minors, eight at a time. Assumes nothing.
use Rattle.std.proofs.Common.{◌≡◌, ℕ, ◌*◌, List, ap, ap₂, ◌∙◌, arith}
use Rattle.words.specs.Bytes.{to_le, part, put}
use Rattle.words.proofs.Parts.{copy-all}
use Rattle.counter.specs.Counter.{minors}
use Rattle.minors.proofs.Groups.{unpack-next}
use Rattle.counter.proofs.Laws.{length-minors}
use Rattle.minors.proofs.unpack.Goals as goal

pub loop-g-preserved : goal.loop-g-preserved
loop-g-preserved c =
    c.store.ensures
    ∙ ap₂ {C = List ℕ} (λ (l : List ℕ) (x : ℕ). put l (8 * c.loop-g.g) (to_le 8 x)) c.loop-g.invariant c.spread.ensures
    ∙ unpack-next c.args.block.now c.args.out.now c.loop-g.g c.load-w.result c.requires.1
    (record { at = λ i. (c.type_inv.block i).fits }) (omega arith) c.load-w.ensures

pub returns : goal.returns
returns c =
    let all : 8 * c.loop-g.g ≡ 64 = omega arith in
    c.loop-g.invariant ∙ ap (λ (k : ℕ). put c.args.out.now 0 (part (minors c.args.block.now) 0 k)) all
    ∙ copy-all 64 c.args.out.now (minors c.args.block.now) c.requires.1 (length-minors c.args.block.now)
