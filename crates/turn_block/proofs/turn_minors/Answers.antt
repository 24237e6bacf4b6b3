-- `turn_block::turn_minors` meets its contract. Assumes nothing.
use Rattle.std.proofs.Common.{◌≡◌, ℕ, List, map, set, ap, ◌∙◌, arith}
use Rattle.words.specs.Bytes.{part, put}
use Rattle.counter.specs.Counter.{turned_minor}
use Rattle.turn_block.proofs.Steps.{turn-next, turn-all}
use Rattle.turn_block.proofs.turn_minors.Goals as goal

pub loop-j-preserved : goal.loop-j-preserved
loop-j-preserved c =
    ap (λ (l : List ℕ). set l c.loop-j.j c.turned_minor.result) c.loop-j.invariant
    ∙ turn-next c.args.minors.now c.requires.0 c.args.out.now c.requires.1 (omega arith) c.turned_minor.ensures.0

pub returns : goal.returns
returns c =
    let all : c.loop-j.j ≡ 64 = omega arith in
    c.loop-j.invariant ∙ ap (λ (k : ℕ). put c.args.out.now 0 (part (map turned_minor c.args.minors.now) 0 k)) all
    ∙ turn-all c.args.minors.now c.requires.0 c.args.out.now c.requires.1
