-- `siphash_message::compress_each` meets its contract. The loop's invariant: `r` is the state after the first `i` words.
-- Assumes nothing.
use Rattle.std.proofs.Common.{refl, ap, ◌∙◌, arith, take_all}
use Rattle.siphash.specs.SipHash.{compress_all}
use Rattle.siphash.proofs.Messages.{compress-next}
use Rattle.siphash_message.proofs.compress_each.Goals as goal

pub loop-i-init : goal.loop-i-init
unfolding compress_all
loop-i-init g c ws len each = refl

pub loop-i-preserved : goal.loop-i-preserved
loop-i-preserved g c ws len each =
    c.compress-next.ensures
    ∙ compress-next c.args.v ws c.loop-i.i (omega (arith, len)) (c.loop-i.invariant ws len each)
    (each c.loop-i.i c.word.result c.loop-i-test.true c.word.ensures)

pub returns : goal.returns
returns g c ws len each =
    c.loop-i.invariant ws len each ∙ ap (compress_all c.args.v) (take_all c.loop-i.i ws (omega (arith, len)))
