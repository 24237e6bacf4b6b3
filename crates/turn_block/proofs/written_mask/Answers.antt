-- `turn_block::written_mask` meets its contract. Assumes nothing.
use Rattle.std.proofs.Common.{◌≡◌, ◌^◌, ◌<◌, ℕ, map, drop, ap, ◌∙◌, arith}
use Rattle.words.specs.Bytes.{number}
use Rattle.bits.specs.Bits.{set_bits}
use Rattle.counter.specs.Counter.{turned_minor}
use Rattle.turn_block.proofs.Laws.{mask-written}
use Rattle.turn_block.proofs.Steps.{mask-none, mask_lt, mask_next}
use Rattle.turn_block.proofs.written_mask.Goals as goal

pub loop-j-init : goal.loop-j-init
loop-j-init c = mask-none c.args.minors.now c.requires

pub overflow_mul-mask : goal.overflow_mul-mask
overflow_mul-mask c =
    let small : c.loop-j.mask < 2 ^ 63 = mask_lt c.args.minors.now c.requires c.loop-j.invariant (omega arith) (omega arith) in
    omega (arith, small)

pub overflow_add-mask : goal.overflow_add-mask
overflow_add-mask c =
    let small : c.loop-j.mask < 2 ^ 63 = mask_lt c.args.minors.now c.requires c.loop-j.invariant (omega arith) (omega arith) in
    omega (arith, small)

pub loop-j-preserved : goal.loop-j-preserved
loop-j-preserved c =
    mask_next c.args.minors.now c.requires c.loop-j.invariant (omega arith) (omega arith) _ (c.from.ensures ∙ c.turned_minor.ensures.0)

pub returns : goal.returns
returns c =
    let all : c.loop-j.j ≡ 0 = omega arith in
    ap set_bits (c.loop-j.invariant ∙ ap (λ (k : ℕ). number 2 (drop k (map turned_minor c.args.minors.now))) all) ∙ mask-written c.args.minors.now c.requires
