-- `siphash_message::last_word` meets its contract. The loop's invariant: `sum` is the number in the bytes from `i`, which are at most 7.
-- Assumes nothing.
use Rattle.std.proofs.Common.{◌≡◌, ℕ, ◌+◌, ◌-◌, ◌*◌, ◌/◌, ◌%◌, ◌^◌, length, drop, ap, ap₂, ◌∙◌, arith, lit<}
use Rattle.words.specs.Bytes.{from_le}
use Rattle.words.proofs.Digits.{Below}
use Rattle.siphash.specs.SipHash.{last_word}
use Rattle.siphash.proofs.Messages.{left-none, left-more, left_lt}
use Rattle.siphash_message.proofs.last_word.Goals as goal

pub loop-i-init : goal.loop-i-init
loop-i-init c = (omega arith, left-none c.args.s.now, lit< tt)

pub loop-i-preserved : goal.loop-i-preserved
loop-i-preserved c =
    let more = ap₂ (λ (m x : ℕ). m * 256 + x) c.loop-i.invariant.1 c.from.ensures ∙ left-more c.args.s.now c.loop-i.i (omega arith) (omega arith) in
    let bytes : Below 256 c.args.s.now = record { at = λ k. (c.type_inv.s k).fits } in
    (omega arith, more, rw more (left_lt c.args.s.now (c.loop-i.i - 1) bytes (omega arith)))

pub returns : goal.returns
unfolding last_word
returns c =
    let done : c.loop-i.i ≡ length c.args.s.now / 8 * 8 = omega arith in
    ap (λ (m : ℕ). m + length c.args.s.now % 256 * 2 ^ 56) (c.loop-i.invariant.1 ∙ ap (λ (k : ℕ). from_le (drop k c.args.s.now)) done)
