-- `turn_batch::put_last` meets its contract. Assumes nothing.
use mathlib.Core.Path.{ap, ◌∙◌}
use Prim.Native.Nat.{ℕ, suc, ◌+◌}
use native.Mathlib.Omega.{arith}
use borrow.Author.Rules.{rules}
use lib.ListN.{length-map}
use Rattle.bits.specs.Bits.{set_bits}
use Rattle.turn_batch.specs.Fresh.{fresh_line}
use Rattle.turn_batch.proofs.Laws.{There, line-there, closed_none, closed-one}
use Rattle.turn_batch.proofs.put_last.Goals as goal

pub returns-then-rest-eq0 : goal.returns-then-rest-eq0
returns-then-rest-eq0 c =
    let f = fresh_line c.args.family c.args.keys.now c.args.array.now c.args.t.now.p c.args.t.now.major c.args.t.now.minors.now in
    let k = closed_none c.args.h c.args.t.now.p c.args.block.now f c.args.allowance c.args.control.now c.args.n c.put_block.new.control c.put_block.ensures c.args.rest c.if-rest-eq0.true in
    record { control_after = k.cells; value = k.number ∙ ap (λ (m : ℕ). c.args.n + suc m) (length-map (set_bits c.args.rest) f) }

pub overflow_mul-line : goal.overflow_mul-line
overflow_mul-line c =
    let there : There c.args.array.now c.args.t.now.p c.lowest-j.result = line-there c.args.h c.args.array.now c.args.t.now.p c.lowest-j.result c.requires.keys_len.1.1.0 c.requires.keys_len.1.1.1.0
    c.requires.keys_len.1.1.1.1.0 c.lowest-j.ensures.1 in
    omega (arith, there.small)

pub overflow_add-line : goal.overflow_add-line
overflow_add-line c =
    let there : There c.args.array.now c.args.t.now.p c.lowest-j.result = line-there c.args.h c.args.array.now c.args.t.now.p c.lowest-j.result c.requires.keys_len.1.1.0 c.requires.keys_len.1.1.1.0
    c.requires.keys_len.1.1.1.1.0 c.lowest-j.ensures.1 in
    omega (arith, there.small)

pub put_line-requires : goal.put_line-requires
put_line-requires c =
    let there : There c.args.array.now c.args.t.now.p c.lowest-j.result = line-there c.args.h c.args.array.now c.args.t.now.p c.lowest-j.result c.requires.keys_len.1.1.0 c.requires.keys_len.1.1.1.0
    c.requires.keys_len.1.1.1.1.0 c.lowest-j.ensures.1 in (
      c.requires.keys_len.0,
      (
        omega (arith, there.small),
        (
          there.room,
          (c.requires.keys_len.1.1.1.1.1.0, (search rules, omega (arith, c.requires.rest_len_bound.1.1))),
        ),
      ),
    )

pub returns : goal.returns
returns c =
    let f = fresh_line c.args.family c.args.keys.now c.args.array.now c.args.t.now.p c.args.t.now.major c.args.t.now.minors.now in
    let k = closed-one c.args.h c.args.t.now.p c.args.block.now f c.args.allowance c.args.control.now c.args.n c.put_block.new.control c.put_block.ensures c.args.rest c.if-rest-eq0.false c.ranges.rest.fits
    c.requires.rest_len_bound.0 c.lowest-j.result c.lowest-j.ensures.0 c.put_line.new.control c.put_line.ensures in
    record { control_after = k.cells; value = k.number ∙ ap (λ (m : ℕ). c.args.n + suc m) (length-map (set_bits c.args.rest) f) }
