-- `turn_store::run_batches` meets its contract. Assumes nothing.
use mathlib.Core.Path.{ap, ◌∙◌}
use Prim.Native.Nat.{◌≤◌, ◌<◌}
use native.Mathlib.Omega.{arith}
use borrow.Author.Tests.{le-leb, lt-leb}
use lib.ListN.{length}
use Rattle.bits.specs.Bits.{set_bits}
use Rattle.turn_block.proofs.Laws.{length-turned}
use Rattle.turn_batch.proofs.Laws.{line-there}
use Rattle.turn_store.proofs.Turning.{begins, turning-none, some_bits, line-runs, turning-more}
use Rattle.turn_store.proofs.Turning.{minors-size, last_runs, turned-makes}
use Rattle.turn_store.proofs.run_batches.Goals as goal

pub loop-j-init : goal.loop-j-init
loop-j-init c = λ k g. turning-none _ c.args.keys.now _ g

pub lowest-j-requires : goal.lowest-j-requires
lowest-j-requires c =
    let several : 2 ≤ length (set_bits c.loop-j.rest) = omega (arith, c.remaining.ensures, c.loop-j-test.true) in
    some_bits _ (omega (arith, several))

pub overflow_mul-line : goal.overflow_mul-line
overflow_mul-line c =
    let begins = begins c.requires.keys_len.1 (record { at = λ i. (c.slice_known-2-1.given i).fits })
    (record { at = λ i. (c.slice_known-1.given i).fits }) (record { at = λ i. (c.type_inv.cache i).fits })
    c.put_front-held.ensures.control_after c.put_front-held.ensures.value c.put_front-held.auto.control in
    let turning = c.loop-j.invariant c.args.control.now begins in
    let there = line-there c.args.h c.loop-j.array c.args.t.now.p c.lowest-j.result c.requires.keys_len.1.sized.flat
    turning.formed.array-length c.requires.keys_len.1.page c.lowest-j.ensures.1 in
    omega (arith, there.small)

pub overflow_add-line : goal.overflow_add-line
overflow_add-line c =
    let begins = begins c.requires.keys_len.1 (record { at = λ i. (c.slice_known-2-1.given i).fits })
    (record { at = λ i. (c.slice_known-1.given i).fits }) (record { at = λ i. (c.type_inv.cache i).fits })
    c.put_front-held.ensures.control_after c.put_front-held.ensures.value c.put_front-held.auto.control in
    let turning = c.loop-j.invariant c.args.control.now begins in
    let there = line-there c.args.h c.loop-j.array c.args.t.now.p c.lowest-j.result c.requires.keys_len.1.sized.flat
    turning.formed.array-length c.requires.keys_len.1.page c.lowest-j.ensures.1 in
    omega (arith, there.small)

pub bounds-t-j : goal.bounds-t-j
bounds-t-j c = omega (arith, c.lowest-j.ensures.1, minors-size c.requires.keys_len.1)

pub put_line-requires : goal.put_line-requires
put_line-requires c =
    let begins = begins c.requires.keys_len.1 (record { at = λ i. (c.slice_known-2-1.given i).fits })
    (record { at = λ i. (c.slice_known-1.given i).fits }) (record { at = λ i. (c.type_inv.cache i).fits })
    c.put_front-held.ensures.control_after c.put_front-held.ensures.value c.put_front-held.auto.control in
    let turning = c.loop-j.invariant c.args.control.now begins in
    let there = line-there c.args.h c.loop-j.array c.args.t.now.p c.lowest-j.result c.requires.keys_len.1.sized.flat
    turning.formed.array-length c.requires.keys_len.1.page c.lowest-j.ensures.1 in
    let t = turning in (
      c.requires.keys_len.0,
      (
        omega (arith, there.small),
        (there.room, (c.requires.keys_len.1.next, (t.size, omega (arith, t.number, t.few, c.requires.keys_len.1.sized.flat)))),
      ),
    )

pub without_lowest-next-requires : goal.without_lowest-next-requires
without_lowest-next-requires c =
    let several : 2 ≤ length (set_bits c.loop-j.rest) = omega (arith, c.remaining.ensures, c.loop-j-test.true) in
    some_bits _ (omega (arith, several))

pub run_turn-left-requires : goal.run_turn-left-requires
run_turn-left-requires c =
    let begins = begins c.requires.keys_len.1 (record { at = λ i. (c.slice_known-2-1.given i).fits })
    (record { at = λ i. (c.slice_known-1.given i).fits }) (record { at = λ i. (c.type_inv.cache i).fits })
    c.put_front-held.ensures.control_after c.put_front-held.ensures.value c.put_front-held.auto.control in
    let turning = c.loop-j.invariant c.args.control.now begins in
    let several : 2 ≤ length (set_bits c.loop-j.rest) = omega (arith, c.remaining.ensures, c.loop-j-test.true) in
    let line = line-runs _ c.args.keys.now _ begins turning several c.lowest-j.ensures.0
    c.lowest-j.ensures.1 c.without_lowest-next.ensures c.without_lowest-next.type_inv c.put_line.ensures in
    let s = line in (
      c.put_line.auto.control ∙ turning.size,
      ((s.some, s.few), s.inside),
    )

pub loop-j-preserved : goal.loop-j-preserved
loop-j-preserved c =
    let several : 2 ≤ length (set_bits c.loop-j.rest) = omega (arith, c.remaining.ensures, c.loop-j-test.true) in
    λ k g. turning-more _ c.args.keys.now _ g (c.loop-j.invariant k g) several c.lowest-j.ensures.0
    c.lowest-j.ensures.1 c.without_lowest-next.ensures c.without_lowest-next.type_inv
    c.put_line.ensures
    (record { left = c.run_turn-left.ensures.control_after; number = c.run_turn-left.ensures.value })

pub put_last-n-requires : goal.put_last-n-requires
put_last-n-requires c =
    let begins = begins c.requires.keys_len.1 (record { at = λ i. (c.slice_known-2-1.given i).fits })
    (record { at = λ i. (c.slice_known-1.given i).fits }) (record { at = λ i. (c.type_inv.cache i).fits })
    c.put_front-held.ensures.control_after c.put_front-held.ensures.value c.put_front-held.auto.control in
    let turning = c.loop-j.invariant c.args.control.now begins in
    let few-left : length (set_bits c.loop-j.rest) < 2 = omega (arith, c.remaining.ensures, c.loop-j-test.false) in
    let t = turning in
    record {
      keys_len = (
        c.requires.keys_len.0,
        (
          c.requires.keys_len.1.sized.deep,
          (
            c.requires.keys_len.1.sized.flat,
            (
              t.formed.array-length,
              (
                c.requires.keys_len.1.page,
                (
                  c.requires.keys_len.1.next,
                  (minors-size c.requires.keys_len.1, ap length c.requires.block_value.0 ∙ length-turned _),
                ),
              ),
            ),
          ),
        ),
      );
      rest_len_bound = (few-left, (t.size, omega (arith, t.number, t.lean few-left, c.requires.keys_len.1.sized.flat)));
    }

pub run_turn-made-requires : goal.run_turn-made-requires
run_turn-made-requires c =
    let begins = begins c.requires.keys_len.1 (record { at = λ i. (c.slice_known-2-1.given i).fits })
    (record { at = λ i. (c.slice_known-1.given i).fits }) (record { at = λ i. (c.type_inv.cache i).fits })
    c.put_front-held.ensures.control_after c.put_front-held.ensures.value c.put_front-held.auto.control in
    let turning = c.loop-j.invariant c.args.control.now begins in
    let few-left : length (set_bits c.loop-j.rest) < 2 = omega (arith, c.remaining.ensures, c.loop-j-test.false) in
    let last = last_runs _ c.args.keys.now _ begins turning few-left c.requires.block_value.0
    c.put_last-n.ensures.control_after c.put_last-n.ensures.value in
    let s = last in (
      c.put_last-n.auto.control ∙ turning.size,
      ((s.some, s.few), s.inside),
    )

pub returns-then-made-n : goal.returns-then-made-n
returns-then-made-n c =
    let begins = begins c.requires.keys_len.1 (record { at = λ i. (c.slice_known-2-1.given i).fits })
    (record { at = λ i. (c.slice_known-1.given i).fits }) (record { at = λ i. (c.type_inv.cache i).fits })
    c.put_front-held.ensures.control_after c.put_front-held.ensures.value c.put_front-held.auto.control in
    let turning = c.loop-j.invariant c.args.control.now begins in
    let few-left : length (set_bits c.loop-j.rest) < 2 = omega (arith, c.remaining.ensures, c.loop-j-test.false) in
    turned-makes _ c.args.keys.now _ begins turning few-left c.requires.block_value.0
    c.put_last-n.ensures.control_after c.put_last-n.ensures.value c.requires.block_value.1
    (record { left = c.run_turn-made.ensures.control_after; number = c.run_turn-made.ensures.value })
    c.family-family.ensures c.root-old.ensures (lt-leb _ _ (omega (arith, c.if-made-n.true)))

pub returns : goal.returns
returns c =
    let begins = begins c.requires.keys_len.1 (record { at = λ i. (c.slice_known-2-1.given i).fits })
    (record { at = λ i. (c.slice_known-1.given i).fits }) (record { at = λ i. (c.type_inv.cache i).fits })
    c.put_front-held.ensures.control_after c.put_front-held.ensures.value c.put_front-held.auto.control in
    let turning = c.loop-j.invariant c.args.control.now begins in
    let few-left : length (set_bits c.loop-j.rest) < 2 = omega (arith, c.remaining.ensures, c.loop-j-test.false) in
    turned-makes _ c.args.keys.now _ begins turning few-left c.requires.block_value.0
    c.put_last-n.ensures.control_after c.put_last-n.ensures.value c.requires.block_value.1
    (record { left = c.run_turn-made.ensures.control_after; number = c.run_turn-made.ensures.value })
    c.family-family.ensures c.root-old.ensures (le-leb _ _ (omega (arith, c.if-made-n.false)))
