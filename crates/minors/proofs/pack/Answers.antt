-- `minors::pack` writes the block, a group of minors at a time: each word begins with the byte that ended the last. Assumes nothing.
use Rattle.std.proofs.Common.{arith}
use Rattle.minors.proofs.Groups.{Packable, packed_lt, packed_none, packed-word, packed-next, packed_all}
use Rattle.minors.proofs.pack.Goals as goal

pub loop-g-init : goal.loop-g-init
loop-g-init c =
    let packable : Packable c.args.major c.args.minors.now = record { major = c.ranges.major.fits; count = c.requires.minors_len.0; digits = record { at = c.requires.by_index } } in
    packed_none packable c.args.out.now c.args.at (omega arith) c.store.ensures

pub overflow_add-word : goal.overflow_add-word
overflow_add-word c =
    let packable : Packable c.args.major c.args.minors.now = record { major = c.ranges.major.fits; count = c.requires.minors_len.0; digits = record { at = c.requires.by_index } } in
    omega (arith, packed_lt packable _ _ c.loop-g.invariant (omega arith))

pub loop-g-preserved : goal.loop-g-preserved
loop-g-preserved c =
    let packable : Packable c.args.major c.args.minors.now = record { major = c.ranges.major.fits; count = c.requires.minors_len.0; digits = record { at = c.requires.by_index } } in
    packed-next packable _ _ c.loop-g.invariant c.loop-g-test.true
    (packed-word packable _ _ c.loop-g.invariant c.loop-g-test.true c.group.ensures.0) c.store-in-loop-g.ensures
    (omega (arith, c.store.auto.s, c.requires))

pub returns : goal.returns
returns c =
    let packable : Packable c.args.major c.args.minors.now = record { major = c.ranges.major.fits; count = c.requires.minors_len.0; digits = record { at = c.requires.by_index } } in
    packed_all packable c.args.out.now c.args.at (omega arith) c.store.ensures (omega arith) c.loop-g.invariant
