-- `number_text::spell` meets its contract. Assumes nothing.
use mathlib.Core.Path.{◌≡◌, ◌∙◌}
use Prim.Native.Nat.{◌≤◌, ◌<◌}
use native.Mathlib.Omega.{arith}
use lib.ListN.{length, length-set}
use Rattle.number_text.proofs.Spelled.{spelled-first, digit-next, digit-last, digit_room}
use Rattle.number_text.proofs.spell.Goals as goal

pub loop-x-init : goal.loop-x-init
loop-x-init c =
    let size : length c.args.s.now ≡ 20 = c.requires in
    let all : length c.args.s.now ≤ 20 = omega arith in
    (omega arith, (omega arith, (spelled-first c.args.n c.args.s.now all, size)))

pub overflow_sub-i : goal.overflow_sub-i
overflow_sub-i c = omega (arith, (digit_room c.loop-x.i c.loop-x.x (omega arith) c.loop-x.invariant.1.0).0)

pub loop-x-smaller : goal.loop-x-smaller
loop-x-smaller c = omega (arith, (digit_room c.loop-x.i c.loop-x.x (omega arith) c.loop-x.invariant.1.0).0)

pub loop-x-preserved : goal.loop-x-preserved
loop-x-preserved c =
    let more : 10 ≤ c.loop-x.x = omega arith in
    let inside : c.loop-x.i < length c.loop-x.s = omega arith in
    let room = digit_room c.loop-x.i c.loop-x.x more c.loop-x.invariant.1.0 in (
      omega arith,
      (
        room.1,
        (
          digit-next c.loop-x.i c.loop-x.x c.loop-x.s inside more room.0 ∙ c.loop-x.invariant.1.1.0,
          simp length-set c.loop-x.invariant.1.1.1,
        ),
      ),
    )

pub returns : goal.returns
returns c =
    let inside : c.loop-x.i < length c.loop-x.s = omega arith in
    (c.loop-x.invariant.0, digit-last c.loop-x.i c.loop-x.x c.loop-x.s inside (omega arith) ∙ c.loop-x.invariant.1.1.0)
