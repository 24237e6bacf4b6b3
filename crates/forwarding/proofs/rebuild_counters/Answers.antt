-- `forwarding::rebuild_counters` goes through the slots, and through the lines of each. Assumes nothing.
use mathlib.Core.Path.{◌≡◌, sym, ap, ap₂, ◌∙◌, subst}
use mathlib.Core.List.{List}
use Prim.Native.Nat.{ℕ, ◌+◌, ◌-◌, ◌*◌, ◌<◌}
use native.Mathlib.Omega.{arith}
use borrow.Author.Rules.{rules}
use lib.ListN.{length, get_or, take}
use Rattle.std.proofs.Common.{Option, None, Some}
use Rattle.words.proofs.Digits.{Below}
use Rattle.memory_map.specs.Map.{InMap}
use Rattle.memory_map.specs.Map.Item.{node}
use Rattle.memory_map.proofs.Laws.{index-small}
use Rattle.counter.proofs.Laws.{length-minors, below-minors}
use Rattle.answer.specs.Refusal.{number_of}
use Rattle.cache.specs.Cache.{cell_content}
use Rattle.cache.proofs.Laws.{cell-length, slot-room}
use Rattle.journal.specs.Journal.{Media, media}
use Rattle.node.proofs.Laws.{cell_room}
use Rattle.calls.specs.Recovery.{Forwarded, so_far, failed, to, line_step, rebuild_blocks}
use Rattle.forwarding.specs.declared.Failed.{Failed}
use Rattle.forwarding.specs.Rebuild.{source_is, as_step, counted}
use Rattle.forwarding.proofs.Forward.{forwarding-none, forwarding-next, forwarded-ge}
use Rattle.forwarding.proofs.Blocks.{rebuilding-empty, rebuilding-fails, rebuilding-next, rebuilding-same}
use Rattle.forwarding.proofs.Blocks.{blocks_end, placed-page, page-lines, few-slots}
use Rattle.forwarding.proofs.rebuild_counters.Goals as goal
use Rattle.forwarding.proofs.rebuild_counters.Goals.{Then-owner-ne0, After-in_cell-block, In-Ok, Left-slots}
use Rattle.forwarding.proofs.rebuild_counters.Goals.{then-owner-ne0+else-loop-j-test, else-owner-ne0, else-slots-test}
use Rattle.forwarding.proofs.rebuild_counters.Goals.{then-slots-test+then-owner-ne0+then-loop-j-test+in-Err}

-- the page of a filled slot is in the map
inside : (c : Then-owner-ne0) → InMap c.args.h (node 0 (get_or c.args.owners c.slots.s 0 - 1))
inside c = placed-page c.args.h c.args.owners c.requires.1.1.1 c.slots.s (omega arith) c.if-owner-ne0.true

-- its number is small
small : (c : Then-owner-ne0) → get_or c.args.owners c.slots.s 0 - 1 < 512
small c = index-small c.args.h 0 _ (inside c) c.requires.1.1.0.flat

-- its block is as long as a cell's content
full : (c : After-in_cell-block) → length c.in_cell-block.result.now ≡ 64
full c =
    ap length (c.in_cell-block.ensures ∙ ap (cell_content c.args.array.now) c.node_cell.ensures)
    ∙ cell-length c.args.h c.args.array.now _ c.requires.1.1.0.array
    (placed-page c.args.h c.args.owners c.requires.1.1.1 c.slots.s (omega arith) c.if-owner-ne0.true)

-- the step that a line makes
made : (c : In-Ok) → to c.in-Ok.new
    ≡ line_step (source_is c.family-family.result c.args.keys.now c.args.array.now c.major-major.result)
    (64 * (get_or c.args.owners c.slots.s 0 - 1) + c.loop-j.j) (get_or c.loop-j.minors c.loop-j.j 0)
unfolding as_step
made c = sym (ap as_step c.in-Ok.is) ∙ c.step.ensures

pub node_cell-requires : goal.node_cell-requires
node_cell-requires c =
    (c.requires.1.1.0.deep, (c.requires.1.1.0.flat, inside (goal.at.node_cell-requires c).Then-owner-ne0))

pub in_cell-block-requires : goal.in_cell-block-requires
in_cell-block-requires c =
    rw c.node_cell.ensures
    (cell_room _ c.args.array.now _ _ c.requires.1.1.0.array (inside (goal.at.in_cell-block-requires c).Then-owner-ne0))

pub major-major-requires : goal.major-major-requires
major-major-requires c = full (goal.at.major-major-requires c).After-in_cell-block

pub unpack-requires : goal.unpack-requires
unpack-requires c = (full (goal.at.unpack-requires c).After-in_cell-block, search rules)

pub loop-j-init : goal.loop-j-init
loop-j-init c = record {
  none = c.slots.invariant.none;
  forwarding = forwarding-none _ _ _ _ (ap length c.unpack.ensures ∙ length-minors _)
      (subst (λ (l : List ℕ). Below 128 l) (sym c.unpack.ensures) (below-minors _));
}

pub overflow_mul-page : goal.overflow_mul-page
overflow_mul-page c = omega (arith, small (goal.at.overflow_mul-page c).Then-owner-ne0)

pub overflow_add-page : goal.overflow_add-page
overflow_add-page c = omega (arith, small (goal.at.overflow_add-page c).Then-owner-ne0)

pub step-requires : goal.step-requires
step-requires c = (
  c.requires.0,
  (
    c.loop-j.invariant.forwarding.few.at c.loop-j.j,
    omega (arith, page-lines c.args.h c.args.array.now _ c.requires.1.1.0.array (inside (goal.at.step-requires c).Then-owner-ne0)),
  ),
)

pub overflow_sub-sum : goal.overflow_sub-sum
overflow_sub-sum c =
    omega (arith, forwarded-ge _ _ _ _ c.loop-j.invariant.forwarding (omega arith) (made (goal.at.overflow_sub-sum c).In-Ok))

pub overflow_mul-line : goal.overflow_mul-line
overflow_mul-line c = omega (arith, small (goal.at.overflow_mul-line c).Then-owner-ne0)

pub overflow_add-line : goal.overflow_add-line
overflow_add-line c = omega (arith, small (goal.at.overflow_add-line c).Then-owner-ne0)

pub loop-j-preserved : goal.loop-j-preserved
loop-j-preserved c = record {
  none = c.loop-j.invariant.none;
  forwarding = forwarding-next _ _ _ _ c.loop-j.invariant.forwarding (omega arith) (made (goal.at.loop-j-preserved c).In-Ok);
}

pub put_block-requires-clause-s_in_bounds : goal.put_block-requires-clause-s_in_bounds
put_block-requires-clause-s_in_bounds c = (
  slot-room c.args.h c.slots.s c.slots.image c.slots.invariant.rebuilding.full (few-slots c.args.h (omega arith)),
  c.loop-j.invariant.forwarding.size,
)

pub slots-preserved : goal.slots-preserved
slots-preserved c =
    let lent : Media = media c.args.array.now c.args.control.now in
    let ten : length c.args.owners ≡ 10 = search rules in
    elim c.if-owner-ne0.branch [
      | then-owner-ne0+else-loop-j-test w ↦ record {
        none = w.failed-is ∙ w.loop-j.invariant.none;
        rebuilding =
            rebuilding-same c.args.h c.args.keys.now lent c.args.owners
            (rebuilding-next c.args.h c.args.keys.now lent c.args.owners ten c.slots.invariant.rebuilding (omega arith) w.if-owner-ne0.true
            w.node_cell.ensures w.in_cell-block.ensures w.unpack.ensures w.major-major.ensures c.family-family.ensures
            w.loop-j.invariant.forwarding w.lines_read-j-end.ensures.value (omega arith) w.loop-j-test.false w.lines_read-j-end.ensures.few
            w.put_block.ensures w.put_block.auto.image)
            w.image-is w.sum-is;
      }
      | else-owner-ne0 w ↦ record {
        none = w.failed-is ∙ c.slots.invariant.none;
        rebuilding =
            rebuilding-same c.args.h c.args.keys.now lent c.args.owners
            (rebuilding-empty c.args.h c.args.keys.now lent c.args.owners ten c.slots.invariant.rebuilding (omega arith)
            w.if-owner-ne0.false)
            w.image-is w.sum-is;
      }
    ]

-- what is told of the slots, by the failure that is noted
told : Option Failed → ℕ → List ℕ → Forwarded
told None n c = so_far c n
told (Some f) n c = failed (number_of f.refusal) f.line

-- where the loops are left, nothing has failed, or the line that is noted
left : (c : Left-slots) → told c.slots-test.failed c.slots-test.sum c.slots.image
    ≡ rebuild_blocks c.args.h c.args.keys.now (media c.args.array.now c.args.control.now) 0 (take 4 c.args.owners) c.args.image.now 0
unfolding told as_step
left c =
    let lent : Media = media c.args.array.now c.args.control.now in
    let ten : length c.args.owners ≡ 10 = search rules in
    let page : ℕ = get_or c.args.owners c.slots.s 0 - 1 in
    elim c.slots-test.branch [
      | else-slots-test w ↦
          ap₂ {C = Forwarded} (λ (o : Option Failed) (n : ℕ). told o n c.slots.image) (w.failed-is ∙ c.slots.invariant.none) w.sum-is
          ∙ sym (c.slots.invariant.rebuilding.rest
          ∙ blocks_end c.args.h c.args.keys.now lent c.args.owners c.slots.s w.slots-test.false c.slots.image c.slots.sum)
      | then-slots-test+then-owner-ne0+then-loop-j-test+in-Err w ↦
          let noted : c.slots-test.failed ≡ Some (record { refusal = w.in-Err.refusal; line = 64 * page + w.loop-j.j }) = search arith in
          ap (λ (o : Option Failed). told o c.slots-test.sum c.slots.image) noted
          ∙ sym (rebuilding-fails c.args.h c.args.keys.now lent c.args.owners ten c.slots.invariant.rebuilding w.slots-test.true
          w.if-owner-ne0.true w.node_cell.ensures w.in_cell-block.ensures w.unpack.ensures w.major-major.ensures
          c.family-family.ensures w.loop-j.invariant.forwarding w.lines_read-j-end.ensures.value w.loop-j-test.true
          (sym (ap as_step w.in-Err.is) ∙ w.step.ensures))
    ]

pub returns-in-None : goal.returns-in-None
unfolding told counted
returns-in-None c =
    ap (λ (o : Option Failed). told o c.slots-test.sum c.slots.image) (sym c.in-None.is) ∙ left (goal.at.returns-in-None c).Left-slots

pub returns-in-Some : goal.returns-in-Some
unfolding told counted
returns-in-Some c =
    ap (λ (o : Option Failed). told o c.slots-test.sum c.slots.image) (sym c.in-Some.is) ∙ left (goal.at.returns-in-Some c).Left-slots
