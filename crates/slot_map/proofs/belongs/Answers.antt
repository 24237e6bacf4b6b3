-- `slot_map::belongs` meets its contract. Assumes nothing.
use mathlib.Core.Path.{◌∙◌, ap}
use Prim.Native.Nat.{ℕ, ◌-◌}
use native.Mathlib.Omega.{arith}
use lib.Dec.{eqb}
use Rattle.memory_map.specs.Map.{nodes}
use Rattle.slot_map.specs.Slots.{slot_of}
use Rattle.slot_map.proofs.Laws.{belongs-empty, belongs-out, belongs-in, level-within}
use Rattle.slot_map.proofs.belongs.Goals as goal

pub returns-then-owner-eq0 : goal.returns-then-owner-eq0
returns-then-owner-eq0 c = belongs-empty c.args.h c.args.s c.args.owner c.if-owner-eq0.true

pub nodes-requires : goal.nodes-requires
nodes-requires c = omega (arith, c.level_of-l.ensures, level-within c.args.h c.args.s c.requires.1.1)

pub returns-then-nodes-owner : goal.returns-then-nodes-owner
returns-then-nodes-owner c =
    belongs-out c.args.h c.args.s c.args.owner c.nodes.result c.if-owner-eq0.false
    (c.nodes.ensures ∙ ap (nodes c.args.h) c.level_of-l.ensures) (omega (arith, c.if-nodes-owner.true))

pub slot_of-requires : goal.slot_of-requires
slot_of-requires c = omega (arith, c.level_of-l.ensures, level-within c.args.h c.args.s c.requires.1.1, c.requires)

pub returns : goal.returns
returns c =
    ap (λ (n : ℕ). eqb n c.args.s) (c.slot_of.ensures ∙ ap (λ (l : ℕ). slot_of l (c.args.owner - 1)) c.level_of-l.ensures)
    ∙ belongs-in c.args.h c.args.s c.args.owner c.nodes.result c.if-owner-eq0.false
    (c.nodes.ensures ∙ ap (nodes c.args.h) c.level_of-l.ensures) (omega (arith, c.if-nodes-owner.false))
