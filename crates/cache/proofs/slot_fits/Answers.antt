-- `cache::slot_fits` meets its contract. Assumes nothing.
use mathlib.Core.Path.{ap, ◌∙◌}
use Prim.Native.Nat.{ℕ}
use lib.Dec.{eqb}
use Rattle.cache.proofs.Levels.{fits-empty, fits-flag, fits-past, fits-slot}
use Rattle.cache.proofs.slot_fits.Goals as goal

pub returns-then-o-eq0 : goal.returns-then-o-eq0
returns-then-o-eq0 c =
    fits-empty c.args.l c.args.nodes c.args.cache.now c.args.s c.owner-o.result c.dirty-d.result
    c.owner-o.ensures
    c.dirty-d.ensures c.if-o-eq0.true

pub returns-then-d-gt1 : goal.returns-then-d-gt1
returns-then-d-gt1 c =
    fits-flag c.args.l c.args.nodes c.args.cache.now c.args.s c.owner-o.result c.dirty-d.result c.owner-o.ensures
    c.dirty-d.ensures c.if-o-eq0.false c.if-d-gt1.true

pub returns-then-nodes-o : goal.returns-then-nodes-o
returns-then-nodes-o c =
    fits-past c.args.l c.args.nodes c.args.cache.now c.args.s c.owner-o.result c.dirty-d.result c.owner-o.ensures
    c.dirty-d.ensures c.if-o-eq0.false c.if-d-gt1.false c.if-nodes-o.true

pub returns : goal.returns
returns c =
    ap (λ (k : ℕ). eqb k c.args.s) c.slot_of.ensures
    ∙ fits-slot c.args.l c.args.nodes c.args.cache.now c.args.s c.owner-o.result c.dirty-d.result c.owner-o.ensures
    c.dirty-d.ensures c.if-o-eq0.false c.if-d-gt1.false c.if-nodes-o.false
