-- `renewal::path_tags` meets its contract. Assumes nothing.
use mathlib.Core.Path.{refl, ap, ◌∙◌}
use Prim.Native.Nat.{◌+◌}
use native.Mathlib.Omega.{arith}
use lib.ListN.{length, replicate}
use Rattle.node.proofs.Laws.{current-length}
use Rattle.renewal.proofs.Tagging.{path-inside, tagging-first, tagging-next}
use Rattle.renewal.proofs.path_tags.Goals as goal

pub loop-l-init : goal.loop-l-init
loop-l-init c =
    tagging-first c.args.h c.requires.1.0.flat c.args.keys.now c.args.array.now c.args.cache.now c.args.p c.args.block.now (replicate 4 0)
    c.node_tag-tag.result refl c.node_tag-tag.ensures

pub current-parent-requires : goal.current-parent-requires
current-parent-requires c = (c.requires.1.0, path-inside c.requires.1.1.0 (omega arith) c.on_path-i.ensures)

pub changed_tag-tag-requires : goal.changed_tag-tag-requires
changed_tag-tag-requires c =
    let inside = path-inside {l = c.loop-l.l + 1} c.requires.1.1.0 (omega arith) c.on_path-i.ensures in
    (c.requires.0, (ap length c.current-parent.ensures ∙ current-length _ _ c.requires.1.0 inside, omega arith))

pub loop-l-preserved : goal.loop-l-preserved
loop-l-preserved c =
    tagging-next c.args.h c.requires.1.0.flat c.args.keys.now c.args.array.now c.args.cache.now c.args.p c.args.block.now c.loop-l.invariant
    c.loop-l-test.true
    c.child_place-child.result c.on_path-i.result c.changed_tag-tag.result c.current-parent.result.now
    c.child_place-child.ensures c.on_path-i.ensures
    c.current-parent.ensures c.changed_tag-tag.ensures
