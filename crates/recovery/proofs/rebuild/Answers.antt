-- `recovery::rebuild` meets its contract. Assumes nothing.
use mathlib.Core.Path.{◌≡◌, refl, ap, ◌∙◌}
use Prim.Native.Nat.{ℕ}
use borrow.Author.Rules.{rules}
use lib.ListN.{take, drop}
use Rattle.std.proofs.Common.{Result, Err}
use Rattle.memory_map.specs.Map.{slots}
use Rattle.tag.specs.Tag.{node_tag}
use Rattle.control.specs.Control.{depth}
use Rattle.cache.specs.Cache.{current}
use Rattle.calls.specs.Call.{buffers}
use Rattle.calls.specs.Recovery.{rebuild_nodes, recover_rebuilt}
use Rattle.forwarding.specs.declared.Failed.{Failed}
use Rattle.forwarding.specs.Rebuild.{counted}
use Rattle.recovery.specs.Told.{told}
use Rattle.recovery.proofs.Ends.{sized-as, placed-as, at-depth, ends-differs, ends-done}
use Rattle.recovery.proofs.rebuild.Goals as goal
use Rattle.recovery.proofs.rebuild.Goals.{After-top_tag}

pub rebuild_counters-requires : goal.rebuild_counters-requires
rebuild_counters-requires c = (
  c.requires.keys_length,
  (c.requires.control_length, (sized-as _ c.depth-h.ensures _ _ _ c.requires.sized refl, placed-as _ c.depth-h.ensures _ c.requires.placed)),
)

pub returns-in_err-sum : goal.returns-in_err-sum
unfolding counted told recover_rebuilt
returns-in_err-sum c k l =
    let failed : c.from_residual.result ≡ Err c.in_err-sum.field-0.0 = search rules in
    ap (λ (r : Result ℕ Failed). told k (buffers c.args.array.now c.args.control.now l) r c.rebuild_counters.new.image) failed
    ∙ at-depth c.args.keys.now k (buffers c.args.array.now c.args.control.now l) c.args.owners c.args.image.now c.depth-h.ensures
    c.in_err-sum.ensures

pub rebuild_nodes-requires : goal.rebuild_nodes-requires
rebuild_nodes-requires c = (
  c.requires.keys_length,
  (
    sized-as _ c.depth-h.ensures _ _ _ c.requires.sized c.rebuild_counters.auto.image,
    placed-as _ c.depth-h.ensures _ c.requires.placed,
  ),
)

pub top_tag-requires : goal.top_tag-requires
top_tag-requires c = (
  c.requires.keys_length,
  sized-as _ c.depth-h.ensures _ _ _ c.requires.sized (c.rebuild_nodes.auto.image ∙ c.rebuild_counters.auto.image),
)

-- the nodes and the top's tag, at the depth that was read
nodes-as : (c : After-top_tag) → c.rebuild_nodes.new.image
    ≡ rebuild_nodes (depth c.args.control.now) c.args.keys.now c.args.array.now 4 (drop 4 (take (slots (depth c.args.control.now)) c.args.owners)) c.rebuild_counters.new.image
nodes-as c =
    c.rebuild_nodes.ensures
    ∙ ap (λ (n : ℕ). rebuild_nodes n c.args.keys.now c.args.array.now 4 (drop 4 (take (slots n) c.args.owners)) c.rebuild_counters.new.image)
    c.depth-h.ensures

tag-as : (c : After-top_tag) → let h = depth c.args.control.now in
    c.top_tag.result ≡ node_tag c.args.keys.now (current h c.args.array.now c.rebuild_nodes.new.image h 0) h 0
tag-as c =
    c.top_tag.ensures
    ∙ ap (λ (n : ℕ). node_tag c.args.keys.now (current n c.args.array.now c.rebuild_nodes.new.image n 0) n 0) c.depth-h.ensures

pub returns-then-top_tag-root : goal.returns-then-top_tag-root
unfolding counted told
returns-then-top_tag-root c k l =
    let at = goal.at.returns-then-top_tag-root c in
    ends-differs c.args.keys.now k (buffers c.args.array.now c.args.control.now l) _ c.rebuild_counters.new.image c.in_ok-sum.sum
    (nodes-as at.After-top_tag) (tag-as at.After-top_tag) c.root.ensures c.if-top_tag-root.true
    ∙ at-depth c.args.keys.now k (buffers c.args.array.now c.args.control.now l) c.args.owners c.args.image.now c.depth-h.ensures
    c.in_ok-sum.ensures

pub returns : goal.returns
unfolding counted told
returns c k l =
    let at = goal.at.returns c in
    ends-done c.args.keys.now k (buffers c.args.array.now c.args.control.now l) _ c.rebuild_counters.new.image c.in_ok-sum.sum
    (nodes-as at.After-top_tag) (tag-as at.After-top_tag) c.root.ensures c.if-top_tag-root.false refl
    ∙ at-depth c.args.keys.now k (buffers c.args.array.now c.args.control.now l) c.args.owners c.args.image.now c.depth-h.ensures
    c.in_ok-sum.ensures
