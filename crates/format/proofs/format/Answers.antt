-- `format::format` meets its contract. Assumes nothing.
use mathlib.Core.Path.{refl, sym, ap, ◌∙◌}
use borrow.Author.Rules.{rules}
use lib.ListN.{length}
use Rattle.memory_map.proofs.Laws.{top-node}
use Rattle.cache.specs.Cache.{cell_content}
use Rattle.cache.proofs.Laws.{cell-length}
use Rattle.node.proofs.Laws.{cell_room}
use Rattle.calls.specs.Call.{buffers}
use Rattle.call_laws.proofs.Judged.{Formattable, format-accepted}
use Rattle.format.proofs.Laws.{refused, done, root-fresh, zeroed}
use Rattle.format.proofs.format.Goals as goal
use Rattle.format.proofs.format.Goals.{In_default, After-put_tree}

-- what is known of the inputs that are accepted
taken : (c : In_default) → Formattable c.args.keys.now c.args.depth c.args.family (buffers c.args.array.now c.args.control.now c.args.cache.now)
taken c = format-accepted _ _ _ _ (sym c.in_default.ensures)

pub returns-in-Err : goal.returns-in-Err
returns-in-Err c = refused _ _ _ _ c.in-Err.refusal refl c.in-Err.ensures c.into.ensures

pub put_tree-requires : goal.put_tree-requires
put_tree-requires c =
    let ok = taken (goal.at.put_tree-requires c).In_default in (
      record { deep = ok.low; flat = ok.high; keys_length = ok.keys_length; array = c.fill.auto.self ∙ ok.fits.array },
      zeroed ok.fits.array (c.fill.ensures.after (search rules)),
    )

pub node_cell-requires : goal.node_cell-requires
node_cell-requires c =
    let ok = taken (goal.at.node_cell-requires c).In_default in
    (ok.low, (ok.high, top-node c.args.depth))

pub in_cell-top-requires : goal.in_cell-top-requires
in_cell-top-requires c =
    let ok = taken (goal.at.in_cell-top-requires c).In_default in
    rw c.node_cell.ensures
    (cell_room _ c.put_tree.new.array _ _ (c.put_tree.auto.array ∙ c.fill.auto.self ∙ ok.fits.array) (top-node c.args.depth))

pub node_tag-root-requires : goal.node_tag-root-requires
node_tag-root-requires c =
    let ok = taken (goal.at.node_tag-root-requires c).In_default in (
      ok.keys_length,
      ap length (c.in_cell-top.ensures ∙ ap (cell_content c.put_tree.new.array) c.node_cell.ensures)
          ∙ cell-length c.args.depth c.put_tree.new.array _ (c.put_tree.auto.array ∙ c.fill.auto.self ∙ ok.fits.array) (top-node c.args.depth),
    )

pub put_control-requires : goal.put_control-requires
put_control-requires c = let ok = taken (goal.at.put_control-requires c).In_default in (ok.high, ok.control_length)

pub returns : goal.returns
returns c =
    let ok = taken (goal.at.returns c).In_default in
    let root = root-fresh c.args.keys.now c.args.depth c.put_tree.ensures c.node_cell.ensures c.in_cell-top.ensures in
    done c.args.keys.now c.args.depth c.args.family _ c.in_default.ensures c.put_tree.ensures
    c.put_control.ensures (root c.node_tag-root.ensures)
    (zeroed ok.fits.cache (c.fill-2.ensures.after (search rules)))
