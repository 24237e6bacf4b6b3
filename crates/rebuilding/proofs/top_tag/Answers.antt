-- `rebuilding::top_tag` meets its contract. Assumes nothing.
use mathlib.Core.Path.{ap, ◌∙◌}
use mathlib.Core.List.{List}
use Prim.Native.Nat.{ℕ}
use lib.ListN.{length}
use Rattle.memory_map.proofs.Laws.{top-node}
use Rattle.tag.specs.Tag.{node_tag}
use Rattle.node.proofs.Laws.{current-length}
use Rattle.rebuilding.proofs.top_tag.Goals as goal

pub current-requires : goal.current-requires
current-requires c = (c.requires.1, top-node c.args.h)

pub node_tag-requires : goal.node_tag-requires
node_tag-requires c = (c.requires.0, ap length c.current.ensures ∙ current-length c.args.h 0 c.requires.1 (top-node c.args.h))

pub returns : goal.returns
returns c = c.node_tag.ensures ∙ ap (λ (b : List ℕ). node_tag c.args.keys.now b c.args.h 0) c.current.ensures
