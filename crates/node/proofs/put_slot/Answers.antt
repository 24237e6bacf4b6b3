-- `node::put_slot` meets its contract. Assumes nothing.
use mathlib.Core.Path.{ap, ◌∙◌}
use mathlib.Core.List.{List}
use Prim.Native.Nat.{ℕ, ◌+◌, ◌*◌}
use native.Mathlib.Omega.{arith}
use lib.ListN.{set, length-set}
use Rattle.words.specs.Bytes.{part, put}
use Rattle.node.proofs.Laws.{slot-put}
use Rattle.node.proofs.put_slot.Goals as goal

pub copy-requires : goal.copy-requires
copy-requires c = simp length-set (omega arith)

pub returns : goal.returns
returns c =
    c.copy.ensures
    ∙ ap (λ (x : List ℕ). put (set x (73 * c.args.s + 8) c.args.dirty) (73 * c.args.s + 9) (part c.args.content.now 0 64)) c.store.ensures
    ∙ slot-put c.args.cache.now c.args.s c.args.owner c.args.dirty c.args.content.now c.requires.0 c.requires.1
