-- `forwarding::put_block` meets its contract. Assumes nothing.
use mathlib.Core.Path.{ap, ◌∙◌}
use mathlib.Core.List.{List}
use Prim.Native.Nat.{ℕ, ◌+◌, ◌*◌}
use native.Mathlib.Omega.{arith}
use lib.ListN.{set, length-set}
use Rattle.words.specs.Bytes.{put}
use Rattle.counter.specs.Counter.{counter_block}
use Rattle.forwarding.proofs.Blocks.{block-put}
use Rattle.forwarding.proofs.put_block.Goals as goal

pub pack-requires : goal.pack-requires
pack-requires c = record { minors_len = (c.requires.s_in_bounds.1, simp length-set (omega arith)); by_index = c.requires.by_index }

pub returns : goal.returns
returns c =
    let block = counter_block c.args.major c.args.minors.now in
    c.pack.ensures
    ∙ ap (λ (x : List ℕ). put (set x (73 * c.args.s + 8) _) (73 * c.args.s + 9) block) c.store.ensures
    ∙ block-put c.args.image.now c.args.s c.args.owner _ c.args.major c.args.minors.now c.requires.s_in_bounds.0
