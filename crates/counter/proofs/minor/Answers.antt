-- `counter::minor` is minor j of the block, read out of one word. Assumes nothing.
use mathlib.Core.Path.{◌∙◌, ap}
use Prim.Native.Nat.{ℕ, ◌+◌, ◌*◌, ◌/◌, ◌%◌, ◌^◌}
use Rattle.counter.proofs.Laws.{minor-word}
use Rattle.counter.proofs.minor.Goals as goal

pub returns : goal.returns
returns c =
    ap (λ (w : ℕ). w / 2 ^ (8 + c.args.j % 8 * 7) % 128) c.load-w.ensures
    ∙ minor-word c.args.block.now c.args.j (record { at = λ i. (c.type_inv.block i).fits }) c.requires.1
