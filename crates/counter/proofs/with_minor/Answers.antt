-- `counter::with_minor` writes the block, and over it one word with v for minor j. Assumes nothing.
use mathlib.Core.Path.{ap, ◌∙◌}
use mathlib.Core.List.{List}
use Prim.Native.Nat.{ℕ, ◌+◌, ◌*◌, ◌/◌}
use native.Mathlib.Omega.{arith}
use Rattle.words.specs.Bytes.{to_le, put}
use Rattle.words.proofs.Parts.{copy-all}
use Rattle.counter.proofs.Fields.{clear-le, replace-lt}
use Rattle.counter.proofs.Laws.{exchanged, put-minor}
use Rattle.counter.proofs.with_minor.Goals as goal

pub overflow_sub-w : goal.overflow_sub-w
overflow_sub-w c = clear-le 64 _ _ c.load-w.result (omega (arith, c))

pub overflow_add-w : goal.overflow_add-w
overflow_add-w c = record { fits = replace-lt 64 7 _ c.load-w.result (omega arith) (omega arith) _ (omega arith) }

pub returns : goal.returns
returns c =
    c.store.ensures
    ∙ ap (λ (l : List ℕ). put l (7 + c.args.j / 8 * 7) (to_le 8 (exchanged c.load-w.result c.args.j c.args.v)))
    (c.copy.ensures
    ∙ copy-all 64 c.args.out.now c.args.block.now c.requires.1.0 c.requires.0)
    ∙ put-minor c.args.block.now c.args.j c.args.v c.load-w.result c.requires.0
    (record { at = λ i. (c.type_inv.block i).fits })
    c.requires.1.1.0 c.requires.1.1.1 (omega arith) c.load-w.ensures
