-- `batch::put_cell` meets its contract. Assumes nothing.
use mathlib.Core.Path.{ap, ◌∙◌}
use mathlib.Core.List.{List}
use Prim.Native.Nat.{ℕ, ◌+◌}
use native.Mathlib.Omega.{arith}
use Rattle.words.specs.Bytes.{to_le, part, put}
use Rattle.control.specs.Control.{place_at}
use Rattle.batch.specs.Batch.{cell_with}
use Rattle.batch.proofs.Laws.{staged-past, cell-put}
use Rattle.batch.proofs.put_cell.Goals as goal

pub returns-then-n-allowance : goal.returns-then-n-allowance
returns-then-n-allowance c =
    c.store-then-n-allowance.ensures
    ∙ ap (λ (x : List ℕ). put x (place_at c.args.n + 72) (to_le 8 c.args.side))
    (c.copy.ensures ∙ ap (λ (x : List ℕ). put x (place_at c.args.n + 8) (part c.args.content.now 0 64)) c.store.ensures)
    ∙ cell-put c.args.control.now c.args.n c.args.allowance c.args.number (omega (arith, c.requires.0, c.requires.1.0)) c.if-n-allowance.true
    c.args.content.now c.args.side c.requires.1.1

pub returns-else-n-allowance : goal.returns-else-n-allowance
returns-else-n-allowance c = staged-past c.args.control.now c.args.n c.args.allowance (cell_with c.args.number c.args.content.now c.args.side) (omega (arith, c.if-n-allowance.false))
