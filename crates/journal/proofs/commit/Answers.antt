-- `journal::commit` meets its contract. Assumes nothing.
use mathlib.Core.Path.{ap, ◌∙◌}
use mathlib.Core.List.{List}
use Prim.Native.Nat.{ℕ}
use native.Mathlib.Omega.{arith}
use lib.ListN.{set}
use Rattle.journal.proofs.Steps.{commit-put}
use Rattle.journal.proofs.commit.Goals as goal

pub returns : goal.returns
returns c =
    ap (λ (l : List ℕ). set l 15 c.args.n) c.store.ensures
    ∙ commit-put c.args.control.now c.args.n c.args.root (omega arith)
