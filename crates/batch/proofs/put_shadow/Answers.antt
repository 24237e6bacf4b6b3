-- `batch::put_shadow` meets its contract. Assumes nothing.
use mathlib.Core.Path.{ap, ◌∙◌}
use mathlib.Core.List.{List}
use Prim.Native.Nat.{ℕ, ◌+◌}
use native.Mathlib.Omega.{arith}
use lib.ListN.{replicate}
use Rattle.words.specs.Bytes.{to_le, put}
use Rattle.control.specs.Control.{place_at}
use Rattle.batch.specs.Batch.{shadow_for}
use Rattle.batch.proofs.Laws.{staged-past, shadow-put}
use Rattle.batch.proofs.put_shadow.Goals as goal

pub returns-then-n-allowance : goal.returns-then-n-allowance
returns-then-n-allowance c =
    c.zero.ensures
    ∙ ap (λ (x : List ℕ). put x (place_at c.args.n + 16) (replicate 64 0))
    (c.store-then-n-allowance.ensures ∙ ap (λ (x : List ℕ). put x (place_at c.args.n + 8) (to_le 8 c.args.owner)) c.store.ensures)
    ∙ shadow-put c.args.control.now c.args.n c.args.allowance c.args.number (omega (arith, c.requires.0, c.requires.1)) c.if-n-allowance.true
    c.args.owner

pub returns-else-n-allowance : goal.returns-else-n-allowance
returns-else-n-allowance c = staged-past c.args.control.now c.args.n c.args.allowance (shadow_for c.args.number c.args.owner) (omega (arith, c.if-n-allowance.false))
