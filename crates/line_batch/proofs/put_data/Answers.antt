-- `line_batch::put_data` meets its contract. Assumes nothing.
use mathlib.Core.Path.{◌≡◌, refl, ap, ap₂, ◌∙◌}
use mathlib.Core.List.{List}
use Prim.Native.Nat.{ℕ, ◌+◌, ◌-◌}
use native.Mathlib.Omega.{arith}
use lib.ListN.{length}
use Rattle.words.specs.Bytes.{put}
use Rattle.words.proofs.Puts.{part-put}
use Rattle.control.specs.Control.{place_at}
use Rattle.batch.proofs.Laws.{staged-past}
use Rattle.calls.specs.Write.{line_cell}
use Rattle.call_laws.proofs.Line.{line-cell-length}
use Rattle.line_batch.proofs.Laws.{line-put}
use Rattle.line_batch.proofs.put_data.Goals as goal

pub returns-then-n-allowance : goal.returns-then-n-allowance
unfolding line_cell
returns-then-n-allowance c =
    let x = line_cell c.args.family c.args.keys.now c.args.line c.args.text.now c.args.major c.args.minor in
    let full = line-cell-length c.args.family c.args.keys.now c.args.line c.args.text.now c.args.major c.args.minor c.requires.1.1.0 in
    let wide : 72 ≡ place_at c.args.n + 80 - (place_at c.args.n + 8) = omega arith in
    part-put c.store.new.s (place_at c.args.n + 8) c.seal.new.cell
    (place_at c.args.n + 80 - (place_at c.args.n + 8)) (ap length c.seal.ensures ∙ full ∙ wide)
    ∙ ap₂ {C = List ℕ} (λ (k b : List ℕ). put k (place_at c.args.n + 8) b) c.store.ensures c.seal.ensures
    ∙ line-put c.args.control.now c.args.n c.args.allowance x c.requires.1.1.1.1.0 c.requires.1.1.1.1.1 c.if-n-allowance.true full
    (place_at c.args.n) refl

pub returns-else-n-allowance : goal.returns-else-n-allowance
returns-else-n-allowance c =
    staged-past c.args.control.now c.args.n c.args.allowance (line_cell c.args.family c.args.keys.now c.args.line c.args.text.now c.args.major c.args.minor)
    (omega (arith, c.if-n-allowance.false))
