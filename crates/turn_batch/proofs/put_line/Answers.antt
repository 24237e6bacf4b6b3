-- `turn_batch::put_line` meets its contract. Assumes nothing.
use mathlib.Core.Path.{ap, ap₂, ◌∙◌}
use mathlib.Core.List.{List}
use Prim.Native.Nat.{ℕ, ◌*◌}
use native.Mathlib.Numerals.{add-one}
use native.Mathlib.Omega.{arith}
use borrow.Author.Rules.{rules}
use lib.ListN.{length}
use Rattle.words.proofs.Parts.{length_part}
use Rattle.pad.specs.Pad.{pad, xor_bytes}
use Rattle.batch.specs.Batch.{staged}
use Rattle.batch.proofs.Laws.{staged-past}
use Rattle.cache.specs.Cache.{cell_content}
use Rattle.calls.specs.Write.{line_cell}
use Rattle.turn_batch.specs.Fresh.{fresh_cell}
use Rattle.turn_batch.proofs.put_line.Goals as goal

pub apply-requires : goal.apply-requires
unfolding cell_content
apply-requires c = (
  c.requires.0,
  (
    ap length c.in_cell-content.ensures ∙ length_part c.args.array.now (72 * c.args.line) 64 (omega (arith, c.requires.1.1.0)),
    search rules,
  ),
)

pub returns-then-n-allowance : goal.returns-then-n-allowance
unfolding fresh_cell
returns-then-n-allowance c =
    c.put_data.ensures
    ∙ ap₂ {C = List ℕ} (λ (text : List ℕ) (ma : ℕ).
    staged c.args.allowance c.args.n (line_cell c.args.family c.args.keys.now c.args.line text ma 1) c.args.control.now)
    (c.apply.ensures
    ∙ ap (λ (m : ℕ). xor_bytes c.in_cell-content.result.now (pad c.args.keys.now c.args.line c.args.major m)) c.from.ensures
    ∙ ap (λ (b : List ℕ). xor_bytes b (pad c.args.keys.now c.args.line c.args.major c.args.minor)) c.in_cell-content.ensures)
    (add-one c.args.major)

pub returns-else-n-allowance : goal.returns-else-n-allowance
returns-else-n-allowance c =
    staged-past c.args.control.now c.args.n c.args.allowance
    (fresh_cell c.args.family c.args.keys.now c.args.array.now c.args.line c.args.major c.args.minor) (omega (arith, c.if-n-allowance.false))
