-- `journal::run_turn` meets its contract. Assumes nothing.
use mathlib.Core.Path.{ap, ◌∙◌, subst}
use mathlib.Core.List.{List}
use Prim.Native.Nat.{ℕ, ◌/◌, ◌≤◌}
use native.Mathlib.Omega.{arith}
use lib.ListN.{length}
use Rattle.control.specs.Control.{turn_bytes, place_at, places, in_map}
use Rattle.journal.specs.Journal.{media}
use Rattle.journal.proofs.Steps.{Ran, run-part}
use Rattle.journal.proofs.Turns.{ran-set, ran-short, turn-places}
use Rattle.journal.proofs.run_turn.Goals as goal

pub returns-then-allowance-cells : goal.returns-then-allowance-cells
returns-then-allowance-cells c =
    let short : c.args.allowance ≤ c.args.n = omega (arith, c.if-allowance-cells.true) in
    let ran =
    ran-short c.args.array.now c.args.control.now c.args.n c.args.root (turn_bytes c.args.count c.args.page c.args.mask) c.args.allowance c.requires.0
    c.requires.1.0.1 _ _ short (run-part c.args.array.now c.args.control.now c.args.n c.args.root c.args.allowance short) in
    record { control_after = ran.left; value = ran.number }

pub run-requires : goal.run-requires
run-requires c = (
  c.put_turn.auto.control ∙ c.requires.0,
  (
    c.requires.1.0,
    λ h. ap (in_map (length c.args.array.now / 72)) (ap (λ (k : List ℕ). places k (place_at 0) c.args.n) c.put_turn.ensures
        ∙ turn-places c.args.control.now (turn_bytes c.args.count c.args.page c.args.mask) c.args.n c.requires.0 c.requires.1.0.1)
        ∙ c.requires.1.1 (omega (arith, c.if-allowance-cells.false)),
  ),
)

pub returns : goal.returns
returns c =
    let bytes = turn_bytes c.args.count c.args.page c.args.mask in
    let after = media c.run.new.array c.run.new.control in
    let ran =
    ran-set c.args.array.now c.args.control.now c.args.n c.args.root bytes c.args.allowance c.requires.0
    c.requires.1.0.1 after c.run.result c.if-allowance-cells.false
    (subst (λ (k : List ℕ). Ran c.args.array.now k c.args.n c.args.root c.args.allowance after c.run.result) c.put_turn.ensures
    (record { left = c.run.ensures.control_after; number = c.run.ensures.value })) in
    record { control_after = ran.left; value = ran.number }
