-- `control::valid` meets its contract. Assumes nothing.
use mathlib.Core.Path.{◌≡◌, sym, ap, ap₂, ◌∙◌}
use mathlib.Core.Bool.{true}
use Prim.Native.Nat.{ℕ}
use native.Mathlib.Omega.{arith}
use Rattle.memory_map.specs.Map.{pages, cells}
use Rattle.control.specs.Control.{depth, count, places, in_map, valid_head}
use Rattle.control.proofs.Laws.{right-head, wrong-head, wrong-cells, right-cells}
use Rattle.control.proofs.valid.Goals as goal

pub returns-then-not-valid_head : goal.returns-then-not-valid_head
returns-then-not-valid_head c =
    wrong-head c.args.control.now
    (sym c.valid_head.ensures ∙ c.if-not-valid_head.true)

pub cells-requires : goal.cells-requires
cells-requires c =
    let headed : valid_head c.args.control.now ≡ true = sym c.valid_head.ensures ∙ c.if-not-valid_head.false in
    let head = right-head headed in
    omega (arith, c.depth-h.ensures, head.deep, head.flat)

pub cells_below-requires : goal.cells_below-requires
cells_below-requires c =
    let headed : valid_head c.args.control.now ≡ true = sym c.valid_head.ensures ∙ c.if-not-valid_head.false in
    (c.requires, omega (arith, c.count.ensures, (right-head headed).few))

pub returns-then-not-cells_below : goal.returns-then-not-cells_below
returns-then-not-cells_below c =
    let headed : valid_head c.args.control.now ≡ true = sym c.valid_head.ensures ∙ c.if-not-valid_head.false in
    let below : c.cells_below.result ≡ in_map (cells (depth c.args.control.now)) (places c.args.control.now 24 (count c.args.control.now)) = c.cells_below.ensures
    ∙ ap₂ (λ (bound m : ℕ). in_map bound (places c.args.control.now 24 m)) (c.cells.ensures ∙ ap cells c.depth-h.ensures)
    c.count.ensures in
    wrong-cells c.args.control.now headed
    (sym below ∙ c.if-not-cells_below.true)

pub pages-requires : goal.pages-requires
pages-requires c =
    let headed : valid_head c.args.control.now ≡ true = sym c.valid_head.ensures ∙ c.if-not-valid_head.false in
    let head = right-head headed in
    omega (arith, c.depth-h.ensures, head.deep, head.flat)

pub valid_turn-requires : goal.valid_turn-requires
valid_turn-requires c = (c.requires, c.pages.ensures ∙ ap pages c.depth-h.ensures)

pub returns : goal.returns
returns c =
    let headed : valid_head c.args.control.now ≡ true = sym c.valid_head.ensures ∙ c.if-not-valid_head.false in
    let below : c.cells_below.result ≡ in_map (cells (depth c.args.control.now)) (places c.args.control.now 24 (count c.args.control.now)) = c.cells_below.ensures
    ∙ ap₂ (λ (bound m : ℕ). in_map bound (places c.args.control.now 24 m)) (c.cells.ensures ∙ ap cells c.depth-h.ensures)
    c.count.ensures in
    c.valid_turn.ensures
    ∙ right-cells c.args.control.now headed
    (sym below ∙ c.if-not-cells_below.false)
