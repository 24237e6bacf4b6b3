-- `control::cells_below` meets its contract: the places left say whether all are below the bound. Assumes nothing.
use mathlib.Core.Path.{◌≡◌, sym, ap, ◌∙◌, subst}
use Prim.Native.Nat.{ℕ, ◌-◌, ◌≤◌, ◌<◌}
use native.Mathlib.Omega.{arith}
use Rattle.control.specs.Control.{places, in_map}
use Rattle.control.proofs.Laws.{in-map-past, in-map-next, in-map-end}
use Rattle.control.proofs.cells_below.Goals as goal

pub loop-j-init : goal.loop-j-init
loop-j-init c =
    let all : c.args.n ≡ c.args.n - 0 = omega arith in
    ap (λ (i : ℕ). in_map c.args.bound (places c.args.control.now 24 i)) all

pub returns-then-bound-load : goal.returns-then-bound-load
returns-then-bound-load c =
    sym
    (c.loop-j.invariant
    ∙ in-map-past c.args.bound c.args.control.now 24 c.args.n c.loop-j.j (omega arith)
    (subst (λ (x : ℕ). c.args.bound ≤ x) c.load.ensures c.if-bound-load.true))

pub loop-j-preserved : goal.loop-j-preserved
loop-j-preserved c =
    c.loop-j.invariant
    ∙ in-map-next c.args.bound c.args.control.now 24 c.args.n c.loop-j.j (omega arith)
    (subst (λ (x : ℕ). x < c.args.bound) c.load.ensures c.if-bound-load.false)

pub returns : goal.returns
returns c = sym (c.loop-j.invariant ∙ in-map-end c.args.bound c.args.control.now 24 c.args.n c.loop-j.j (omega arith))
