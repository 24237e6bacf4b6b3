-- `dirty_pages::accepted` meets its contract. Assumes nothing.
use mathlib.Core.Path.{◌≡◌, sym, ap, ◌∙◌}
use mathlib.Core.Bool.{Bool, true, false, cond}
use Prim.Native.Nat.{ℕ, ◌≤◌}
use native.Mathlib.Omega.{arith}
use Rattle.slot_map.specs.Slots.{cache_length}
use Rattle.control.specs.Control.{depth, valid}
use Rattle.control.proofs.Laws.{valid-parts}
use Rattle.cache.specs.Cache.{formed}
use Rattle.calls.specs.DirtyPages.{list_refusal}
use Rattle.dirty_pages.proofs.Laws.{wrong-control, not_valid, wrong-cache, wrong-out, by-formed}
use Rattle.dirty_pages.proofs.accepted.Goals as goal
use Rattle.dirty_pages.proofs.accepted.Goals.{Else-not-valid, After-depth-h, After-cache_length-size, After-formed}

-- the control record is valid, its depth is one of three, and this is the cache's length
right : (c : Else-not-valid) → valid c.args.control.now ≡ true
right c = sym c.valid.ensures ∙ c.if-not-valid.false

deep : (c : After-depth-h) → (1 ≤ c.depth-h.result) × (c.depth-h.result ≤ 3)
deep c =
    let head = (valid-parts (sym c.valid.ensures ∙ c.if-not-valid.false)).head in
    omega (arith, c.depth-h.ensures, head.deep, head.flat)

expected : (c : After-cache_length-size) → c.cache_length-size.result ≡ cache_length (depth c.args.control.now)
expected c = c.cache_length-size.ensures ∙ ap cache_length c.depth-h.ensures

pub returns-then-control-ne-LENGTH : goal.returns-then-control-ne-LENGTH
returns-then-control-ne-LENGTH c = wrong-control _ _ _ c.if-control-ne-LENGTH.true

pub returns-then-not-valid : goal.returns-then-not-valid
returns-then-not-valid c = not_valid _ _ _ c.if-control-ne-LENGTH.false (sym c.valid.ensures ∙ c.if-not-valid.true)

pub cache_length-size-requires : goal.cache_length-size-requires
cache_length-size-requires c = deep (goal.at.cache_length-size-requires c).After-depth-h

pub returns-then-cache-size : goal.returns-then-cache-size
returns-then-cache-size c =
    let at = goal.at.returns-then-cache-size c in
    wrong-cache _ _ _ c.if-control-ne-LENGTH.false (right at.Else-not-valid)
    (λ e. c.if-cache-size.true (e ∙ sym (expected at.After-cache_length-size)))

pub returns-then-out-ne32 : goal.returns-then-out-ne32
returns-then-out-ne32 c =
    let at = goal.at.returns-then-out-ne32 c in
    wrong-out _ _ _ c.if-control-ne-LENGTH.false (right at.Else-not-valid) (c.if-cache-size.false ∙ expected at.After-cache_length-size)
    c.if-out-ne32.true

pub formed-requires : goal.formed-requires
formed-requires c =
    let h = deep (goal.at.formed-requires c).After-depth-h in
    (h.0, (h.1, c.if-cache-size.false ∙ c.cache_length-size.ensures))

-- what the last test says
judge : (c : After-formed) (b : Bool) → c.formed.result ≡ b → cond b 0 23 ≡ list_refusal c.args.control.now c.args.cache.now c.args.out.now
judge c b e =
    by-formed _ _ _ c.if-control-ne-LENGTH.false (sym c.valid.ensures ∙ c.if-not-valid.false)
    (c.if-cache-size.false ∙ c.cache_length-size.ensures ∙ ap cache_length c.depth-h.ensures)
    c.if-out-ne32.false b (ap (λ (h : ℕ). formed h c.args.cache.now) (sym c.depth-h.ensures) ∙ sym c.formed.ensures ∙ e)

pub returns-then-not-formed : goal.returns-then-not-formed
returns-then-not-formed c = judge (goal.at.returns-then-not-formed c).After-formed false c.if-not-formed.true

pub returns : goal.returns
returns c = judge (goal.at.returns c).After-formed true c.if-not-formed.false
