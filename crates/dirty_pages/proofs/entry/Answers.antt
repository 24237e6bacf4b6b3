-- `dirty_pages::entry` meets its contract. Assumes nothing.
use mathlib.Core.Path.{◌≡◌, sym, ap, ◌∙◌}
use Prim.Native.Nat.{ℕ, ◌-◌}
use native.Mathlib.Omega.{arith}
use Rattle.dirty_pages.proofs.Pages.{entry-page, entry-spare}
use Rattle.dirty_pages.proofs.entry.Goals as goal

pub overflow_sub-result : goal.overflow_sub-result
overflow_sub-result c =
    let filled : c.owner.result ≡ 0 → ⊥ =
    λ z. omega (arith, c.if-dirty-eq1.true, c.dirty.ensures, c.requires.clean (sym c.owner.ensures ∙ z)) in
    omega arith

pub returns-then-dirty-eq1 : goal.returns-then-dirty-eq1
returns-then-dirty-eq1 c = ap (λ (o : ℕ). o - 1) c.owner.ensures ∙ entry-page _ _ (sym c.dirty.ensures ∙ c.if-dirty-eq1.true)

pub returns-else-dirty-eq1 : goal.returns-else-dirty-eq1
returns-else-dirty-eq1 c = entry-spare _ _ (λ e. c.if-dirty-eq1.false (c.dirty.ensures ∙ e))
