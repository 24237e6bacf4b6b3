-- `access::state` meets its contract. Assumes nothing.
use mathlib.Core.Path.{sym, ap, ◌∙◌}
use mathlib.Core.Bool.{not}
use Rattle.call_laws.proofs.Judged.{here, on, end}
use Rattle.access.proofs.state.Goals as goal

pub returns-then-not-shaped : goal.returns-then-not-shaped
returns-then-not-shaped c = here _ _ _ (ap not (sym c.formed-shaped.ensures ∙ c.if-not-shaped.true))

pub returns-then-kept : goal.returns-then-kept
returns-then-kept c = on _ _ _ (ap not (sym c.formed-shaped.ensures ∙ c.if-not-shaped.false)) (here _ _ _ c.if-kept.true)

pub returns : goal.returns
returns c = on _ _ _ (ap not (sym c.formed-shaped.ensures ∙ c.if-not-shaped.false)) (on _ _ _ c.if-kept.false end)
