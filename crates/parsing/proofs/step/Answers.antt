-- `parsing::step` meets its contract. Assumes nothing.
use mathlib.Core.Path.{◌∙◌}
use native.Mathlib.Omega.{arith}
use Rattle.parsing.proofs.Steps.{space, no-space}
use Rattle.parsing.proofs.step.Goals as goal

pub returns-then-b-eq32 : goal.returns-then-b-eq32
returns-then-b-eq32 c = c.after_space.ensures ∙ space _ _ (omega (arith, c.if-b-eq32.true))

pub returns-else-b-eq32 : goal.returns-else-b-eq32
returns-else-b-eq32 c = c.after_byte.ensures ∙ no-space _ _ c.if-b-eq32.false
