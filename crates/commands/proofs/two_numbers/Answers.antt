-- `commands::two_numbers` meets its contract. Assumes nothing.
use native.Mathlib.Omega.{arith}
use Rattle.commands.proofs.Letters.{not-w, is-w, no_byte}
use Rattle.commands.proofs.two_numbers.Goals as goal

pub returns-then-letter-ne119 : goal.returns-then-letter-ne119
returns-then-letter-ne119 c = not-w _ _ _ c.if-letter-ne119.true

pub returns-then-b-le255 : goal.returns-then-b-le255
returns-then-b-le255 c = is-w _ _ _ (omega (arith, c.if-letter-ne119.false)) (omega (arith, c.if-b-le255.true))

pub returns : goal.returns
returns c = no_byte _ _ _ (omega (arith, c.if-letter-ne119.false)) (omega (arith, c.if-b-le255.false))
