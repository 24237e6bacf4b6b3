-- `commands::no_number` meets its contract. Assumes nothing.
use native.Mathlib.Omega.{arith}
use Rattle.commands.proofs.Letters.{is-p, not-p}
use Rattle.commands.proofs.no_number.Goals as goal

pub returns-then-letter-eq112 : goal.returns-then-letter-eq112
returns-then-letter-eq112 c = is-p _ (omega (arith, c.if-letter-eq112.true))

pub returns : goal.returns
returns c = not-p _ c.if-letter-eq112.false
