-- `commands::one_number` meets its contract. Assumes nothing.
use native.Mathlib.Omega.{arith}
use Rattle.commands.proofs.Letters.{is-r, is-k, not-r-k}
use Rattle.commands.proofs.one_number.Goals as goal

pub returns-then-letter-eq114 : goal.returns-then-letter-eq114
returns-then-letter-eq114 c = is-r _ _ (omega (arith, c.if-letter-eq114.true))

pub returns-then-letter-eq107 : goal.returns-then-letter-eq107
returns-then-letter-eq107 c = is-k _ _ (omega (arith, c.if-letter-eq107.true))

pub returns : goal.returns
returns c = not-r-k _ _ c.if-letter-eq114.false c.if-letter-eq107.false
