-- `decimal::digit_after` meets its contract. Assumes nothing.
use native.Mathlib.Omega.{arith}
use Rattle.decimal.proofs.Numbers.{too_small, too_large, too_many, one_more}
use Rattle.decimal.proofs.digit_after.Goals as goal

pub returns-then-b-lt48 : goal.returns-then-b-lt48
returns-then-b-lt48 c = too_small _ _ (omega arith)

pub returns-then-b-gt57 : goal.returns-then-b-gt57
returns-then-b-gt57 c = too_large _ _ (omega arith)

pub returns-then-n : goal.returns-then-n
returns-then-n c = too_many _ _ (omega arith) (omega arith) (omega arith)

pub returns-then-tens-digit : goal.returns-then-tens-digit
returns-then-tens-digit c = too_many _ _ (omega arith) (omega arith) (omega arith)

pub returns : goal.returns
returns c = one_more _ _ _ (omega arith) (omega arith) (omega arith) (omega arith)
