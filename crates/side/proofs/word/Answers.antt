-- `side::word` meets its contract. Assumes nothing.
use native.Mathlib.Omega.{arith}
use Rattle.side.proofs.Laws.{phase-word, hash-word}
use Rattle.side.proofs.word.Goals as goal

pub returns-then-family-eq0 : goal.returns-then-family-eq0
returns-then-family-eq0 c = phase-word _ _ _ _ _ c.data_hash-hash.ensures c.args.family (omega (arith, c.if-family-eq0.true))

pub returns : goal.returns
returns c =
    hash-word _ _ _ _ _ c.data_hash-hash.ensures c.args.family
    (λ z. omega (arith, c.if-family-eq0.false)) (omega arith)
