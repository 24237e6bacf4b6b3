-- `c_primitives::nv_siphash24` meets its contract: one case for each length that is wrong, and one where both are right.
-- Assumes nothing.
use mathlib.Core.Path.{◌∙◌, ap}
use native.Mathlib.Omega.{arith}
use borrow.Author.Tests.{eq-eqb, ne_eqb}
use Rattle.words.specs.Bytes.{to_le}
use Rattle.words.proofs.Digits.{length_digits}
use Rattle.words.proofs.Parts.{put_all}
use Rattle.c_primitives.specs.Primitives.{hash_sizes, hash_out}
use Rattle.c_primitives.proofs.Answers.{refused, done, wrong, right-then}
use Rattle.c_primitives.proofs.nv_siphash24.Goals as goal

pub returns-then-key-ne16 : goal.returns-then-key-ne16
unfolding hash_sizes hash_out
returns-then-key-ne16 c = refused _ _ (wrong _ c.if-key-ne16.true)

pub returns-then-out-ne8 : goal.returns-then-out-ne8
unfolding hash_sizes hash_out
returns-then-out-ne8 c = refused _ _ (right-then c.if-key-ne16.false (ne_eqb _ _ c.if-out-ne8.true))

pub returns : goal.returns
unfolding hash_sizes hash_out
returns c =
    done _ (right-then c.if-key-ne16.false (eq-eqb _ _ c.if-out-ne8.false))
    (c.store.ensures ∙ put_all c.args.out.now (to_le 8 c.hash.result) (omega (arith, length_digits 256 8 c.hash.result))
    ∙ ap (to_le 8) c.hash.ensures)
