-- `c_primitives::nv_chacha20_block` meets its contract: one case for each length that is wrong, and one where all are right.
-- Assumes nothing.
use native.Mathlib.Omega.{arith}
use borrow.Author.Tests.{eq-eqb, ne_eqb}
use Rattle.c_primitives.specs.Primitives.{block_sizes, block_out}
use Rattle.c_primitives.proofs.Answers.{refused, done, wrong, right-then, copied}
use Rattle.c_primitives.proofs.nv_chacha20_block.Goals as goal

pub returns-then-key-ne32 : goal.returns-then-key-ne32
unfolding block_sizes block_out
returns-then-key-ne32 c = refused _ _ (wrong _ c.if-key-ne32.true)

pub returns-then-nonce-ne12 : goal.returns-then-nonce-ne12
unfolding block_sizes block_out
returns-then-nonce-ne12 c = refused _ _ (right-then c.if-key-ne32.false (wrong _ c.if-nonce-ne12.true))

pub returns-then-out-ne64 : goal.returns-then-out-ne64
unfolding block_sizes block_out
returns-then-out-ne64 c = refused _ _ (right-then c.if-key-ne32.false (right-then c.if-nonce-ne12.false (ne_eqb _ _ c.if-out-ne64.true)))

pub returns : goal.returns
unfolding block_sizes block_out
returns c =
    done _ (right-then c.if-key-ne32.false (right-then c.if-nonce-ne12.false (eq-eqb _ _ c.if-out-ne64.false)))
    (copied 64 c.block-block.result c.args.out.now (omega arith) (omega arith) c.copy.ensures c.block-block.ensures)
