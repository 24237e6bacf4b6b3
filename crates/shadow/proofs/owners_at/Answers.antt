-- `shadow::owners_at` meets its contract. Assumes nothing.
use Rattle.std.proofs.Common.{◌≡◌, ℕ, ◌+◌, ◌*◌, ◌≤◌, ◌<◌, refl, arith, length-set}
use Rattle.words.specs.Bytes.{from_le, part}
use Rattle.cache.specs.Cache.{from}
use Rattle.shadow.proofs.Steps.{step-within, owners-next}
use Rattle.shadow.proofs.owners_at.Goals as goal

-- the owner at a step that is left is within the bytes
within : (first step s n len : ℕ) → s < n → 8 ≤ step → first + step * n ≤ len → first + step * s + 8 ≤ len
within first step s n len p q r = omega (arith, step-within first step s n len p r)

pub loop-s-init : goal.loop-s-init
unfolding from
loop-s-init c = (refl, refl)

pub load-requires : goal.load-requires
load-requires c = within c.args.first c.args.step c.loop-s.s c.args.n _ c.loop-s-test.true c.requires.1.0 c.requires.1.1

pub loop-s-preserved : goal.loop-s-preserved
loop-s-preserved c = (
  simp length-set c.loop-s.invariant.0,
  owners-next (λ k. from_le (part c.args.bytes.now (c.args.first + c.args.step * k) 8)) c.loop-s.owners c.loop-s.s c.load.result
      (omega arith) c.loop-s.invariant.1 c.load.ensures,
)

pub returns : goal.returns
returns c =
    let all : c.loop-s.s ≡ c.args.n = omega arith in
    rw all at c.loop-s.invariant.1
