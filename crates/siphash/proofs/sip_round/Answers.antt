-- `siphash::sip_round` meets its contract, from what the rotations ensure.
-- Assumes nothing.
use Rattle.std.proofs.Common.{refl}
use Rattle.siphash.proofs.Messages.{round-steps}
use Rattle.siphash.proofs.sip_round.Goals as goal

pub returns : goal.returns
returns c =
    round-steps c.args.v
    refl
    refl
    c.rotate.ensures
    c.rotate-2.ensures
    refl
    c.rotate-3.ensures
    refl
    c.rotate-4.ensures
    c.rotate-5.ensures
    c.rotate-6.ensures
