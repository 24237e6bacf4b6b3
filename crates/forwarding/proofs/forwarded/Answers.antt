-- `forwarding::forwarded` meets its contract. Assumes nothing.
use Rattle.forwarding.specs.Rebuild.{as_step}
use Rattle.forwarding.proofs.Forward.{phase-out, minor-out, minor-in}
use Rattle.forwarding.proofs.forwarded.Goals as goal

pub returns-then-phase-gt3 : goal.returns-then-phase-gt3
unfolding as_step
returns-then-phase-gt3 c = phase-out c.args.minor c.args.phase c.if-phase-gt3.true

pub returns-then-new-gt127 : goal.returns-then-new-gt127
unfolding as_step
returns-then-new-gt127 c = minor-out c.args.minor c.args.phase c.if-phase-gt3.false c.forward-new.ensures c.if-new-gt127.true

pub returns : goal.returns
unfolding as_step
returns c = minor-in c.args.minor c.args.phase c.if-phase-gt3.false c.forward-new.ensures c.if-new-gt127.false
