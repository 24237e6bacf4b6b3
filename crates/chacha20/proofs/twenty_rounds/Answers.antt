-- `twenty_rounds` does ten double rounds. The loop's invariant: `i` of them are done. Assumes nothing.
use Rattle.std.proofs.Common.{refl, ◌∙◌}
use Rattle.chacha20.specs.ChaCha20.{rounds}
use Rattle.chacha20.specs.Rows.{flat}
use Rattle.chacha20.proofs.Rounds.{next}
use Rattle.chacha20.proofs.twenty_rounds.Goals as goal

pub loop-i-init : goal.loop-i-init
unfolding rounds
loop-i-init c = refl

pub loop-i-preserved : goal.loop-i-preserved
loop-i-preserved c = c.double_round-u.ensures ∙ next c.loop-i._i (flat c.args.s) c.loop-i.invariant
