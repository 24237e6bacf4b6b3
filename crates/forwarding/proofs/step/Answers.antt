-- `forwarding::step` meets its contract. Assumes nothing.
use mathlib.Core.Path.{refl, ap, ◌∙◌}
use native.Mathlib.Omega.{arith}
use lib.ListN.{length}
use Rattle.words.proofs.Parts.{length_part}
use Rattle.calls.specs.Recovery.{Source}
use Rattle.forwarding.specs.Rebuild.{source_is}
use Rattle.forwarding.proofs.Forward.{phase-step, choice-step}
use Rattle.forwarding.proofs.step.Goals as goal

pub returns-then-family-eq0 : goal.returns-then-family-eq0
returns-then-family-eq0 c =
    let source : Source = source_is c.args.family c.args.keys.now c.args.array.now c.args.major in
    phase-step source c.args.line _ (omega (arith, c.if-family-eq0.true)) c.forwarded.ensures refl

pub choose-requires : goal.choose-requires
choose-requires c = (c.requires.0, (ap length c.cell.ensures ∙ length_part c.args.array.now _ 72 c.requires.1.1, c.requires.1.0))

pub returns : goal.returns
returns c =
    let source : Source = source_is c.args.family c.args.keys.now c.args.array.now c.args.major in
    choice-step source c.args.line c.args.minor (λ z. omega (arith, c.if-family-eq0.false)) c.only.ensures
    c.cell.ensures c.choose.ensures
