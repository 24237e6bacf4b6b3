-- `turn::turn` meets its contract. Assumes nothing.
use mathlib.Core.Path.{sym, ◌∙◌}
use Rattle.calls.specs.Call.{Module, buffers}
use Rattle.call_laws.proofs.Judged.{TurnAccepted, turn-accepted}
use Rattle.access.proofs.Laws.{some-number}
use Rattle.turn.proofs.Turning.{takes, turn-refused, turn-judged}
use Rattle.turn.proofs.turn.Goals as goal

pub returns-in-Err : goal.returns-in-Err
returns-in-Err c =
    let given : Module = buffers c.args.array.now c.args.control.now c.args.cache.now in
    turn-refused c.args.keys.now c.args.page c.args.allowance given _ c.in-Err.ensures (some-number _) c.into.ensures

pub depth-requires : goal.depth-requires
depth-requires c =
    let given : Module = buffers c.args.array.now c.args.control.now c.args.cache.now in
    let accepted : TurnAccepted c.args.keys.now c.args.page given = turn-accepted _ _ _ (sym c.in_default.ensures) in
    accepted.opening.control_length

pub turn_page-requires : goal.turn_page-requires
turn_page-requires c =
    let given : Module = buffers c.args.array.now c.args.control.now c.args.cache.now in
    let accepted : TurnAccepted c.args.keys.now c.args.page given = turn-accepted _ _ _ (sym c.in_default.ensures) in
    takes accepted c.depth.ensures

pub returns : goal.returns
returns c =
    let given : Module = buffers c.args.array.now c.args.control.now c.args.cache.now in
    c.turn_page.ensures
    ∙ turn-judged c.args.keys.now c.args.page c.args.allowance given c.in_default.ensures
