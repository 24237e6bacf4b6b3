-- `turn::turn_page` meets its contract. Assumes nothing.
use mathlib.Core.Path.{◌∙◌}
use Rattle.calls.specs.Call.{buffers}
use Rattle.path.specs.Told.{refusal_at}
use Rattle.path.proofs.Ready.{walk-differs, walk-loaded}
use Rattle.turn.proofs.Turning.{turn-differs, turn-loads}
use Rattle.turn.proofs.turn_page.Goals as goal

pub returns-in-Err : goal.returns-in-Err
unfolding refusal_at
returns-in-Err c =
    turn-differs c.args.keys.now c.args.p c.args.allowance (buffers c.args.array.now c.args.control.now c.args.cache.now)
    (walk-differs c.args.keys.now c.args.control.now c.args.p c.requires.1.1.1.0 c.requires.1.1.1.1.1 c.requires.1.1.0
    c.root.ensures c.in-Err.ensures) c.into.ensures

pub turn_loaded-requires : goal.turn_loaded-requires
turn_loaded-requires c =
    let loads = walk-loaded c.args.keys.now c.args.control.now c.args.p c.requires.1.1.1.0 c.requires.1.1.1.1.1 c.requires.1.1.0
    c.root.ensures c.in-Ok.ensures in
    record { keys_len = c.requires; missing_value = loads.0 }

pub returns-in-Ok : goal.returns-in-Ok
returns-in-Ok c =
    let loads = walk-loaded c.args.keys.now c.args.control.now c.args.p c.requires.1.1.1.0 c.requires.1.1.1.1.1 c.requires.1.1.0
    c.root.ensures c.in-Ok.ensures in
    c.turn_loaded.ensures
    ∙ turn-loads c.args.keys.now c.args.p c.args.allowance (buffers c.args.array.now c.args.control.now c.args.cache.now) loads.1
