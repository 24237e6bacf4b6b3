-- `write::write` meets its contract. Assumes nothing.
use mathlib.Core.Path.{sym, ◌∙◌}
use Rattle.calls.specs.Call.{Module, buffers}
use Rattle.call_laws.proofs.Judged.{Accepted, access-accepted}
use Rattle.access.proofs.Laws.{some-number}
use Rattle.path.proofs.Ready.{accepts}
use Rattle.write.proofs.Writing.{write-refused, write-accepted}
use Rattle.write.proofs.write.Goals as goal

pub returns-in-Err : goal.returns-in-Err
returns-in-Err c =
    write-refused c.args.keys.now c.args.line c.args.text.now c.args.allowance c.args.array.now c.args.control.now c.args.cache.now
    _ c.in-Err.ensures (some-number _) c.into.ensures

pub depth-requires : goal.depth-requires
depth-requires c =
    let given : Module = buffers c.args.array.now c.args.control.now c.args.cache.now in
    let accepted : Accepted c.args.keys.now c.args.line c.args.text.now given = access-accepted _ _ _ _ (sym c.in_default.ensures) in
    accepted.entry.opening.control_length

pub write_line-requires : goal.write_line-requires
write_line-requires c =
    let given : Module = buffers c.args.array.now c.args.control.now c.args.cache.now in
    let accepted : Accepted c.args.keys.now c.args.line c.args.text.now given = access-accepted _ _ _ _ (sym c.in_default.ensures) in
    accepts accepted c.depth.ensures

pub returns : goal.returns
returns c =
    c.write_line.ensures
    ∙ write-accepted c.args.keys.now c.args.line c.args.text.now c.args.allowance c.args.array.now c.args.control.now c.args.cache.now
    c.in_default.ensures
