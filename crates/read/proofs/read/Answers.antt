-- `read::read` meets its contract. Assumes nothing.
use mathlib.Core.Path.{sym, ◌∙◌}
use Rattle.calls.specs.Call.{Module, buffers}
use Rattle.call_laws.proofs.Judged.{Accepted, access-accepted}
use Rattle.access.proofs.Laws.{some-number}
use Rattle.path.proofs.Ready.{accepts}
use Rattle.read.proofs.Reading.{read-refused, read-accepted}
use Rattle.read.proofs.read.Goals as goal

pub returns-in-Err : goal.returns-in-Err
returns-in-Err c =
    read-refused c.args.keys.now c.args.line c.args.allowance c.args.out.now c.args.array.now c.args.control.now c.args.cache.now
    _ c.in-Err.ensures (some-number _) c.into.ensures

pub depth-requires : goal.depth-requires
depth-requires c =
    let given : Module = buffers c.args.array.now c.args.control.now c.args.cache.now in
    let accepted : Accepted c.args.keys.now c.args.line c.args.out.now given = access-accepted _ _ _ _ (sym c.in_default.ensures) in
    accepted.entry.opening.control_length

pub read_line-requires : goal.read_line-requires
read_line-requires c =
    let given : Module = buffers c.args.array.now c.args.control.now c.args.cache.now in
    let accepted : Accepted c.args.keys.now c.args.line c.args.out.now given = access-accepted _ _ _ _ (sym c.in_default.ensures) in
    accepts accepted c.depth.ensures

pub returns : goal.returns
returns c =
    c.read_line.ensures
    ∙ read-accepted c.args.keys.now c.args.line c.args.allowance c.args.out.now c.args.array.now c.args.control.now c.args.cache.now
    c.in_default.ensures
