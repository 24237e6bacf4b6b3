-- `c_calls::nv_read` meets its contract. Assumes nothing.
use Rattle.calls.specs.Call.{Module, buffers}
use Rattle.calls.specs.Read.{Reading, read}
use Rattle.c_calls.proofs.Codes.{read_fits}
use Rattle.c_calls.proofs.Told.{wrong-read, right-read, read_small}
use Rattle.c_calls.proofs.nv_read.Goals as goal

pub returns-then-numbers-ne24 : goal.returns-then-numbers-ne24
returns-then-numbers-ne24 c =
    let given : Module = buffers c.args.array.now c.args.control.now c.args.cache.now in
    let defined : Reading = read c.args.keys.now c.args.line c.args.allowance c.args.out.now given in
    let r = wrong-read c.args.numbers.now c.if-numbers-ne24.true given c.args.out.now defined in record { value = r.0; numbers_after = r.1.0; cache_after = r.1.1.0; out_after = r.1.1.1 }

pub tell-requires : goal.tell-requires
tell-requires c = (c.if-numbers-ne24.false, read_small c.read-answer.ensures (read_fits _ _ _ _ _))

pub returns : goal.returns
returns c =
    let given : Module = buffers c.args.array.now c.args.control.now c.args.cache.now in
    let defined : Reading = read c.args.keys.now c.args.line c.args.allowance c.args.out.now given in
    let r = right-read c.args.numbers.now c.if-numbers-ne24.false given c.args.out.now defined c.read-answer.ensures c.tell.ensures.value
    c.tell.ensures.numbers_after in record { value = r.0; numbers_after = r.1.0; cache_after = r.1.1.0; out_after = r.1.1.1 }
