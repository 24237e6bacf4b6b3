-- `c_calls::nv_turn` meets its contract. Assumes nothing.
use Rattle.calls.specs.Call.{Module, Called, buffers}
use Rattle.calls.specs.Turn.{turn}
use Rattle.c_calls.proofs.Codes.{turn-fits}
use Rattle.c_calls.proofs.Told.{wrong-call, right-call, code-small}
use Rattle.c_calls.proofs.nv_turn.Goals as goal

pub returns-then-numbers-ne24 : goal.returns-then-numbers-ne24
returns-then-numbers-ne24 c =
    let given : Module = buffers c.args.array.now c.args.control.now c.args.cache.now in
    let defined : Called = turn c.args.keys.now c.args.page c.args.allowance given in
    let r = wrong-call c.args.numbers.now c.if-numbers-ne24.true given defined in record { value = r.0; numbers_after = r.1.0; cache_after = r.1.1 }

pub tell-requires : goal.tell-requires
tell-requires c = (c.if-numbers-ne24.false, code-small c.turn-answer.ensures (turn-fits _ _ _ _))

pub returns : goal.returns
returns c =
    let given : Module = buffers c.args.array.now c.args.control.now c.args.cache.now in
    let defined : Called = turn c.args.keys.now c.args.page c.args.allowance given in
    let r = right-call c.args.numbers.now c.if-numbers-ne24.false given defined c.turn-answer.ensures c.tell.ensures.value
    c.tell.ensures.numbers_after in record { value = r.0; numbers_after = r.1.0; cache_after = r.1.1 }
