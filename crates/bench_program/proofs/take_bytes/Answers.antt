-- `bench_program::take_bytes` meets its contract. Assumes nothing.
use Rattle.std.proofs.Common.{List, ℕ, ap, ◌∙◌, ◌+◌, drop, get_or}
use Rattle.lent.proofs.Laws.{same_more}
use Rattle.bench_session.specs.Session.{State, bytes_taken, byte_taken}
use Rattle.bench_session.proofs.Laws.{taken-one, taken-all}
use Rattle.bench_program.specs.State.{state_in}
use Rattle.bench_program.proofs.take_bytes.Goals as goal

pub loop-b-preserved : goal.loop-b-preserved
loop-b-preserved g c =
    let l = c.loop-b in
    let keys = c.args.m.now.keys.now in
    let rest = drop (l.b-index + 1) c.args.input.now in
    let s = state_in l.state l.m in (
      ap (λ (z : State). bytes_taken keys z rest)
          (c.take_byte-state.ensures.state ∙ ap (λ (k : List ℕ). byte_taken k s (get_or c.args.input.now l.b-index 0)) l.invariant.1.keys)
          ∙ taken-one keys s c.args.input.now l.b-index c.loop-b-test.true
          ∙ l.invariant.0,
      same_more l.invariant.1 c.take_byte-state.ensures.same,
    )

pub returns-clause-state : goal.returns-clause-state
returns-clause-state g c =
    let l = c.loop-b in
    taken-all c.args.m.now.keys.now (state_in l.state l.m) c.args.input.now l.b-index c.loop-b-test.false ∙ l.invariant.0
