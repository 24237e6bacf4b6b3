-- `bench_program::serve` meets its contract. Assumes nothing.
use Rattle.std.proofs.Common.{List, ℕ, ap, sym, ◌∙◌}
use Rattle.bench_session.specs.Session.{line_ended}
use Rattle.bench_session.proofs.Laws.{served, served-line}
use Rattle.bench_program.specs.State.{state_in}
use Rattle.lent.proofs.Laws.{same_more}
use Rattle.bench_program.proofs.Going.{Going, going-first, going-more, going-ended}
use Rattle.bench_program.proofs.serve.Goals as goal
use Rattle.bench_program.proofs.serve.Goals.{else-loop-read-test, then-loop-read-test+in_default}

pub loop-read-init : goal.loop-read-init
loop-read-init g c = going-first c.args.m.now

pub loop-read-preserved : goal.loop-read-preserved
loop-read-preserved g c = let k = c.read_input.ensures in going-more c.loop-read.invariant k.took k.same c.in-Some.is

pub returns-then-has_line : goal.returns-then-has_line
returns-then-has_line g c =
    let gone : Going c.args.m.now c.loop-read.session c.loop-read-test.m = elim c.loop-read-test.branch [
      | else-loop-read-test w ↦ rw w.m-is c.loop-read.invariant
      | then-loop-read-test+in_default w ↦ let k = w.read_input.ensures in rw w.m-is (going-ended c.loop-read.invariant k.took k.same w.in_default.is)
    ] in (
      served-line gone.took (sym c.if-has_line.true ∙ c.has_line.ensures)
          (c.end_line.ensures.state ∙ ap (λ (k : List ℕ). line_ended k (state_in c.loop-read.session c.loop-read-test.m)) gone.same.keys),
      same_more gone.same c.end_line.ensures.same,
    )

pub returns-else-has_line : goal.returns-else-has_line
returns-else-has_line g c =
    let gone : Going c.args.m.now c.loop-read.session c.loop-read-test.m = elim c.loop-read-test.branch [
      | else-loop-read-test w ↦ rw w.m-is c.loop-read.invariant
      | then-loop-read-test+in_default w ↦ let k = w.read_input.ensures in rw w.m-is (going-ended c.loop-read.invariant k.took k.same w.in_default.is)
    ] in
    (served gone.took (sym c.if-has_line.false ∙ c.has_line.ensures), gone.same)
