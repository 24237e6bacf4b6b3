use Rattle.bench_program.proofs.Going.{Going}
use Rattle.bench_program.proofs.serve.Given as goal

abbrev pub invariant-loop-read : goal.invariant-loop-read
invariant-loop-read g l = Going l.initial.m l.session l.m
