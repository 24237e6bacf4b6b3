-- `printing::print` meets its contract. Assumes nothing.
use mathlib.Core.Path.{sym, ap, ◌∙◌}
use native.Mathlib.Omega.{arith}
use Rattle.commands.specs.declared.Command.{Command}
use Rattle.answer_text.specs.Printed.{line_of}
use Rattle.number_text.proofs.Spelled.{appended-all}
use Rattle.printing.proofs.print.Goals as goal

pub returns-in-Write : goal.returns-in-Write
unfolding line_of
returns-in-Write c = (
  c.print_write.ensures.0 ∙ ap (λ (z : Command). line_of z c.args.answer c.args.first) (sym c.in-Write.is),
  c.print_write.ensures.1,
)

pub returns-in-Read : goal.returns-in-Read
unfolding line_of
returns-in-Read c = (
  c.print_read.ensures.0 ∙ ap (λ (z : Command). line_of z c.args.answer c.args.first) (sym c.in-Read.is),
  c.print_read.ensures.1,
)

pub returns-in-Recover : goal.returns-in-Recover
unfolding line_of
returns-in-Recover c = (
  c.print_recover.ensures.0 ∙ ap (λ (z : Command). line_of z c.args.answer c.args.first) (sym c.in-Recover.is),
  c.print_recover.ensures.1,
)

pub returns-in-Allow : goal.returns-in-Allow
unfolding line_of
returns-in-Allow c = (ap (λ (z : Command). line_of z c.args.answer c.args.first) (sym c.in-Allow.is), omega arith)

pub returns-in-Unknown : goal.returns-in-Unknown
unfolding line_of
returns-in-Unknown c = (
  appended-all c.append.ensures ∙ ap (λ (z : Command). line_of z c.args.answer c.args.first) (sym c.in-Unknown.is),
  omega (arith, c.append.ensures.end),
)
