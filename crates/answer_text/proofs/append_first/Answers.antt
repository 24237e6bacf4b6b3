-- `answer_text::append_first` meets its contract. Assumes nothing.
use mathlib.Core.Path.{sym, ap}
use native.Mathlib.Omega.{arith}
use Rattle.answer.specs.declared.Answer.{Answer}
use Rattle.answer_text.specs.Printed.{read_text}
use Rattle.number_text.proofs.Spelled.{retold, appended-none}
use Rattle.answer_text.proofs.append_first.Goals as goal

pub returns-in-Done : goal.returns-in-Done
unfolding read_text
returns-in-Done c = record { appended = retold (ap (λ (a : Answer). read_text a c.args.first) (sym c.in-Done.is)) c.append_number.ensures.appended; upper_bound = omega (arith, c.append_number.ensures.upper_bound) }

pub returns-in-Blank : goal.returns-in-Blank
unfolding read_text
returns-in-Blank c = record { appended = retold (ap (λ (a : Answer). read_text a c.args.first) (sym c.in-Blank.is)) c.append_number-in-Blank.ensures.appended; upper_bound = omega (arith, c.append_number-in-Blank.ensures.upper_bound) }

pub returns-in-Cut : goal.returns-in-Cut
unfolding read_text
returns-in-Cut c = record { appended = retold (ap (λ (a : Answer). read_text a c.args.first) (sym c.in-Cut.is)) (appended-none c.args.buf.now c.args.at); upper_bound = omega arith }

pub returns-in-Refused : goal.returns-in-Refused
unfolding read_text
returns-in-Refused c = record { appended = retold (ap (λ (a : Answer). read_text a c.args.first) (sym c.in-Refused.is)) (appended-none c.args.buf.now c.args.at); upper_bound = omega arith }
