-- `answer_text::append_answer` meets its contract. Assumes nothing.
use mathlib.Core.Path.{sym, ap}
use native.Mathlib.Omega.{arith}
use Rattle.answer_text.specs.Printed.{answer_text}
use Rattle.number_text.proofs.Spelled.{retold}
use Rattle.answer_text.proofs.append_answer.Goals as goal

pub returns-in-Done : goal.returns-in-Done
unfolding answer_text
returns-in-Done c = record { appended = retold (ap answer_text (sym c.in-Done.is)) c.append_number.ensures.appended; upper_bound = omega (arith, c.append_number.ensures.upper_bound) }

pub returns-in-Blank : goal.returns-in-Blank
unfolding answer_text
returns-in-Blank c = record { appended = retold (ap answer_text (sym c.in-Blank.is)) c.append_number-in-Blank.ensures.appended; upper_bound = omega (arith, c.append_number-in-Blank.ensures.upper_bound) }

pub returns-in-Cut : goal.returns-in-Cut
unfolding answer_text
returns-in-Cut c = record { appended = retold (ap answer_text (sym c.in-Cut.is)) c.append_number-in-Cut.ensures.appended; upper_bound = omega (arith, c.append_number-in-Cut.ensures.upper_bound) }

pub returns-in-Refused : goal.returns-in-Refused
unfolding answer_text
returns-in-Refused c = record { appended = retold (ap answer_text (sym c.in-Refused.is)) c.append_number-in-Refused.ensures.appended; upper_bound = omega (arith, c.append_number-in-Refused.ensures.upper_bound) }
