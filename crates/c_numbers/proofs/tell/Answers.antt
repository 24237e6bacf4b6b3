-- `c_numbers::tell` meets its contract. Assumes nothing.
use mathlib.Core.Path.{sym, ap, ◌∙◌}
use native.Mathlib.Omega.{arith}
use Rattle.words.specs.Bytes.{bytes_of}
use Rattle.answer.specs.Answer.{code_of, stores_of, first_of, second_of, values_of}
use Rattle.answer.specs.declared.Answer.{Answer}
use Rattle.c_numbers.proofs.tell.Goals as goal

pub overflow_cast-result : goal.overflow_cast-result
unfolding code_of
overflow_cast-result c = omega (arith, ap code_of c.in-Refused.is, c.requires.1)

pub overflow_add-result : goal.overflow_add-result
unfolding code_of
overflow_add-result c = omega (arith, ap code_of c.in-Refused.is, c.requires.1)

pub returns-in-Done : goal.returns-in-Done
unfolding code_of stores_of first_of second_of
returns-in-Done c = record { value = sym (ap code_of c.in-Done.is); numbers_after = c.put_numbers.ensures ∙ sym (ap (λ (x : Answer). bytes_of 8 (values_of x)) c.in-Done.is) }

pub returns-in-Blank : goal.returns-in-Blank
unfolding code_of stores_of first_of second_of
returns-in-Blank c = record { value = sym (ap code_of c.in-Blank.is); numbers_after = c.put_numbers-in-Blank.ensures ∙ sym (ap (λ (x : Answer). bytes_of 8 (values_of x)) c.in-Blank.is) }

pub returns-in-Cut : goal.returns-in-Cut
unfolding code_of stores_of first_of second_of
returns-in-Cut c = record { value = sym (ap code_of c.in-Cut.is); numbers_after = c.put_numbers-in-Cut.ensures ∙ sym (ap (λ (x : Answer). bytes_of 8 (values_of x)) c.in-Cut.is) }

pub returns-in-Refused : goal.returns-in-Refused
unfolding code_of stores_of first_of second_of
returns-in-Refused c = record { value = sym (ap code_of c.in-Refused.is); numbers_after = c.put_numbers-in-Refused.ensures ∙ sym (ap (λ (x : Answer). bytes_of 8 (values_of x)) c.in-Refused.is) }
