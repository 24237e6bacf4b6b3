-- `printing::print_read` meets its contract. Assumes nothing.
use native.Mathlib.Omega.{arith}
use Rattle.number_text.proofs.Spelled.{four}
use Rattle.printing.proofs.print_read.Goals as goal

pub returns : goal.returns
returns c = (
  four c.append_number-named.ensures.appended c.append_answer-answered.ensures.appended c.append_first-end.ensures.appended c.append.ensures,
  omega (arith, c.append.ensures.end),
)
