-- `printing::print_write` meets its contract. Assumes nothing.
use native.Mathlib.Omega.{arith}
use Rattle.number_text.proofs.Spelled.{three}
use Rattle.printing.proofs.print_write.Goals as goal

pub returns : goal.returns
returns c = (
  three c.append_number-named.ensures.appended c.append_answer-answered.ensures.appended c.append.ensures,
  omega (arith, c.append.ensures.end),
)
