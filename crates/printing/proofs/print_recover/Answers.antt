-- `printing::print_recover` meets its contract. Assumes nothing.
use native.Mathlib.Omega.{arith}
use Rattle.number_text.proofs.Spelled.{four}
use Rattle.printing.proofs.print_recover.Goals as goal

pub returns : goal.returns
returns c = (
  four c.append-named.ensures c.append_answer-answered.ensures.appended c.append_sum-end.ensures.appended c.append.ensures,
  omega (arith, c.append.ensures.end),
)
