-- `bench_session::has_line` meets its contract. Assumes nothing.
use mathlib.Core.Path.{sym, ap}
use Rattle.bench_session.specs.Session.{has_line}
use Rattle.bench_session.proofs.has_line.Goals as goal

pub returns-in-Start : goal.returns-in-Start
unfolding has_line
returns-in-Start c = ap has_line (sym c.in-Start.is)

pub returns-in-Letter : goal.returns-in-Letter
unfolding has_line
returns-in-Letter c = ap has_line (sym c.in-Letter.is)

pub returns-in-First : goal.returns-in-First
unfolding has_line
returns-in-First c = ap has_line (sym c.in-First.is)

pub returns-in-Second : goal.returns-in-Second
unfolding has_line
returns-in-Second c = ap has_line (sym c.in-Second.is)

pub returns-in-Other : goal.returns-in-Other
unfolding has_line
returns-in-Other c = ap has_line (sym c.in-Other.is)
