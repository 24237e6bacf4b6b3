-- The program between two bytes of its input, as the definition of a session sees it. Assumes nothing.
use Rattle.lent.specs.declared.Lent.{Lent}
use Rattle.bench_session.specs.Session.{State, state_of}
use Rattle.bench_program.specs.declared.Session.{Session}

abbrev pub state_in : Session → Lent → State
state_in s m = state_of s.parser s.allowance m.array.now m.control.now m.cache.now
