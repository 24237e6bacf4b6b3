-- `memory_map::lines` meets its contract. Assumes nothing.
use Rattle.memory_map.proofs.Laws.{shift-lines}
use Rattle.memory_map.proofs.lines.Goals as goal

pub returns : goal.returns
returns c = shift-lines c.args.h c.requires.1
