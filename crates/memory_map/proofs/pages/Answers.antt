-- `memory_map::pages` meets its contract. Assumes nothing.
use Rattle.memory_map.specs.Map.{pages}
use Rattle.memory_map.proofs.Laws.{shift-eight}
use Rattle.memory_map.proofs.pages.Goals as goal

pub returns : goal.returns
unfolding pages
returns c = shift-eight c.args.h c.requires.1
