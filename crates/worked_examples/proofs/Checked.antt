-- P1 to P14 hold of the definitions: the two columns of the table are equal. Assumes nothing.
use mathlib.Core.Path.{◌≡◌, refl}
use Rattle.words.specs.Bytes.{number, digits}
use Rattle.counter.specs.Counter.{major, minors, counter_block, with_minor, forward}
use Rattle.memory_map.specs.Map.{pages, lines, nodes, level_start, slots, shadow_start, cell_of}
use Rattle.calls.specs.Recovery.{by_phase}
use Rattle.worked_examples.specs.Table.{refusal_of, table, computed_column, said_column}

pub checked : computed_column table ≡ said_column table
unfolding table computed_column said_column number digits major minors counter_block with_minor forward by_phase refusal_of pages lines nodes
    level_start slots shadow_start cell_of
checked = refl
