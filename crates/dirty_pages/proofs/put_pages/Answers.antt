-- `dirty_pages::put_pages` meets its contract. Assumes nothing.
use mathlib.Core.Path.{◌∙◌}
use Rattle.dirty_pages.proofs.put_pages.Goals as goal

pub returns : goal.returns
returns c =
    c.put_rising.ensures
    ∙ rw (c.entry-a.ensures, c.entry-b.ensures, c.entry-c.ensures, c.entry-d.ensures)
