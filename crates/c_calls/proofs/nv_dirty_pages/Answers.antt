-- `c_calls::nv_dirty_pages` meets its contract. Assumes nothing.
use Rattle.calls.specs.DirtyPages.{Listing, dirty_pages}
use Rattle.c_calls.proofs.Codes.{list-fits}
use Rattle.c_calls.proofs.Told.{wrong-told, right-list, list-small}
use Rattle.c_calls.proofs.nv_dirty_pages.Goals as goal

pub returns-then-numbers-ne24 : goal.returns-then-numbers-ne24
returns-then-numbers-ne24 c =
    let defined : Listing = dirty_pages c.args.control.now c.args.cache.now c.args.list.now in
    let r = wrong-told c.args.numbers.now c.if-numbers-ne24.true defined.answer c.args.list.now defined.output in record { value = r.0; numbers_after = r.1.0; list_after = r.1.1 }

pub tell-requires : goal.tell-requires
tell-requires c = (c.if-numbers-ne24.false, list-small c.dirty_pages-listed.ensures (list-fits _ _ _))

pub returns : goal.returns
returns c =
    let defined : Listing = dirty_pages c.args.control.now c.args.cache.now c.args.list.now in
    let r = right-list c.args.numbers.now c.if-numbers-ne24.false c.args.list.now defined c.dirty_pages-listed.ensures
    c.tell.ensures.value c.tell.ensures.numbers_after in record { value = r.0; numbers_after = r.1.0; list_after = r.1.1 }
