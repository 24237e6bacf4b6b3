-- `dirty_pages::dirty_pages` meets its contract. Assumes nothing.
use mathlib.Core.Path.{refl, sym}
use Rattle.dirty_pages.proofs.Laws.{accepted, refused, listed}
use Rattle.dirty_pages.proofs.dirty_pages.Goals as goal

pub returns-in-Err : goal.returns-in-Err
returns-in-Err c = refused _ _ _ c.in-Err.refusal refl c.in-Err.ensures c.into.ensures

pub put_pages-requires : goal.put_pages-requires
put_pages-requires c =
    let a = accepted _ _ _ (sym c.in_default.ensures) in
    record { in_bounds = (a.sized, a.room); clean = a.clean }

pub returns : goal.returns
returns c = listed _ _ _ _ c.in_default.ensures c.put_pages.ensures
