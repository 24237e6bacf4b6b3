-- `renewal::renew_slot` meets its contract. Assumes nothing.
use mathlib.Core.Path.{◌∙◌}
use Rattle.renewal.proofs.Renewing.{slot-renewed}
use Rattle.renewal.proofs.renew_slot.Goals as goal

pub returns : goal.returns
returns c =
    c.store.ensures
    ∙ slot-renewed c.args.cache.now c.args.s c.args.j c.args.tag c.requires.0
    (record { at = λ i. (c.slice_known-1.given i).fits }) c.requires.1
