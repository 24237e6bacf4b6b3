-- `shadow::bad_slot` meets its contract. Assumes nothing.
use Rattle.std.proofs.Common.{take, ap, ◌∙◌, rules}
use Rattle.std.specs.Option.{option_or}
use Rattle.std.specs.Prelude.{Option, ℕ}
use Rattle.memory_map.specs.Map.{slots}
use Rattle.cache.specs.Cache.{missing_top, bad_slot}
use Rattle.shadow.proofs.Steps.{found-or}
use Rattle.shadow.proofs.bad_slot.Goals as goal

pub returns : goal.returns
unfolding bad_slot
returns c =
    let other = missing_top c.args.h (take (slots c.args.h) c.args.owners) in
    found-or c.first_stray.result c.or_else.result other _ c.or_else.ensures (λ told. search rules)
    ∙ ap (λ (found : Option ℕ). option_or found other) c.first_stray.ensures
