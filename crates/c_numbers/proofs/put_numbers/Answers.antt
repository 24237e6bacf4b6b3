-- `c_numbers::put_numbers` meets its contract. Assumes nothing.
use mathlib.Core.Path.{ap, ◌∙◌}
use Prim.Native.Nat.{ℕ}
use mathlib.Core.List.{List}
use Rattle.words.specs.Bytes.{to_le, put}
use Rattle.c_numbers.proofs.Numbers.{numbers-put}
use Rattle.c_numbers.proofs.put_numbers.Goals as goal

pub returns : goal.returns
returns c =
    c.store-3.ensures
    ∙ ap (λ (l : List ℕ). put l 16 (to_le 8 c.args.second))
    (c.store-2.ensures ∙ ap (λ (l : List ℕ). put l 8 (to_le 8 c.args.first)) c.store.ensures)
    ∙ numbers-put c.args.numbers.now c.args.stores c.args.first c.args.second c.requires
