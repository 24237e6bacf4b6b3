-- `loading::load_missing` meets its contract. Assumes nothing.
use mathlib.Core.Path.{◌≡◌, sym, ◌∙◌}
use Prim.Native.Nat.{suc}
use native.Mathlib.Omega.{arith}
use Rattle.call_laws.proofs.Loads.{none-missing}
use Rattle.loading.proofs.load_missing.Goals as goal

pub returns-then-missing-lt1 : goal.returns-then-missing-lt1
returns-then-missing-lt1 c =
    let none : c.args.missing ≡ 0 = omega (arith, c.if-missing-lt1.true) in
    sym (none-missing c.args.h c.args.array.now c.args.cache.now c.args.p (suc c.args.h) (sym c.requires.1.1 ∙ none)).1
