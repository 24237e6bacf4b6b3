-- `candidates::all_zero` meets its contract: it asks for each word. Assumes nothing.
use mathlib.Core.Path.{refl, ◌∙◌}
use Prim.Native.Nat.{ℕ}
use lib.Dec.{eqb}
use borrow.Author.Tests.{tests}
use borrow.Author.Rules.{rules}
use Rattle.std.proofs.lemmas.Iterator.{YieldsList-from_range}
use Rattle.std.proofs.lemmas.Iterator.Search.{all_from_yields_List}
use Rattle.candidates.proofs.Laws.{word, words-zero}
use Rattle.candidates.proofs.all_zero.Goals as goal

pub returns : goal.returns
returns c =
    all_from_yields_List (λ (j : ℕ). eqb (word c.args.cell.now j) 0) _ _ _ c.all.ensures.ran (YieldsList-from_range 0 9 9 refl refl)
    (λ x b q k. search (rules, tests))
    ∙ words-zero c.args.cell.now 9 0 c.requires refl
