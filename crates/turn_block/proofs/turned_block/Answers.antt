-- `turn_block::turned_block` meets its contract. Assumes nothing.
use mathlib.Core.Path.{sym, ap, ap₂, ◌∙◌}
use mathlib.Core.List.{List}
use Prim.Native.Nat.{ℕ}
use borrow.Author.Rules.{rules}
use native.Mathlib.Numerals.{add-one}
use native.Mathlib.Omega.{arith}
use lib.ListN.{get_or}
use Rattle.words.proofs.Parts.{put_all}
use Rattle.counter.specs.Counter.{counter_block}
use Rattle.counter.proofs.Laws.{length-counter_block}
use Rattle.turn_block.proofs.Laws.{below-turned-minors}
use Rattle.turn_block.proofs.turned_block.Goals as goal

pub pack-requires : goal.pack-requires
pack-requires c =
    record {
      minors_len = search rules;
      by_index = λ i. omega (
        arith,
        ap (λ (l : List ℕ). get_or l i 0) c.turn_minors.ensures,
        (below-turned-minors c.args.minors.now).at i,
      );
    }

pub returns : goal.returns
returns c =
    c.pack.ensures ∙ put_all c.args.block.now _ (length-counter_block _ _ ∙ sym c.requires.1.0)
    ∙ ap₂ {C = List ℕ} counter_block (add-one c.args.major) c.turn_minors.ensures
