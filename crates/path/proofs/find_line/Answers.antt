-- `path::find_line` meets its contract. Assumes nothing.
use mathlib.Core.Path.{◌≡◌, ap, ap₂, ◌∙◌}
use Prim.Native.Nat.{ℕ, suc}
use native.Mathlib.Omega.{arith}
use lib.ListN.{length}
use mathlib.Core.List.{List}
use Rattle.control.specs.Control.{root}
use Rattle.memory_map.specs.Map.{page_of}
use Rattle.counter.specs.Counter.{major, minor}
use Rattle.cache.specs.Cache.{current}
use Rattle.node.proofs.Laws.{current-length}
use Rattle.calls.specs.Path.{load_path}
use Rattle.call_laws.specs.Walk.{missing}
use Rattle.call_laws.proofs.Turn.{block_inside}
use Rattle.path.specs.Told.{told, told_of}
use Rattle.path.proofs.Laws.{page-of-line}
use Rattle.std.specs.Prelude.{Result}
use Rattle.path.specs.declared.Differs.{Differs}
use Rattle.path.proofs.find_line.Goals as goal

pub walk-path-requires : goal.walk-path-requires
walk-path-requires c = (c.requires.0, (c.requires.1.1.0, page-of-line c.args.h c.page_of-p.ensures c.requires.1.1.1))

pub current-block-requires : goal.current-block-requires
current-block-requires c = (c.requires.1.1.0, block_inside _ _ (page-of-line c.args.h c.page_of-p.ensures c.requires.1.1.1))

pub major-requires : goal.major-requires
major-requires c =
    ap length c.current-block.ensures
    ∙ current-length 0 _ c.requires.1.1.0 (block_inside _ _ (page-of-line c.args.h c.page_of-p.ensures c.requires.1.1.1))

pub minor-requires : goal.minor-requires
minor-requires c = (
  ap length c.current-block.ensures
      ∙ current-length 0 _ c.requires.1.1.0 (block_inside _ _ (page-of-line c.args.h c.page_of-p.ensures c.requires.1.1.1)),
  omega (arith, c.place_of.ensures),
)

-- what the walk told, at the page of the line
at-line : (h : ℕ) (keys a k c : List ℕ) (line : ℕ) {w : Result ℕ Differs} {p r : ℕ} → w ≡ told (missing c p (suc h)) (load_path h keys a r p c)
    → p ≡ page_of line → r ≡ root k → w ≡ told_of h keys a k c line
at-line h keys a k c line e f g =
    e ∙ ap₂ {C = Result ℕ Differs} (λ (p r : ℕ). told (missing c p (suc h)) (load_path h keys a r p c)) f g

pub returns : goal.returns
returns c =
    let block = c.current-block.ensures ∙ ap (current c.args.h c.args.array.now c.args.cache.now 0) c.page_of-p.ensures in
    record {
      walked =
          at-line c.args.h c.args.keys.now c.args.array.now c.args.control.now c.args.cache.now c.args.line
          c.walk-path.ensures c.page_of-p.ensures c.root.ensures;
      major_is = c.major.ensures ∙ ap major block;
      minor_is = c.minor.ensures ∙ ap₂ {C = ℕ} minor block c.place_of.ensures;
    }
