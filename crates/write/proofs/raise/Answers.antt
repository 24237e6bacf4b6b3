-- `write::raise` meets its contract. Assumes nothing.
use mathlib.Core.Path.{◌≡◌, refl, sym, ap, ap₂, ◌∙◌, subst}
use mathlib.Core.List.{List}
use Prim.Native.Nat.{ℕ}
use native.Mathlib.Omega.{arith}
use lib.ListN.{length}
use Rattle.memory_map.specs.Map.{InMap, page_of, place_of}
use Rattle.memory_map.specs.Map.Item.{node}
use Rattle.memory_map.proofs.Laws.{page-node}
use Rattle.counter.specs.Counter.{with_minor}
use Rattle.cache.specs.Cache.{current}
use Rattle.calls.specs.Call.{Called, buffers}
use Rattle.node.proofs.Laws.{current-length}
use Rattle.line_store.specs.Stored.{stored_line}
use Rattle.write.proofs.raise.Goals as goal

pub current-old-requires : goal.current-old-requires
current-old-requires c =
    let inside : InMap c.args.h (node 0 c.page_of.result) = subst (λ (i : ℕ). InMap c.args.h (node 0 i)) (sym c.page_of.ensures)
    (page-node c.args.h c.args.w.line c.requires.control_len.1.1.1.0) in
    (c.requires.control_len.1.0, inside)

pub with_minor-requires : goal.with_minor-requires
with_minor-requires c =
    let inside : InMap c.args.h (node 0 c.page_of.result) = subst (λ (i : ℕ). InMap c.args.h (node 0 i)) (sym c.page_of.ensures)
    (page-node c.args.h c.args.w.line c.requires.control_len.1.1.1.0) in (
      ap length c.current-old.ensures ∙ current-length 0 _ c.requires.control_len.1.0 inside,
      (refl, (omega (arith, c.place_of.ensures), c.requires.keys_len.1.1)),
    )

pub returns : goal.returns
returns c =
    let new-block : c.with_minor.new.out ≡ with_minor (current c.args.h c.args.array.now c.args.cache.now 0 (page_of c.args.w.line)) (place_of c.args.w.line) c.args.w.minor = c.with_minor.ensures
    ∙ ap₂ {C = List ℕ} (λ (b : List ℕ) (j : ℕ). with_minor b j c.args.w.minor)
    (c.current-old.ensures ∙ ap (current c.args.h c.args.array.now c.args.cache.now 0) c.page_of.ensures)
    c.place_of.ensures in
    c.store_line.ensures
    ∙ ap₂ {C = Called} (λ (f : ℕ) (b : List ℕ). stored_line c.args.h f c.args.keys.now c.args.w.line c.args.text.now c.args.w.major c.args.w.minor b
    c.args.allowance (buffers c.args.array.now c.args.control.now c.args.cache.now))
    c.family-family.ensures new-block
