-- `turn_store::store_page` meets its contract. Assumes nothing.
use mathlib.Core.Path.{◌≡◌, refl, ap, ap₂, ◌∙◌}
use mathlib.Core.List.{List}
use Prim.Native.Nat.{ℕ, ◌≤◌}
use borrow.Author.Rules.{rules}
use lib.ListN.{length, get_or}
use Rattle.memory_map.specs.Map.{on_path}
use Rattle.slot_map.specs.Slots.{slot_of}
use Rattle.counter.specs.Counter.{turned}
use Rattle.turn_block.proofs.Laws.{length-turned}
use Rattle.cache.specs.Cache.{owner, current}
use Rattle.renewal.specs.Renewed.{renewed_tag, renewed_by}
use Rattle.line_store.proofs.Held.{path-owners}
use Rattle.turn_store.proofs.Turning.{ready, minors-size}
use Rattle.turn_store.proofs.Stored.{new-block, new-root, page-cut, page-done}
use Rattle.turn_store.proofs.store_page.Goals as goal

pub turned_block-requires : goal.turned_block-requires
turned_block-requires c = (minors-size c.requires.1.1, (search rules, c.requires.1.1.next))

pub run_batches-made-requires : goal.run_batches-made-requires
run_batches-made-requires c =
    let y = ready c.requires.1.1 (record { at = λ i. (c.slice_known-2-1.given i).fits })
    (record { at = λ i. (c.slice_known-1.given i).fits }) (record { at = λ i. (c.slice_known-3-1.given i).fits }) in
    let block : c.turned_block.new.block ≡ turned (current c.args.h c.args.array.now c.args.cache.now 0 c.args.t.now.p) = new-block y c.requires.1.1 c.args.keys.now c.turned_block.ensures in
    let tags : (l : ℕ) → l ≤ c.args.h → get_or c.path_tags-tags.result l 0 ≡ renewed_tag c.args.h c.args.keys.now c.args.array.now c.args.cache.now c.args.t.now.p (turned (current c.args.h c.args.array.now c.args.cache.now 0 c.args.t.now.p)) l = λ l q. c.path_tags-tags.ensures l q
    ∙ ap (λ (b : List ℕ). renewed_tag c.args.h c.args.keys.now c.args.array.now c.args.cache.now c.args.t.now.p b l) block in
    record {
      keys_len = (c.requires.0, c.requires.1.1);
      block_value = (
        block,
        new-root y c.requires.1.1 c.args.keys.now c.requires.1.0 c.args.allowance c.path_tags-tags.result
            tags,
      );
    }

pub returns-in-Err : goal.returns-in-Err
returns-in-Err c =
    let y = ready c.requires.1.1 (record { at = λ i. (c.slice_known-2-1.given i).fits })
    (record { at = λ i. (c.slice_known-1.given i).fits }) (record { at = λ i. (c.slice_known-3-1.given i).fits }) in
    let block : c.turned_block.new.block ≡ turned (current c.args.h c.args.array.now c.args.cache.now 0 c.args.t.now.p) = new-block y c.requires.1.1 c.args.keys.now c.turned_block.ensures in
    let tags : (l : ℕ) → l ≤ c.args.h → get_or c.path_tags-tags.result l 0 ≡ renewed_tag c.args.h c.args.keys.now c.args.array.now c.args.cache.now c.args.t.now.p (turned (current c.args.h c.args.array.now c.args.cache.now 0 c.args.t.now.p)) l = λ l q. c.path_tags-tags.ensures l q
    ∙ ap (λ (b : List ℕ). renewed_tag c.args.h c.args.keys.now c.args.array.now c.args.cache.now c.args.t.now.p b l) block in
    rw c.into.ensures
    (page-cut y c.requires.1.1 c.args.keys.now c.requires.1.0 c.args.allowance c.path_tags-tags.result
    tags c.in-Err.ensures refl)

pub renew_path-requires : goal.renew_path-requires
renew_path-requires c =
    let y = ready c.requires.1.1 (record { at = λ i. (c.slice_known-2-1.given i).fits })
    (record { at = λ i. (c.slice_known-1.given i).fits }) (record { at = λ i. (c.slice_known-3-1.given i).fits }) in
    let block : c.turned_block.new.block ≡ turned (current c.args.h c.args.array.now c.args.cache.now 0 c.args.t.now.p) = new-block y c.requires.1.1 c.args.keys.now c.turned_block.ensures in
    record {
      le_h = (
        c.requires.1.1.sized.deep,
        (
          c.requires.1.1.sized.flat,
          (
            c.load_missing.auto.cache ∙ c.requires.1.1.sized.cache,
            (c.requires.1.1.page, ap length block ∙ length-turned _),
          ),
        ),
      );
      by_index = λ l q. ap (λ (x : List ℕ). owner x (slot_of l (on_path c.args.t.now.p l))) c.load_missing.ensures
          ∙ path-owners c.args.h c.requires.1.1.sized.flat c.args.t.now.p c.requires.1.1.page c.run_batches-made.new.array
          (c.run_batches-made.auto.array ∙ c.requires.1.1.sized.array) c.args.cache.now c.requires.1.1.sized.cache l q;
    }

pub returns : goal.returns
returns c =
    let y = ready c.requires.1.1 (record { at = λ i. (c.slice_known-2-1.given i).fits })
    (record { at = λ i. (c.slice_known-1.given i).fits }) (record { at = λ i. (c.slice_known-3-1.given i).fits }) in
    let block : c.turned_block.new.block ≡ turned (current c.args.h c.args.array.now c.args.cache.now 0 c.args.t.now.p) = new-block y c.requires.1.1 c.args.keys.now c.turned_block.ensures in
    let tags : (l : ℕ) → l ≤ c.args.h → get_or c.path_tags-tags.result l 0 ≡ renewed_tag c.args.h c.args.keys.now c.args.array.now c.args.cache.now c.args.t.now.p (turned (current c.args.h c.args.array.now c.args.cache.now 0 c.args.t.now.p)) l = λ l q. c.path_tags-tags.ensures l q
    ∙ ap (λ (b : List ℕ). renewed_tag c.args.h c.args.keys.now c.args.array.now c.args.cache.now c.args.t.now.p b l) block in
    page-done y c.requires.1.1 c.args.keys.now c.requires.1.0 c.args.allowance c.path_tags-tags.result tags
    c.in-Ok.ensures c.run_batches-made.auto.array refl c.renew_path.new.cache
    (c.renew_path.ensures
    ∙ ap₂ {C = List ℕ} (λ (x b : List ℕ). renewed_by x c.args.t.now.p b _ c.path_tags-tags.result c.args.h) c.load_missing.ensures block)
