-- `line_store::store_line` meets its contract. Assumes nothing.
use mathlib.Core.Path.{◌≡◌, refl, sym, ap, ap₂, ◌∙◌}
use mathlib.Core.List.{List}
use Prim.Native.Nat.{ℕ, suc, ◌≤◌, ◌<◌}
use mathlib.Core.Bool.{cond}
use lib.Dec.{eqb}
use native.Mathlib.Omega.{arith}
use lib.ListN.{get_or}
use Rattle.memory_map.specs.Map.{pages, page_of, on_path}
use Rattle.slot_map.specs.Slots.{slot_of}
use Rattle.counter.specs.Counter.{lag}
use Rattle.cache.specs.Cache.{owner}
use Rattle.journal.specs.Journal.{media}
use Rattle.journal.proofs.Steps.{Ran}
use Rattle.call_laws.specs.Walk.{missing, with_path}
use Rattle.call_laws.proofs.Staged.{staged-inside}
use Rattle.renewal.specs.Renewed.{renewed_tag, renewed_by}
use Rattle.line_store.proofs.Held.{path-owners}
use Rattle.line_store.proofs.Batch.{ready, lent, batch-length, staging, write-cut, write_done}
use Rattle.line_store.proofs.store_line.Goals as goal

pub path_tags-tags-requires : goal.path_tags-tags-requires
path_tags-tags-requires c =
    let y = ready c.requires.control_len (record { at = λ i. (c.slice_known-2-1.given i).fits })
    (record { at = λ i. (c.slice_known-1.given i).fits }) (record { at = λ i. (c.slice_known-3-1.given i).fits }) in
    let v = lent {h = c.args.h} c.requires.control_len.1.1.1.0 c.requires.keys_len.1.0 c.requires.keys_len.1.1.1
    (record { at = λ i. (c.type_inv.text i).fits }) (record { at = λ i. (c.type_inv.block i).fits }) in
    (c.requires.keys_len.0, (y.sized, (omega (arith, c.page_of-p.ensures, y.page), v.wide)))

pub gather-n-requires : goal.gather-n-requires
gather-n-requires c =
    let y = ready c.requires.control_len (record { at = λ i. (c.slice_known-2-1.given i).fits })
    (record { at = λ i. (c.slice_known-1.given i).fits }) (record { at = λ i. (c.slice_known-3-1.given i).fits }) in
    let v = lent {h = c.args.h} c.requires.control_len.1.1.1.0 c.requires.keys_len.1.0 c.requires.keys_len.1.1.1
    (record { at = λ i. (c.type_inv.text i).fits }) (record { at = λ i. (c.type_inv.block i).fits }) in
    record {
      keys_len = c.requires.keys_len;
      le_h = (y.sized.deep, (y.sized.flat, (y.sized.cache, (y.shaped, v.inside))));
      control_len = (
        y.control,
        (c.requires.control_len.1.1.1.1, (batch-length y c.args.family c.args.keys.now v c.args.w.major c.args.w.minor).1),
      );
    }

pub run-stores-requires : goal.run-stores-requires
run-stores-requires c =
    let y = ready c.requires.control_len (record { at = λ i. (c.slice_known-2-1.given i).fits })
    (record { at = λ i. (c.slice_known-1.given i).fits }) (record { at = λ i. (c.slice_known-3-1.given i).fits }) in
    let v = lent {h = c.args.h} c.requires.control_len.1.1.1.0 c.requires.keys_len.1.0 c.requires.keys_len.1.1.1
    (record { at = λ i. (c.type_inv.text i).fits }) (record { at = λ i. (c.type_inv.block i).fits }) in
    let staged = staging y c.args.family c.args.keys.now v c.args.w.major c.args.w.minor c.gather-n.ensures.control_after c.gather-n.ensures.value in (
      c.gather-n.auto.control ∙ y.control,
      ((omega (arith, staged.some, staged.number), omega (arith, staged.few, staged.number)), staged-inside staged),
    )

pub overflow_mul-n : goal.overflow_mul-n
overflow_mul-n c =
    let y = ready c.requires.control_len (record { at = λ i. (c.slice_known-2-1.given i).fits })
    (record { at = λ i. (c.slice_known-1.given i).fits }) (record { at = λ i. (c.slice_known-3-1.given i).fits }) in
    let v = lent {h = c.args.h} c.requires.control_len.1.1.1.0 c.requires.keys_len.1.0 c.requires.keys_len.1.1.1
    (record { at = λ i. (c.type_inv.text i).fits }) (record { at = λ i. (c.type_inv.block i).fits }) in
    let staged = staging y c.args.family c.args.keys.now v c.args.w.major c.args.w.minor c.gather-n.ensures.control_after c.gather-n.ensures.value in
    omega (arith, staged.few, staged.number)

pub overflow_add-n : goal.overflow_add-n
overflow_add-n c =
    let y = ready c.requires.control_len (record { at = λ i. (c.slice_known-2-1.given i).fits })
    (record { at = λ i. (c.slice_known-1.given i).fits }) (record { at = λ i. (c.slice_known-3-1.given i).fits }) in
    let v = lent {h = c.args.h} c.requires.control_len.1.1.1.0 c.requires.keys_len.1.0 c.requires.keys_len.1.1.1
    (record { at = λ i. (c.type_inv.text i).fits }) (record { at = λ i. (c.type_inv.block i).fits }) in
    let staged = staging y c.args.family c.args.keys.now v c.args.w.major c.args.w.minor c.gather-n.ensures.control_after c.gather-n.ensures.value in
    omega (arith, staged.few, staged.number)

pub returns-then-stores-n : goal.returns-then-stores-n
returns-then-stores-n c =
    let y = ready c.requires.control_len (record { at = λ i. (c.slice_known-2-1.given i).fits })
    (record { at = λ i. (c.slice_known-1.given i).fits }) (record { at = λ i. (c.slice_known-3-1.given i).fits }) in
    let v = lent {h = c.args.h} c.requires.control_len.1.1.1.0 c.requires.keys_len.1.0 c.requires.keys_len.1.1.1
    (record { at = λ i. (c.type_inv.text i).fits }) (record { at = λ i. (c.type_inv.block i).fits }) in
    let known : (l : ℕ) → l ≤ c.args.h → get_or c.path_tags-tags.result l 0 ≡ renewed_tag c.args.h c.args.keys.now c.args.array.now c.args.cache.now (page_of c.args.w.line) c.args.block.now l = λ l q. c.path_tags-tags.ensures l q
    ∙ ap (λ (p : ℕ). renewed_tag c.args.h c.args.keys.now c.args.array.now c.args.cache.now p c.args.block.now l) c.page_of-p.ensures in
    let staged = staging y c.args.family c.args.keys.now v c.args.w.major c.args.w.minor c.gather-n.ensures.control_after c.gather-n.ensures.value in
    let ran : Ran c.args.array.now c.gather-n.new.control c.gather-n.result (get_or c.path_tags-tags.result c.args.h 0) c.args.allowance (media c.run-stores.new.array c.run-stores.new.control) c.run-stores.result = record { left = c.run-stores.ensures.control_after; number = c.run-stores.ensures.value } in
    write-cut y c.args.family c.args.keys.now v c.args.w.major c.args.w.minor c.path_tags-tags.result known staged
    refl ran _ (omega (arith, c.if-stores-n.true))

pub load_missing-requires : goal.load_missing-requires
load_missing-requires c =
    let y = ready c.requires.control_len (record { at = λ i. (c.slice_known-2-1.given i).fits })
    (record { at = λ i. (c.slice_known-1.given i).fits }) (record { at = λ i. (c.slice_known-3-1.given i).fits }) in (
      record { deep = y.sized.deep; flat = y.sized.flat; array = c.run-stores.auto.array ∙ y.sized.array; cache = y.sized.cache },
      (
        omega (arith, c.page_of-p.ensures, y.page),
        c.requires.control_len.1.1.1.1 ∙ ap (λ (p : ℕ). missing c.args.cache.now p (suc c.args.h)) (sym c.page_of-p.ensures),
      ),
    )

pub renew_path-requires : goal.renew_path-requires
renew_path-requires c =
    let y = ready c.requires.control_len (record { at = λ i. (c.slice_known-2-1.given i).fits })
    (record { at = λ i. (c.slice_known-1.given i).fits }) (record { at = λ i. (c.slice_known-3-1.given i).fits }) in
    let v = lent {h = c.args.h} c.requires.control_len.1.1.1.0 c.requires.keys_len.1.0 c.requires.keys_len.1.1.1
    (record { at = λ i. (c.type_inv.text i).fits }) (record { at = λ i. (c.type_inv.block i).fits }) in
    let page : c.page_of-p.result < pages c.args.h = omega (arith, c.page_of-p.ensures, y.page) in
    let whole = c.run-stores.auto.array ∙ y.sized.array in
    record {
      le_h = (y.sized.deep, (y.sized.flat, (c.load_missing.auto.cache ∙ y.sized.cache, (page, v.wide))));
      by_index = λ l q. ap (λ (x : List ℕ). owner x (slot_of l (on_path c.page_of-p.result l))) c.load_missing.ensures
          ∙ path-owners c.args.h y.sized.flat c.page_of-p.result page c.run-stores.new.array whole c.args.cache.now y.sized.cache l q;
    }

pub returns : goal.returns
returns c =
    let y = ready c.requires.control_len (record { at = λ i. (c.slice_known-2-1.given i).fits })
    (record { at = λ i. (c.slice_known-1.given i).fits }) (record { at = λ i. (c.slice_known-3-1.given i).fits }) in
    let v = lent {h = c.args.h} c.requires.control_len.1.1.1.0 c.requires.keys_len.1.0 c.requires.keys_len.1.1.1
    (record { at = λ i. (c.type_inv.text i).fits }) (record { at = λ i. (c.type_inv.block i).fits }) in
    let known : (l : ℕ) → l ≤ c.args.h → get_or c.path_tags-tags.result l 0 ≡ renewed_tag c.args.h c.args.keys.now c.args.array.now c.args.cache.now (page_of c.args.w.line) c.args.block.now l = λ l q. c.path_tags-tags.ensures l q
    ∙ ap (λ (p : ℕ). renewed_tag c.args.h c.args.keys.now c.args.array.now c.args.cache.now p c.args.block.now l) c.page_of-p.ensures in
    let staged = staging y c.args.family c.args.keys.now v c.args.w.major c.args.w.minor c.gather-n.ensures.control_after c.gather-n.ensures.value in
    let ran : Ran c.args.array.now c.gather-n.new.control c.gather-n.result (get_or c.path_tags-tags.result c.args.h 0) c.args.allowance (media c.run-stores.new.array c.run-stores.new.control) c.run-stores.result = record { left = c.run-stores.ensures.control_after; number = c.run-stores.ensures.value } in
    let f : ℕ = cond (eqb (lag c.args.w.minor) 0) 0 1 in
    write_done y c.args.family c.args.keys.now v c.args.w.major c.args.w.minor c.path_tags-tags.result known staged
    refl ran f c.if-stores-n.false c.renew_path.new.cache
    (c.renew_path.ensures
    ∙ ap₂ {C = List ℕ} (λ (x : List ℕ) (i : ℕ). renewed_by x c.page_of-p.result c.args.block.now i c.path_tags-tags.result c.args.h) c.load_missing.ensures
    c.block_flag.ensures
    ∙ ap (λ (p : ℕ). renewed_by (with_path c.args.h c.run-stores.new.array p (suc c.args.h) c.args.cache.now) p c.args.block.now f c.path_tags-tags.result c.args.h) c.page_of-p.ensures)
