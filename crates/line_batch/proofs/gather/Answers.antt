-- `line_batch::gather` meets its contract. Assumes nothing.
use mathlib.Core.Path.{sym, ap, ◌∙◌}
use Prim.Native.Nat.{ℕ, suc}
use native.Mathlib.Omega.{arith}
use Rattle.call_laws.specs.Walk.{missing}
use Rattle.line_batch.proofs.Laws.{few, gathered}
use Rattle.line_batch.proofs.gather.Goals as goal

pub put_path-i-requires : goal.put_path-i-requires
put_path-i-requires c =
    let few = few c.args.h c.args.family c.args.keys.now c.args.cache.now c.args.w.line c.args.text.now c.args.w.major c.args.w.minor c.args.block.now
    c.page_of-p.ensures c.requires.le_h.1.0 c.requires.le_h.1.1.1.1 c.requires.control_len.1.1 in
    record {
      le_h = (c.requires.le_h.0, (c.requires.le_h.1.0, (c.requires.le_h.1.1.0, (c.requires.le_h.1.1.1.0, few.page))));
      control_len = (
        c.requires.control_len.0,
        (
          omega (arith, few.path),
          c.requires.control_len.1.0
              ∙ ap (λ (p : ℕ). missing c.args.cache.now p (suc c.args.h)) (sym c.page_of-p.ensures),
        ),
      );
    }

pub put_due_block-held-requires : goal.put_due_block-held-requires
put_due_block-held-requires c =
    let few = few c.args.h c.args.family c.args.keys.now c.args.cache.now c.args.w.line c.args.text.now c.args.w.major c.args.w.minor c.args.block.now
    c.page_of-p.ensures c.requires.le_h.1.0 c.requires.le_h.1.1.1.1 c.requires.control_len.1.1 in (
      c.requires.le_h.0,
      (
        c.requires.le_h.1.0,
        (
          few.page,
          (
            c.requires.keys_len.1.1.1,
            (
              c.put_path-i.auto.control
                  ∙ c.requires.control_len.0,
              omega (arith, c.put_path-i.ensures.value, few.path),
            ),
          ),
        ),
      ),
    )

pub put_data-requires : goal.put_data-requires
put_data-requires c =
    let few = few c.args.h c.args.family c.args.keys.now c.args.cache.now c.args.w.line c.args.text.now c.args.w.major c.args.w.minor c.args.block.now
    c.page_of-p.ensures c.requires.le_h.1.0 c.requires.le_h.1.1.1.1 c.requires.control_len.1.1 in (
      c.requires.keys_len.0,
      (
        few.word,
        (
          c.requires.keys_len.1.0,
          (
            c.requires.keys_len.1.1.0,
            (
              c.put_due_block-held.auto.control ∙ c.put_path-i.auto.control ∙ c.requires.control_len.0,
              omega (arith, c.put_due_block-held.ensures.value, c.put_path-i.ensures.value, few.both),
            ),
          ),
        ),
      ),
    )

pub overflow_add-result : goal.overflow_add-result
overflow_add-result c =
    let few = few c.args.h c.args.family c.args.keys.now c.args.cache.now c.args.w.line c.args.text.now c.args.w.major c.args.w.minor c.args.block.now
    c.page_of-p.ensures c.requires.le_h.1.0 c.requires.le_h.1.1.1.1 c.requires.control_len.1.1 in
    omega (arith, c.put_due_block-held.ensures.value, c.put_path-i.ensures.value, few.both)

pub returns : goal.returns
returns c =
    let r = gathered c.args.h c.args.family c.args.keys.now c.args.cache.now c.args.w.line c.args.text.now c.args.w.major c.args.w.minor c.args.block.now c.args.allowance
    c.page_of-p.result c.page_of-p.ensures
    c.args.control.now c.put_path-i.new.control c.put_due_block-held.new.control
    c.put_data.new.control
    c.put_path-i.result c.put_due_block-held.result
    c.put_path-i.ensures.control_after c.put_path-i.ensures.value c.put_due_block-held.ensures.control_after c.put_due_block-held.ensures.value
    c.put_data.ensures in record { control_after = r.0; value = r.1 }
