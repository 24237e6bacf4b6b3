-- `line_text::give` meets its contract. Assumes nothing.
use mathlib.Core.Path.{sym, ap, ◌∙◌}
use mathlib.Core.Bool.{Bool, cond}
use borrow.Author.Tests.{eq-eqb}
use lib.ListN.{length}
use Rattle.words.proofs.Parts.{put_all}
use Rattle.pad.specs.Pad.{pad, xor_bytes}
use Rattle.answer.specs.declared.Answer.TheVariants.{Done, Blank}
use Rattle.cache.specs.Cache.{cell_content}
use Rattle.calls.specs.Read.{blank_text}
use Rattle.calls.proofs.Blank.{blank-length}
use Rattle.line_text.proofs.Laws.{cell-size}
use Rattle.line_text.proofs.give.Goals as goal

pub returns-then-minor-eq0 : goal.returns-then-minor-eq0
unfolding blank_text
returns-then-minor-eq0 c =
    let t = eq-eqb c.args.minor 0 c.if-minor-eq0.true in
    record {
      value = ap (λ (b : Bool). cond b (Blank c.args.stores) (Done c.args.stores 0)) (sym t);
      out_after = c.fill.ensures ∙ put_all c.args.out.now blank_text (blank-length ∙ sym c.requires.1.1.1.1)
          ∙ ap (λ (b : Bool). cond b blank_text
          (xor_bytes (cell_content c.args.array.now c.args.line) (pad c.args.keys.now c.args.line c.args.major c.args.minor))) (sym t);
    }

pub apply-requires : goal.apply-requires
apply-requires c = (
  c.requires.0,
  (
    ap length c.in_cell.ensures
        ∙ cell-size c.args.array.now c.args.line c.requires.1.0,
    c.requires.1.1.1.1,
  ),
)
