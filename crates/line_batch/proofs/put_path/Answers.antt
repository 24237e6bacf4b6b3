-- `line_batch::put_path` meets its contract. Assumes nothing.
use mathlib.Core.Path.{sym, ap, ◌∙◌}
use mathlib.Core.List.{List, []}
use Prim.Native.Nat.{suc}
use lib.ListN.{length}
use Rattle.control.specs.Control.{Cell}
use Rattle.batch.specs.Batch.{staged_from}
use Rattle.batch.proofs.Laws.{staged-none}
use Rattle.call_laws.proofs.Loads.{none-missing}
use Rattle.line_batch.proofs.put_path.Goals as goal

pub returns-then-missing-eq0 : goal.returns-then-missing-eq0
returns-then-missing-eq0 c =
    let none = (none-missing c.args.h [] c.args.cache.now c.args.p (suc c.args.h)
    (sym c.requires.control_len.1.1 ∙ c.if-missing-eq0.true)).0 in
    record { control_after = staged-none c.args.allowance 0 c.args.control.now ∙ ap (λ (x : List Cell). staged_from c.args.allowance 0 x c.args.control.now) (sym none); value = sym (ap length none) }
