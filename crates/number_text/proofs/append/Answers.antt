-- `number_text::append` meets its contract. Assumes nothing.
use mathlib.Core.Path.{refl, ap, ◌∙◌}
use mathlib.Core.List.{List}
use Prim.Native.Nat.{ℕ}
use native.Mathlib.Omega.{arith}
use lib.Seq.{take-length}
use Rattle.words.specs.Bytes.{put}
use Rattle.number_text.proofs.Spelled.{appended-put}
use Rattle.number_text.proofs.append.Goals as goal

pub returns : goal.returns
returns c =
    appended-put _ _ c.args.text.now _ _ (omega arith)
    (c.copy.ensures ∙ ap (λ (l : List ℕ). put c.args.buf.now c.args.at l) (take-length c.args.text.now)) refl
