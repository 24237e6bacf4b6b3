-- `copying::copy_pair` meets its contract. Assumes nothing.
use mathlib.Core.Path.{ap, ap₂, ◌∙◌}
use mathlib.Core.List.{List}
use Prim.Native.Nat.{ℕ, ◌+◌}
use native.Mathlib.Omega.{arith}
use Rattle.words.specs.Bytes.{to_le, put}
use Rattle.words.proofs.Digits.{Below}
use Rattle.words.proofs.Parts.{word-part, copy_more}
use Rattle.copying.proofs.copy_pair.Goals as goal

pub returns : goal.returns
returns c =
    let bytes : Below 256 c.args.src.now = record { at = λ i. (c.type_inv.src i).fits } in
    let low = c.store.ensures ∙ ap (put c.args.dst.now c.args.to)
    (ap (to_le 8) c.load-first.ensures ∙ word-part c.args.src.now c.args.from 8 (omega arith) bytes) in
    let high = ap (to_le 8) c.load-second.ensures ∙ word-part c.args.src.now (c.args.from + 8) 8 (omega arith) bytes in
    c.store-2.ensures ∙ ap₂ {C = List ℕ} (λ (d b : List ℕ). put d (c.args.to + 8) b) low high
    ∙ copy_more c.args.dst.now c.args.to c.args.src.now c.args.from 8 8 (omega arith) (omega arith)
