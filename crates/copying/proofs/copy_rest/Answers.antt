-- `copying::copy_rest` meets its contract. Assumes nothing.
use mathlib.Core.Path.{◌≡◌, ap, ◌∙◌}
use mathlib.Core.List.{List}
use Prim.Native.Nat.{ℕ, ◌+◌, ◌-◌}
use native.Mathlib.Omega.{arith}
use Rattle.words.specs.Bytes.{to_le, part, put}
use Rattle.words.proofs.Parts.{word-part, copy_more}
use Rattle.copying.proofs.copy_rest.Goals as goal

pub returns : goal.returns
returns c =
    let first = ap (to_le 8) c.load.ensures
    ∙ word-part c.args.src.now c.args.from 8 (omega arith) (record { at = λ i. (c.type_inv.src i).fits }) in
    let all : 8 + (c.args.n - 8) ≡ c.args.n = omega arith in
    c.copy_bytes-2.ensures
    ∙ ap (λ (d : List ℕ). put d (c.args.to + 8) (part c.args.src.now (c.args.from + 8) (c.args.n - 8)))
    (c.store.ensures ∙ ap (put c.args.dst.now c.args.to) first)
    ∙ copy_more c.args.dst.now c.args.to c.args.src.now c.args.from 8 (c.args.n - 8) (omega arith) (omega arith)
    ∙ ap (λ (k : ℕ). put c.args.dst.now c.args.to (part c.args.src.now c.args.from k)) all
