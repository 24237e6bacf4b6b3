-- `copying::copy` meets its contract. Assumes nothing.
use mathlib.Core.Path.{◌≡◌, ap, ◌∙◌}
use mathlib.Core.List.{List}
use Prim.Native.Nat.{ℕ, ◌+◌, ◌*◌, ◌-◌, ◌/◌}
use native.Mathlib.Omega.{arith}
use Rattle.words.specs.Bytes.{part, put}
use Rattle.words.proofs.Parts.{copy_more}
use Rattle.copying.proofs.copy.Goals as goal

pub returns : goal.returns
returns c =
    let whole = c.args.n / 16 * 16 in
    let even : 16 * (c.args.n / 16) ≡ whole = omega arith in
    let all : whole + (c.args.n - whole) ≡ c.args.n = omega arith in
    c.copy_rest.ensures
    ∙ ap (λ (l : List ℕ). put l (c.args.to + whole) (part c.args.src.now (c.args.from + whole) (c.args.n - whole)))
    (c.copy_pairs.ensures ∙ ap (λ (k : ℕ). put c.args.dst.now c.args.to (part c.args.src.now c.args.from k)) even)
    ∙ copy_more c.args.dst.now c.args.to c.args.src.now c.args.from whole (c.args.n - whole) (omega arith) (omega arith)
    ∙ ap (λ (k : ℕ). put c.args.dst.now c.args.to (part c.args.src.now c.args.from k)) all
