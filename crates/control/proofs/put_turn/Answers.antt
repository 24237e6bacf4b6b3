-- `control::put_turn` meets its contract. Assumes nothing.
use mathlib.Core.Path.{sym, ap, ◌∙◌}
use mathlib.Core.List.{List}
use Prim.Native.Nat.{ℕ}
use native.Mathlib.Omega.{arith}
use lib.ListN.{set}
use Rattle.words.specs.Bytes.{to_le, put}
use Rattle.words.proofs.Digits.{length_digits}
use Rattle.words.proofs.Puts.{put-comm}
use Rattle.control.proofs.Laws.{turn-put}
use Rattle.control.proofs.put_turn.Goals as goal

pub returns : goal.returns
returns c =
    let k = c.args.control.now in
    let bits = length_digits 256 8 c.args.mask in
    let page = length_digits 256 8 c.args.page in
    ap (λ (l : List ℕ). set l 664 c.args.count) (c.store-2.ensures
    ∙ ap (λ (l : List ℕ). put l 665 (to_le 8 c.args.page)) c.store.ensures
    ∙ sym (put-comm k 665 (to_le 8 c.args.page) 673 (to_le 8 c.args.mask) (omega (arith, page)) (omega (arith, bits, c.requires))))
    ∙ turn-put k c.args.count c.args.page c.args.mask c.requires
