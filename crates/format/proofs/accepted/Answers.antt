-- `format::accepted` meets its contract. Assumes nothing.
use mathlib.Core.Path.{◌≡◌, sym, ◌∙◌}
use Prim.Native.Nat.{ℕ}
use native.Mathlib.Omega.{arith}
use Rattle.calls.specs.Call.{buffers, judged, length_tests}
use Rattle.calls.specs.Format.{format_refusal}
use Rattle.call_laws.proofs.Judged.{here, on, end, unlike-true, unlike-false}
use Rattle.format.proofs.Laws.{too-flat, too-deep, no-family, wrong-keys, wrong-control, lengths-judge}
use Rattle.format.proofs.accepted.Goals as goal

pub returns-then-depth-lt1 : goal.returns-then-depth-lt1
returns-then-depth-lt1 c = too-flat _ _ _ _ (omega arith)

pub returns-then-depth-gt3 : goal.returns-then-depth-gt3
returns-then-depth-gt3 c = too-deep _ _ _ _ (omega arith) (omega arith)

pub returns-then-family-gt1 : goal.returns-then-family-gt1
returns-then-family-gt1 c = no-family _ _ _ _ (omega arith) (omega arith) (omega arith)

pub returns-then-keys-ne48 : goal.returns-then-keys-ne48
returns-then-keys-ne48 c = wrong-keys _ _ _ _ (omega arith) (omega arith) (omega arith) c.if-keys-ne48.true

pub returns-then-control-ne-LENGTH : goal.returns-then-control-ne-LENGTH
returns-then-control-ne-LENGTH c = wrong-control _ _ _ _ (omega arith) (omega arith) (omega arith) (omega arith) c.if-control-ne-LENGTH.true

pub returns-then-array-array_length : goal.returns-then-array-array_length
returns-then-array-array_length c =
    let lengths : (r : ℕ) → let m = buffers c.args.array.now c.args.control.now c.args.cache.now in r ≡ judged (length_tests c.args.depth m) → r ≡ format_refusal c.args.keys.now c.args.depth c.args.family m = λ r. lengths-judge _ _ _ _ (omega arith) (omega arith) (omega arith) (omega arith) (omega arith) in
    lengths _ (here _ _ _ (unlike-true (λ e. c.if-array-array_length.true (e ∙ sym c.array_length.ensures))))

pub returns-then-cache-cache_length : goal.returns-then-cache-cache_length
returns-then-cache-cache_length c =
    let lengths : (r : ℕ) → let m = buffers c.args.array.now c.args.control.now c.args.cache.now in r ≡ judged (length_tests c.args.depth m) → r ≡ format_refusal c.args.keys.now c.args.depth c.args.family m = λ r. lengths-judge _ _ _ _ (omega arith) (omega arith) (omega arith) (omega arith) (omega arith) in
    lengths _ (on _ _ _ (unlike-false (c.if-array-array_length.false ∙ c.array_length.ensures))
    (here _ _ _ (unlike-true (λ e. c.if-cache-cache_length.true (e ∙ sym c.cache_length.ensures)))))

pub returns : goal.returns
returns c =
    let lengths : (r : ℕ) → let m = buffers c.args.array.now c.args.control.now c.args.cache.now in r ≡ judged (length_tests c.args.depth m) → r ≡ format_refusal c.args.keys.now c.args.depth c.args.family m = λ r. lengths-judge _ _ _ _ (omega arith) (omega arith) (omega arith) (omega arith) (omega arith) in
    lengths _ (on _ _ _ (unlike-false (c.if-array-array_length.false ∙ c.array_length.ensures))
    (on _ _ _ (unlike-false (c.if-cache-cache_length.false ∙ c.cache_length.ensures)) end))
