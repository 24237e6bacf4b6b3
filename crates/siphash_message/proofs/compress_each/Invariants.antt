use Rattle.std.proofs.Common.{◌≡◌, ℕ, ◌<◌, List, length, get_or, take}
use Rattle.siphash.specs.SipHash.{compress_all}
use Rattle.siphash_message.proofs.compress_each.Given as goal

abbrev pub invariant-loop-i : goal.invariant-loop-i
invariant-loop-i g l =
    (ws : List ℕ) → length ws ≡ l.n → ((i : ℕ) (m : ℕ) → i < l.n → goal.F-post g l.word i m → m ≡ get_or ws i 0)
    → l.r ≡ compress_all l.initial.r (take l.i ws)
