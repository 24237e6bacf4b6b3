use Rattle.std.proofs.Common.{◌≡◌, ◌+◌, ◌*◌, length, take}
use Rattle.words.specs.Bytes.{from_le, part}
use Rattle.cache.specs.Cache.{from}
use Rattle.shadow.proofs.owners_at.Given as goal

abbrev pub invariant-loop-s : goal.invariant-loop-s
invariant-loop-s l =
    (length l.owners ≡ 10) × (take l.s l.owners ≡ from (λ k. from_le (part l.bytes (l.first + l.step * k) 8)) 0 l.s)
