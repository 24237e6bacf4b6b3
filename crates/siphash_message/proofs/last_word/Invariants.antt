use Rattle.std.proofs.Common.{◌≡◌, ◌^◌, ◌<◌, ◌≤◌, drop}
use Rattle.words.specs.Bytes.{from_le}
use Rattle.siphash_message.proofs.last_word.Given as goal

abbrev pub invariant-loop-i : goal.invariant-loop-i
invariant-loop-i l = (l.i-start ≤ l.i) × (l.sum ≡ from_le (drop l.i l.s)) × (l.sum < 2 ^ 56)
