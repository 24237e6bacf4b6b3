use Rattle.std.proofs.Common.{◌≡◌, set, take}
use Rattle.words.specs.Bytes.{words_of}
use Rattle.siphash.specs.SipHash.{initial, compress_all}
use Rattle.siphash_message.proofs.absorb_changed.Given as goal

abbrev pub invariant-loop-i : goal.invariant-loop-i
invariant-loop-i l = l.r ≡ compress_all (initial l.k0 l.k1) (take l.i (set (words_of 8 l.n l.s) l.j l.x))
