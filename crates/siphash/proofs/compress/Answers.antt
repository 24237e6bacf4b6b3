-- `siphash::compress` meets its contract, from what two rounds ensure.
-- Assumes nothing.
use Rattle.std.proofs.Common.{ℕ, List, [], ◌∷◌, get_or, ap, ◌∙◌}
use lib.Bits.{bit_xor}
use Rattle.siphash.specs.SipHash.{sip_round, compress as compressed}
use Rattle.siphash.proofs.compress.Goals as goal

pub returns : goal.returns
unfolding compressed
returns c =
    ap (λ (r : List ℕ). bit_xor (get_or r 0 0) c.args.m ∷ get_or r 1 0 ∷ get_or r 2 0 ∷ get_or r 3 0 ∷ [])
    (c.sip_round-r.ensures ∙ ap sip_round c.sip_round.ensures)
