-- `siphash::finalize` meets its contract, from what four rounds ensure.
-- Assumes nothing.
use Rattle.std.proofs.Common.{ℕ, List, get_or, ap, ◌∙◌}
use lib.Bits.{bit_xor}
use Rattle.siphash.specs.SipHash.{sip_round, finalize as finalized}
use Rattle.siphash.proofs.finalize.Goals as goal

pub returns : goal.returns
unfolding finalized
returns c =
    let two = c.sip_round-a.ensures ∙ ap sip_round c.sip_round.ensures in
    ap (λ (r : List ℕ). bit_xor (bit_xor (get_or r 0 0) (get_or r 1 0)) (bit_xor (get_or r 2 0) (get_or r 3 0)))
    (c.sip_round-r.ensures ∙ ap sip_round (c.sip_round-2.ensures ∙ ap sip_round two))
