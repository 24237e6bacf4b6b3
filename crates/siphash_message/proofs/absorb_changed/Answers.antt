-- `siphash_message::absorb_changed` meets its contract. The loop's invariant: `r` is the state after the first `i` words.
-- Assumes nothing.
use mathlib.Core.Path.{◌≡◌, ◌∙◌, ap, sym}
use Prim.Native.Nat.{ℕ, ◌*◌}
use native.Mathlib.Omega.{arith}
use lib.ListN.{get_or, set, length-set}
use lib.Seq.{take_all, get_or-set_same, get_or-set_other}
use Rattle.words.specs.Bytes.{from_le, part, words_of}
use Rattle.words.proofs.Words.{get_d_words, length-words}
use Rattle.siphash.specs.SipHash.{initial, compress_all}
use Rattle.siphash.proofs.Messages.{compress-next}
use Rattle.siphash_message.proofs.absorb_changed.Goals as goal
use Rattle.siphash_message.proofs.absorb_changed.Goals.{then-i-j, else-i-j}

pub loop-i-init : goal.loop-i-init
unfolding compress_all words_of
loop-i-init c = c.start-r.ensures

pub loop-i-preserved : goal.loop-i-preserved
loop-i-preserved c =
    let ws = words_of 8 c.args.n c.args.s.now in
    let changed = set ws c.args.j c.args.x in
    let place : 8 * c.loop-i.i ≡ c.loop-i.i * 8 = omega arith in
    let word : c.if-i-j.w ≡ get_or changed c.loop-i.i 0 =
    elim c.if-i-j.branch [
      | then-i-j w ↦
          let same : c.args.j ≡ c.loop-i.i = omega arith in
          w.w-is ∙ sym (get_or-set_same ws c.args.j c.args.x 0 (rw length-words (omega arith))) ∙ ap (λ (m : ℕ). get_or changed m 0) same
      | else-i-j w ↦
          let read = c.load-w.ensures ∙ ap (λ (m : ℕ). from_le (part c.args.s.now m 8)) place ∙ sym (get_d_words 8 c.args.n c.args.s.now c.loop-i.i (omega arith)) in
          w.w-is ∙ read ∙ sym (get_or-set_other ws c.args.j c.loop-i.i c.args.x 0 (λ e. omega arith))
    ] in
    let key = initial c.args.k0 c.args.k1 in
    let next = compress-next key changed c.loop-i.i (rw (length-set, length-words) (omega arith)) c.loop-i.invariant word in
    c.compress-next.ensures ∙ next

pub returns : goal.returns
returns c =
    let changed = set (words_of 8 c.args.n c.args.s.now) c.args.j c.args.x in
    let all = take_all c.loop-i.i changed (rw (length-set, length-words) (omega arith)) in
    c.loop-i.invariant ∙ ap (compress_all (initial c.args.k0 c.args.k1)) all
