-- `siphash_message::absorb` meets its contract. Assumes nothing.
use Rattle.std.proofs.Common.{◌≡◌, List, ℕ, ◌*◌, sym, ap, ◌∙◌, rules}
use Rattle.words.specs.Bytes.{from_le, part, words_of}
use Rattle.words.proofs.Words.{get_d_words, length-words}
use Rattle.siphash.specs.SipHash.{compress_all}
use Rattle.siphash_message.proofs.absorb.Goals as goal

pub returns : goal.returns
returns c =
    let words = words_of 8 c.args.n c.args.s.now in
    c.compress_each.ensures words (length-words 8 c.args.n c.args.s.now)
    (λ i m below read.
    let word : m ≡ from_le (part c.args.s.now (i * 8) 8) = search rules in
    word ∙ sym (get_d_words 8 c.args.n c.args.s.now i below))
    ∙ ap (λ (v : List ℕ). compress_all v words) c.start.ensures
