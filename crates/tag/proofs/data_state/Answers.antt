-- `tag::data_state` meets its contract. Assumes nothing.
use Rattle.std.proofs.Common.{◌≡◌, ℕ, ◌*◌, List, [], ◌∷◌, ap, ap₂, sym, ◌∙◌, rules}
use Rattle.words.specs.Bytes.{from_le, part, words_of}
use Rattle.words.proofs.Words.{get_d_words, length-words}
use Rattle.siphash.specs.SipHash.{initial, compress, compress_all}
use Rattle.siphash.proofs.Messages.{compress-append}
use Rattle.tag.specs.States.{data_state}
use Rattle.tag.proofs.data_state.Goals as goal

pub returns : goal.returns
unfolding data_state compress_all
returns c =
    let words = words_of 8 8 c.args.content.now in
    let keyed = initial (from_le (part c.args.keys.now 32 8)) (from_le (part c.args.keys.now 40 8)) in
    let all = c.compress_each-w.ensures words (length-words 8 8 c.args.content.now)
    (λ i m below read.
    let word : m ≡ from_le (part c.args.content.now (i * 8) 8) = search rules in
    word ∙ sym (get_d_words 8 8 c.args.content.now i below))
    in
    let v = all ∙ ap (λ (x : List ℕ). compress_all x words) (c.start-v.ensures ∙ ap₂ initial c.load.ensures c.load-2.ensures) in
    let w = c.compress.ensures ∙ ap (λ (x : List ℕ). compress x c.args.line) v in
    c.compress-2.ensures ∙ ap (λ (x : List ℕ). compress x c.args.major) w
    ∙ sym (compress-append keyed words (c.args.line ∷ c.args.major ∷ []))
