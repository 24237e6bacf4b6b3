-- `tag::digest` meets its contract. Assumes nothing.
use Rattle.std.proofs.Common.{◌≡◌, ℕ, List, [], ◌∷◌, ◌++◌, ap, sym, ◌∙◌}
use mathlib.Core.Bool.{Bool, cond}
use borrow.Author.Tests.{eq-eqb, ne_eqb}
use Rattle.words.specs.Bytes.{from_le, part, words_of}
use Rattle.siphash.specs.SipHash.{initial, compress, compress_all, finalize}
use Rattle.siphash.proofs.Messages.{compress-append}
use Rattle.tag.proofs.digest.Goals as goal

-- three words after the content's, and what comes after them
absorbed : {k0 k1 l0 l1 : ℕ} {v v1 v2 v3 : List ℕ} (words : List ℕ) (a b c : ℕ) → k0 ≡ l0 → k1 ≡ l1
    → v ≡ compress_all (initial k0 k1) words → v1 ≡ compress v a → v2 ≡ compress v1 b → v3 ≡ compress v2 c
    → (rest : List ℕ) → compress_all v3 rest ≡ compress_all (initial l0 l1) (words ++ (a ∷ b ∷ c ∷ rest))
unfolding compress_all
absorbed words a b c p q e e1 e2 e3 rest = rw (e3, e2, e1, e, p, q) (sym (compress-append (initial _ _) words (a ∷ b ∷ c ∷ rest)))

-- the last word, if there is one
last : ℕ → Bool → List ℕ
last d b = cond b [] (d ∷ [])

pub returns-then-d-eq0 : goal.returns-then-d-eq0
unfolding compress_all last
returns-then-d-eq0 c =
    let words = words_of 8 8 c.args.content.now in
    let keyed = initial (from_le (part c.args.keys.now 32 8)) (from_le (part c.args.keys.now 40 8)) in
    let told = absorbed words c.args.a c.args.b c.args.c c.load.ensures c.load-2.ensures c.absorb-v.ensures c.compress.ensures c.compress-2.ensures c.compress-w.ensures in
    c.finalize.ensures ∙ ap finalize (told [])
    ∙ ap (λ (b : Bool). finalize (compress_all keyed (words ++ (c.args.a ∷ c.args.b ∷ c.args.c ∷ last c.args.d b)))) (sym (eq-eqb c.args.d 0 c.if-d-eq0.true))

pub returns : goal.returns
unfolding compress_all last
returns c =
    let words = words_of 8 8 c.args.content.now in
    let keyed = initial (from_le (part c.args.keys.now 32 8)) (from_le (part c.args.keys.now 40 8)) in
    let told = absorbed words c.args.a c.args.b c.args.c c.load.ensures c.load-2.ensures c.absorb-v.ensures c.compress.ensures c.compress-2.ensures c.compress-w.ensures in
    c.finalize-2.ensures ∙ ap finalize (c.compress-3.ensures ∙ told (c.args.d ∷ []))
    ∙ ap (λ (b : Bool). finalize (compress_all keyed (words ++ (c.args.a ∷ c.args.b ∷ c.args.c ∷ last c.args.d b)))) (sym (ne_eqb c.args.d 0 c.if-d-eq0.false))
