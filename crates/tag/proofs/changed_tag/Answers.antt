-- `tag::changed_tag` meets its contract: the words are those of the changed content, by `changed-words`. Assumes nothing.
use mathlib.Core.Path.{◌∙◌, ap, ap₂}
use mathlib.Core.List.{List}
use Prim.Native.Nat.{ℕ}
use native.Mathlib.Omega.{arith}
use lib.ListN.{set}
use Rattle.words.specs.Bytes.{words_of}
use Rattle.siphash.specs.SipHash.{initial, compress, compress_all, finalize}
use Rattle.tag.proofs.Tags.{changed-words}
use Rattle.tag.proofs.changed_tag.Goals as goal

pub returns : goal.returns
returns c =
    let words = set (words_of 8 8 c.args.content.now) c.args.j c.args.x in
    let key = ap₂ initial c.load.ensures c.load-2.ensures in
    let v = c.absorb_changed-v.ensures ∙ ap (λ (k : List ℕ). compress_all k words) key in
    let v1 = c.compress.ensures ∙ ap (λ (w : List ℕ). compress w c.args.level) v in
    let v2 = c.compress-w.ensures ∙ ap (λ (w : List ℕ). compress w c.args.index) v1 in
    let v3 = c.compress-2.ensures ∙ ap (λ (w : List ℕ). compress w 0x5000_0000_0000_0000) v2 in
    c.finalize.ensures
    ∙ ap finalize v3
    ∙ changed-words c.args.keys.now c.args.content.now c.args.j c.args.x c.args.level c.args.index
    c.requires.1.0 (omega arith) c.ranges.x.fits c.ranges.level.fits c.ranges.index.fits
