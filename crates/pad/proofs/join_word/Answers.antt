-- `pad::join_word` meets its contract, by `xor-word`. Assumes nothing.
use mathlib.Core.Path.{ap, ◌∙◌}
use Rattle.words.specs.Bytes.{put}
use Rattle.pad.proofs.Xor.{xor-word}
use Rattle.pad.proofs.join_word.Goals as goal

pub returns : goal.returns
returns c =
    c.store.ensures
    ∙ ap (put c.args.out.now c.args.at)
    (xor-word 4 c.args.text.now c.args.at c.args.w c.requires.0 (record { at = λ i. (c.type_inv.text i).fits })
    c.ranges.w.fits c.load.ensures)
