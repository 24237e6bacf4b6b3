-- `tag::data_hash` meets its contract: the last words are the three numbers and the length byte, by `data-words`. Assumes nothing.
use mathlib.Core.Path.{◌∙◌}
use Rattle.tag.proofs.Tags.{data-words}
use Rattle.tag.proofs.data_hash.Goals as goal

pub returns : goal.returns
returns c =
    c.digest.ensures
    ∙ data-words c.args.keys.now c.args.content.now c.args.line c.args.major c.args.minor
    c.requires.1 c.ranges.line.fits c.ranges.major.fits c.ranges.minor.fits
