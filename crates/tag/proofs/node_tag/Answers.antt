-- `tag::node_tag` meets its contract: the last words are the two numbers and the length byte, by `node-words`. Assumes nothing.
use mathlib.Core.Path.{◌∙◌}
use Rattle.tag.proofs.Tags.{node-words}
use Rattle.tag.proofs.node_tag.Goals as goal

pub returns : goal.returns
returns c =
    c.digest.ensures
    ∙ node-words c.args.keys.now c.args.content.now c.args.level c.args.index
    c.requires.1 c.ranges.level.fits c.ranges.index.fits
