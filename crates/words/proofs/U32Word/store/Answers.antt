-- `u32::store` meets its contract. Assumes nothing.
use Rattle.words.proofs.Parts.{put4}
use Rattle.words.proofs.U32Word.store.Goals as goal

pub returns : goal.returns
returns c = put4 c.args.s.now c.args.at c.args.x c.requires
