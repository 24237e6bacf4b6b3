-- `u64::store` meets its contract. Assumes nothing.
use Rattle.std.proofs.Common.{ℕ, List, ap, ◌∙◌, ◌+◌, ◌/◌}
use Rattle.words.specs.Bytes.{put, to_le}
use Rattle.words.proofs.Parts.{put8}
use Rattle.words.proofs.U64Word.store.Goals as goal

pub returns : goal.returns
returns c =
    c.store-2.ensures
    ∙ ap (λ (l : List ℕ). put l (c.args.at + 4) (to_le 4 (c.args.x / 4294967296))) c.store.ensures
    ∙ put8 c.args.s.now c.args.at c.args.x c.requires
