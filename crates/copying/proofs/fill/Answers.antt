-- `copying::fill` meets its contract. Assumes nothing.
use Rattle.std.proofs.Common.{◌≡◌, ℕ, length, replicate, ap, ◌∙◌, rules, arith, length-take, length-drop}
use Rattle.std.proofs.lemmas.List.{length-replicate}
use Rattle.words.specs.Bytes.{put}
use Rattle.words.proofs.Puts.{part-put}
use Rattle.copying.proofs.fill.Goals as goal

pub returns : goal.returns
returns c =
    let filled : c.fill.new.self ≡ replicate c.args.n c.args.byte =
    c.fill.ensures.after (search rules)
    ∙ ap (λ (k : ℕ). replicate k c.args.byte) (simp (length-take, length-drop) (omega arith)) in
    part-put c.args.s.now _ c.fill.new.self _ (ap length filled ∙ length-replicate c.args.n c.args.byte ∙ omega arith)
    ∙ ap (put c.args.s.now c.args.at) filled
