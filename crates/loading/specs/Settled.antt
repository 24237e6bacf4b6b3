-- What a call answers whose stores are made, or that is cut after some of them. Assumes nothing.
use Rattle.std.specs.Prelude.{ℕ, Result, Ok, Err}
use Rattle.answer.specs.declared.Answer.{Answer}
use Rattle.answer.specs.declared.Answer.TheVariants.{Done, Cut}
use Rattle.loading.specs.declared.CutShort.{CutShort}

abbrev pub settled : Result ℕ CutShort → Answer
settled (Ok stores) = Done stores 0
settled (Err cut) = Cut cut.stores
