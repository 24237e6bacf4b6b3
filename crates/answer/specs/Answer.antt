-- What a call answers, and what the C side is told of it. Assumes nothing.
use Rattle.std.specs.Prelude.{ℕ, ◌+◌, List, [], ◌∷◌}
use Rattle.answer.specs.declared.Answer.{Answer}
use Rattle.answer.specs.declared.Answer.TheVariants.{Done, Blank, Cut, Refused}

-- 0 done, 1 blank, 2 cut, or 100 + the refusal
unfoldable pub code_of : Answer → ℕ
code_of (Done k t) = 0
code_of (Blank k) = 1
code_of (Cut k) = 2
code_of (Refused n k a b) = 100 + n

-- the stores made
unfoldable pub stores_of : Answer → ℕ
stores_of (Done k t) = k
stores_of (Blank k) = k
stores_of (Cut k) = k
stores_of (Refused n k a b) = k

-- the sum, or the first place number
unfoldable pub first_of : Answer → ℕ
first_of (Done k t) = t
first_of (Blank k) = 0
first_of (Cut k) = 0
first_of (Refused n k a b) = a

-- the second place number
unfoldable pub second_of : Answer → ℕ
second_of (Done k t) = 0
second_of (Blank k) = 0
second_of (Cut k) = 0
second_of (Refused n k a b) = b

-- the three numbers of the C side
abbrev pub values_of : Answer → List ℕ
values_of a = stores_of a ∷ first_of a ∷ second_of a ∷ []
