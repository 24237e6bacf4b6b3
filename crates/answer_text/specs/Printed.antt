-- What the bench program prints for a command: bytes, with the newline. Assumes nothing.
use Rattle.std.specs.Prelude.{List, [], ◌∷◌, ◌++◌, ℕ}
use Rattle.answer.specs.declared.Answer.{Answer}
use Rattle.answer.specs.declared.Answer.TheVariants.{Done, Blank, Cut, Refused}
use Rattle.commands.specs.declared.Command.{Command}
use Rattle.commands.specs.declared.Command.TheVariants.{Write, Read, Recover, Allow, Unknown}
use Rattle.number_text.specs.Text.{printed}

-- ` done STORES`, ` blank STORES`, ` cut STORES`, ` refused NUMBER`
unfoldable pub answer_text : Answer → List ℕ
answer_text (Done k t) = 32 ∷ 100 ∷ 111 ∷ 110 ∷ 101 ∷ 32 ∷ printed k
answer_text (Blank k) = 32 ∷ 98 ∷ 108 ∷ 97 ∷ 110 ∷ 107 ∷ 32 ∷ printed k
answer_text (Cut k) = 32 ∷ 99 ∷ 117 ∷ 116 ∷ 32 ∷ printed k
answer_text (Refused n k a b) = 32 ∷ 114 ∷ 101 ∷ 102 ∷ 117 ∷ 115 ∷ 101 ∷ 100 ∷ 32 ∷ printed n

-- of a done or blank read also the first byte, x; of a done recovery the sum
unfoldable pub read_text : Answer → ℕ → List ℕ
read_text (Done k t) x = 32 ∷ printed x
read_text (Blank k) x = 32 ∷ printed x
read_text (Cut k) x = []
read_text (Refused n k a b) x = []

unfoldable pub recover_text : Answer → List ℕ
recover_text (Done k t) = 32 ∷ printed t
recover_text (Blank k) = []
recover_text (Cut k) = []
recover_text (Refused n k a b) = []

-- command, line, answer, stores; 119 is `w`, 114 `r`, 112 `p`
abbrev pub write_line : ℕ → Answer → List ℕ
write_line l a = 119 ∷ 32 ∷ printed l ++ answer_text a ++ (10 ∷ [])

abbrev pub read_line : ℕ → Answer → ℕ → List ℕ
read_line l a x = 114 ∷ 32 ∷ printed l ++ answer_text a ++ read_text a x ++ (10 ∷ [])

abbrev pub recover_line : Answer → List ℕ
recover_line a = 112 ∷ answer_text a ++ recover_text a ++ (10 ∷ [])

-- `k` prints nothing, and any other line `?`
unfoldable pub line_of : Command → Answer → ℕ → List ℕ
line_of (Write l b) a x = write_line l a
line_of (Read l) a x = read_line l a x
line_of Recover a x = recover_line a
line_of (Allow n) a x = []
line_of Unknown a x = 63 ∷ 10 ∷ []
