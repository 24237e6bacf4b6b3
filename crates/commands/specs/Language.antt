-- The bench program's commands: what a line, without its newline, asks for. Assumes nothing.
use Rattle.std.specs.Prelude.{Bool, false, cond, List, [], ◌∷◌, ℕ, leb, eqb}
use Rattle.decimal.specs.declared.Number.{Number}
use Rattle.decimal.specs.declared.Number.TheVariants.{Empty, Value, Bad}
use Rattle.commands.specs.declared.Command.{Command}
use Rattle.commands.specs.declared.Command.TheVariants.{Write, Read, Recover, Allow, Unknown}
use Rattle.decimal.specs.Decimal.{decimal}

abbrev pub is_space : ℕ → Bool
is_space b = eqb b 32

unfoldable pub on_first : ℕ → List (List ℕ) → List (List ℕ)
on_first b [] = (b ∷ []) ∷ []
on_first b (p ∷ ps) = (b ∷ p) ∷ ps

-- the parts of a line: what stands between its spaces, one part more than there are spaces
unfoldable pub parts : List ℕ → List (List ℕ)
parts [] = [] ∷ []
parts (b ∷ bs) = cond (is_space b) ([] ∷ parts bs) (on_first b (parts bs))

-- whether a part is this one letter
unfoldable pub is_letter : ℕ → List ℕ → Bool
is_letter x [] = false
is_letter x (b ∷ []) = eqb b x
is_letter x (b ∷ c ∷ bs) = false

-- the command that needs a number
unfoldable pub given : Number → (ℕ → Command) → Command
given Empty f = Unknown
given (Value n) f = f n
given Bad f = Unknown

-- 112 is `p`; 114 is `r`, 107 is `k`; 119 is `w`, and BYTE is 0 to 255
unfoldable pub command_of_parts : List (List ℕ) → Command
command_of_parts [] = Unknown
command_of_parts (p ∷ []) = cond (is_letter 112 p) Recover Unknown
command_of_parts (p ∷ q ∷ []) =
    cond (is_letter 114 p) (given (decimal q) (λ n. Read n)) (cond (is_letter 107 p) (given (decimal q) (λ n. Allow n)) Unknown)
command_of_parts (p ∷ q ∷ r ∷ []) =
    cond (is_letter 119 p) (given (decimal q) (λ n. given (decimal r) (λ b. cond (leb b 255) (Write n b) Unknown))) Unknown
command_of_parts (p ∷ q ∷ r ∷ s ∷ ps) = Unknown

abbrev pub command_of : List ℕ → Command
command_of line = command_of_parts (parts line)
