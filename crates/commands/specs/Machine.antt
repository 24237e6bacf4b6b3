-- The parser: what it keeps of a line's bytes so far, byte by byte, so that a line may be of any length. That it finds the command
-- of the language is `proofs/Parsed.antt` of `parsing`. Assumes nothing.
use Rattle.std.specs.Prelude.{cond, List, [], ◌∷◌, ℕ, leb, eqb}
use Rattle.decimal.specs.declared.Number.{Number}
use Rattle.decimal.specs.declared.Number.TheVariants.{Empty, Value, Bad}
use Rattle.commands.specs.declared.Command.{Command}
use Rattle.commands.specs.declared.Command.TheVariants.{Write, Read, Recover, Allow, Unknown}
use Rattle.commands.specs.declared.Parser.{Parser}
use Rattle.commands.specs.declared.Parser.TheVariants.{Start, Letter, First, Second, Other}
use Rattle.decimal.specs.Decimal.{with_digit}
use Rattle.commands.specs.Language.{is_space, given}

-- a byte other than a space
unfoldable pub after_byte : Parser → ℕ → Parser
after_byte Start b = Letter b
after_byte (Letter c) b = Other
after_byte (First c n) b = First c (with_digit n b)
after_byte (Second c n m) b = Second c n (with_digit m b)
after_byte Other b = Other

unfoldable pub second_part : ℕ → Number → Parser
second_part c Empty = Other
second_part c (Value n) = Second c n Empty
second_part c Bad = Other

unfoldable pub after_space : Parser → Parser
after_space Start = Other
after_space (Letter c) = First c Empty
after_space (First c n) = second_part c n
after_space (Second c n m) = Other
after_space Other = Other

unfoldable pub next : Parser → ℕ → Parser
next s b = cond (is_space b) (after_space s) (after_byte s b)

unfoldable pub fed : Parser → List ℕ → Parser
fed s [] = s
fed s (b ∷ bs) = fed (next s b) bs

-- the command at the end of the line
unfoldable pub no_number : ℕ → Command
no_number c = cond (eqb c 112) Recover Unknown

unfoldable pub one_number : ℕ → ℕ → Command
one_number c n = cond (eqb c 114) (Read n) (cond (eqb c 107) (Allow n) Unknown)

unfoldable pub two_numbers : ℕ → ℕ → ℕ → Command
two_numbers c n b = cond (eqb c 119) (cond (leb b 255) (Write n b) Unknown) Unknown

unfoldable pub found : Parser → Command
found Start = Unknown
found (Letter c) = no_number c
found (First c n) = given n (one_number c)
found (Second c n m) = given m (two_numbers c n)
found Other = Unknown
