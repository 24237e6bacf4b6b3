-- What the bench program does: a command run on the module, and the bytes of its input. Assumes nothing.
use Rattle.std.specs.Prelude.{◌≡◌, Bool, true, false, cond, List, [], ◌∷◌, ℕ, ◌-◌, ◌^◌, eqb, length, get_or, replicate}
use Rattle.answer.specs.declared.Answer.{Answer}
use Rattle.answer.specs.declared.Answer.TheVariants.{Done, Blank, Cut, Refused}
use Rattle.calls.specs.Call.{Module, Called, buffers, ended}
use Rattle.calls.specs.Read.{Reading, read}
use Rattle.calls.specs.Write.{write}
use Rattle.calls.specs.Recovery.{recover}
use Rattle.commands.specs.declared.Command.{Command}
use Rattle.commands.specs.declared.Command.TheVariants.{Write, Read, Recover, Allow, Unknown}
use Rattle.commands.specs.declared.Parser.{Parser}
use Rattle.commands.specs.declared.Parser.TheVariants.{Start, Letter, First, Second, Other}
use Rattle.commands.specs.Machine.{next, found}
use Rattle.answer_text.specs.Printed.{line_of}

-- a call, and the first byte of its output
pub record Ran : Type 0 where
  pub called : Called
  pub first : ℕ

abbrev pub ran_to : Answer → ℕ → List ℕ → List ℕ → List ℕ → Ran
ran_to r x a k c = record { called = ended r a k c; first = x }

abbrev pub read_to : Reading → Ran
read_to r = record { called = r.called; first = get_or r.output 0 0 }

abbrev pub nothing : Module → Ran
nothing m = record { called = record { answer = Done 0 0; after = m }; first = 0 }

-- a write has 64 equal bytes as its text, a read is lent 64 zeros; `k` and `?` call nothing
unfoldable pub ran : List ℕ → Command → ℕ → Module → Ran
ran keys (Write l b) n m = record { called = write keys l (replicate 64 b) n m; first = 0 }
ran keys (Read l) n m = read_to (read keys l n (replicate 64 0) m)
ran keys Recover n m = record { called = recover keys n m; first = 0 }
ran keys (Allow k) n m = nothing m
ran keys Unknown n m = nothing m

-- a cut zeroes the cache
unfoldable pub settled : Answer → List ℕ → List ℕ
settled (Done k t) c = c
settled (Blank k) c = c
settled (Cut k) c = replicate (length c) 0
settled (Refused n k a b) c = c

abbrev pub unlimited : ℕ
unlimited = 2 ^ 64 - 1

-- the allowance after a command: a call uses it up, whatever it answers
unfoldable pub allowance_after : Command → ℕ → ℕ
allowance_after (Write l b) n = unlimited
allowance_after (Read l) n = unlimited
allowance_after Recover n = unlimited
allowance_after (Allow k) n = k
allowance_after Unknown n = n

-- the module after a command, and the line that it prints
pub record Told : Type 0 where
  pub after : Module
  pub line : List ℕ

abbrev pub told_to : List ℕ → List ℕ → List ℕ → List ℕ → Told
told_to a k c line = record { after = buffers a k c; line = line }

abbrev pub settled_to : Command → Ran → Told
settled_to command r =
    let m = r.called.after in
    told_to m.array m.control (settled r.called.answer m.cache) (line_of command r.called.answer r.first)

unfoldable pub told : List ℕ → Command → ℕ → Module → Told
told keys command n m = settled_to command (ran keys command n m)

-- the program between two bytes of its input: what is kept of the line, the allowance of the next call, the module
pub record State : Type 0 where
  pub parser : Parser
  pub allowance : ℕ
  pub left : Module

unfoldable pub line_ended : List ℕ → State → State
line_ended keys s =
    let command = found s.parser in
    record {
      parser = Start;
      allowance = allowance_after command s.allowance;
      left = (told keys command s.allowance s.left).after;
    }

-- one byte more; 10 is the newline
unfoldable pub byte_taken : List ℕ → State → ℕ → State
byte_taken keys s b =
    cond (eqb b 10) (line_ended keys s) (record { parser = next s.parser b; allowance = s.allowance; left = s.left })

unfoldable pub bytes_taken : List ℕ → State → List ℕ → State
bytes_taken keys s [] = s
bytes_taken keys s (b ∷ bs) = bytes_taken keys (byte_taken keys s b) bs

-- a last line without a newline counts if it is not empty
unfoldable pub has_line : Parser → Bool
has_line Start = false
has_line (Letter c) = true
has_line (First c n) = true
has_line (Second c n m) = true
has_line Other = true

unfoldable pub input_ended : List ℕ → State → State
input_ended keys s = cond (has_line s.parser) (line_ended keys s) s

-- the state of a session over lent buffers
abbrev pub state_of : Parser → ℕ → List ℕ → List ℕ → List ℕ → State
state_of p n a k c = record { parser = p; allowance = n; left = buffers a k c }

abbrev pub started : Module → State
started m = record { parser = Start; allowance = unlimited; left = m }

-- some bytes were read, and taken
pub record Took (keys : List ℕ) (s t : State) : Type 0 where
  pub read : List ℕ
  pub taken : t ≡ bytes_taken keys s read

-- some input was read to its end, and taken: nothing else changed the module
pub record Served (keys : List ℕ) (m after : Module) : Type 0 where
  pub input : List ℕ
  pub left : after ≡ (input_ended keys (bytes_taken keys (started m) input)).left
