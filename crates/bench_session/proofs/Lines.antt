-- The input by lines: each line runs the command that the language gives it. Assumes nothing.
use mathlib.Core.Path.{◌≡◌, refl, sym, ap, ◌∙◌}
use mathlib.Core.Bool.{Bool, true, false, cond}
use mathlib.Core.List.{List, [], ◌∷◌, ◌++◌}
use Prim.Native.Nat.{ℕ}
use Rattle.calls.specs.Call.{Module}
use Rattle.commands.specs.declared.Command.{Command}
use Rattle.decimal.specs.declared.Number.{Number}
use Rattle.decimal.specs.declared.Number.TheVariants.{Empty, Value, Bad}
use Rattle.commands.specs.declared.Parser.{Parser}
use Rattle.commands.specs.declared.Parser.TheVariants.{Start, Letter, First, Second, Other}
use Rattle.commands.specs.Language.{command_of, is_space}
use Rattle.commands.specs.Machine.{next, fed, after_byte, after_space, second_part}
use Rattle.parsing.proofs.Parsed.{parsed}
use Rattle.bench_session.specs.Session.{State, allowance_after, told, line_ended, byte_taken, bytes_taken, has_line, input_ended}
use Rattle.bench_session.proofs.Laws.{newline, no-newline, taken_more}

-- a line: bytes other than the newline
pub data Line : List ℕ → Type 0 where
  empty : Line []
  byte : {b : ℕ} {bs : List ℕ} → (b ≡ 10 → ⊥) → Line bs → Line (b ∷ bs)

-- a command run between lines
abbrev pub after : List ℕ → ℕ → Module → Command → State
after keys n m c = record { parser = Start; allowance = allowance_after c n; left = (told keys c n m).after }

-- a byte at least makes a line
second-line : (c : ℕ) (k : Number) → has_line (second_part c k) ≡ true
unfolding has_line second_part
second-line c Empty = refl
second-line c (Value k) = refl
second-line c Bad = refl

begun : (t : Bool) (p : Parser) (b : ℕ) → has_line (cond t (after_space p) (after_byte p b)) ≡ true
unfolding has_line after_space after_byte
begun true Start b = refl
begun true (Letter c) b = refl
begun true (First c k) b = second-line c k
begun true (Second c k j) b = refl
begun true Other b = refl
begun false Start b = refl
begun false (Letter c) b = refl
begun false (First c k) b = refl
begun false (Second c k j) b = refl
begun false Other b = refl

begun-on : (bs : List ℕ) (b : ℕ) (p : Parser) → has_line (fed (next p b) bs) ≡ true
unfolding next fed
begun-on [] b p = begun (is_space b) p b
begun-on (c ∷ bs) b p = begun-on bs c (next p b)

module _ (keys : List ℕ) (n : ℕ) (m : Module) where
  abbrev pub at : Parser → State
  at p = record { parser = p; allowance = n; left = m }

  kept : {line : List ℕ} → Line line → (p : Parser) → bytes_taken keys (at p) line ≡ at (fed p line)
  unfolding bytes_taken fed
  kept empty p = refl
  kept (byte {b} {bs} h rest) p = ap (λ (s : State). bytes_taken keys s bs) (sym (no-newline keys (at p) b h)) ∙ kept rest (next p b)

  ends : (line : List ℕ) → line_ended keys (at (fed Start line)) ≡ after keys n m (command_of line)
  unfolding line_ended
  ends line = ap (after keys n m) (parsed line)

  -- a line with its newline
  pub line_taken : {line : List ℕ} → Line line → bytes_taken keys (at Start) (line ++ (10 ∷ [])) ≡ after keys n m (command_of line)
  unfolding bytes_taken
  line_taken {line} h =
      sym (taken_more keys line (10 ∷ []) (at Start)) ∙ ap (λ (s : State). byte_taken keys s 10) (kept h Start)
      ∙ sym (newline keys (at (fed Start line)) 10 refl) ∙ ends line

  -- a last line without one, if it has a byte
  pub last_taken : (b : ℕ) (bs : List ℕ) → Line (b ∷ bs)
      → input_ended keys (bytes_taken keys (at Start) (b ∷ bs)) ≡ after keys n m (command_of (b ∷ bs))
  unfolding input_ended fed
  last_taken b bs h =
      ap (input_ended keys) (kept h Start)
      ∙ ap (λ (t : Bool). cond t (line_ended keys (at (fed Start (b ∷ bs)))) (at (fed Start (b ∷ bs)))) (begun-on bs b Start)
      ∙ ends (b ∷ bs)

  -- no last line
  pub none-taken : input_ended keys (at Start) ≡ at Start
  unfolding input_ended has_line
  none-taken = refl
