-- Laws of a command's run. Assumes nothing.
use mathlib.Core.Path.{◌≡◌, refl, sym, ap, ap₂, ◌∙◌}
use mathlib.Core.Bool.{Bool, true, false, cond}
use mathlib.Core.List.{List, [], ◌∷◌, ◌++◌}
use Prim.Native.Nat.{ℕ, ◌+◌, ◌≤◌, ◌<◌}
use borrow.Author.Tests.{eq-eqb, ne_eqb}
use lib.ListN.{length, drop, get_or, drop_of_length-le}
use Rattle.answer.specs.declared.Answer.{Answer}
use Rattle.answer.specs.declared.Answer.TheVariants.{Done, Blank, Cut, Refused}
use Rattle.calls.specs.Call.{Module}
use Rattle.commands.specs.declared.Command.{Command}
use Rattle.commands.specs.declared.Parser.{Parser}
use Rattle.commands.specs.declared.Parser.TheVariants.{Start}
use Rattle.commands.specs.Machine.{next, found}
use Rattle.parsing.proofs.Steps.{byte_more}
use Rattle.answer_text.specs.Printed.{line_of}
use Rattle.bench_session.specs.Session.{ran_to, ran, settled, allowance_after, Told, told_to, settled_to, told}
use Rattle.bench_session.specs.Session.{State, state_of, line_ended, byte_taken, bytes_taken, has_line, input_ended, started, Took, Served}

-- what is not cut keeps the cache
pub settled-else : (r : Answer) (c : List ℕ) → ((k : ℕ) → r ≡ Cut k → ⊥) → c ≡ settled r c
unfolding settled
settled-else (Done k t) c h = refl
settled-else (Blank k) c h = refl
settled-else (Cut k) c h = absurd (h k refl)
settled-else (Refused n k a b) c h = refl

module _ (keys : List ℕ) (command : Command) (n : ℕ) (m : Module) {a k c : List ℕ} where
  -- a call, the cache settled, the line printed
  pub told-run : {r : Answer} {x : ℕ} {d l : List ℕ} → ran_to r x a k c ≡ ran keys command n m → d ≡ settled r c
      → l ≡ line_of command r x → told_to a k d l ≡ told keys command n m
  unfolding told
  told-run e f g = ap₂ {C = Told} (λ (x y : List ℕ). told_to a k x y) f g ∙ ap (settled_to command) e

  -- the command of a line run, and the allowance of the next call
  pub line-run : (p : Parser) {i : ℕ} {l : List ℕ} → command ≡ found p → told_to a k c l ≡ told keys command n m
      → i ≡ allowance_after command n → state_of Start i a k c ≡ line_ended keys (record { parser = p; allowance = n; left = m })
  unfolding line_ended
  line-run p e f g =
      ap₂ {C = State} (λ (j : ℕ) (y : Module). record { parser = Start; allowance = j; left = y }) g (ap (λ (y : Told). y.after) f)
      ∙ ap (λ (z : Command). record { parser = Start; allowance = allowance_after z n; left = (told keys z n m).after }) e

module _ (keys : List ℕ) (s : State) (b : ℕ) where
  pub newline : b ≡ 10 → line_ended keys s ≡ byte_taken keys s b
  unfolding byte_taken
  newline e = rw (eq-eqb b 10 e)

  pub no-newline : (b ≡ 10 → ⊥) → record { parser = next s.parser b; allowance = s.allowance; left = s.left } ≡ byte_taken keys s b
  unfolding byte_taken
  no-newline e = rw (ne_eqb b 10 e)

-- one byte of the input, and the rest
module _ (keys : List ℕ) (s : State) (input : List ℕ) (i : ℕ) where
  pub taken-one : i < length input → bytes_taken keys (byte_taken keys s (get_or input i 0)) (drop (i + 1) input)
      ≡ bytes_taken keys s (drop i input)
  unfolding bytes_taken
  taken-one h = ap (bytes_taken keys s) (byte_more input i h)

  pub taken-all : length input ≤ i → s ≡ bytes_taken keys s (drop i input)
  unfolding bytes_taken
  taken-all h = ap (bytes_taken keys s) (sym (drop_of_length-le input h))

-- one part of the input behind another
pub taken_more : (keys : List ℕ) (xs ys : List ℕ) (s : State) → bytes_taken keys (bytes_taken keys s xs) ys ≡ bytes_taken keys s (xs ++ ys)
unfolding bytes_taken
taken_more keys [] ys s = refl
taken_more keys (x ∷ xs) ys s = taken_more keys xs ys (byte_taken keys s x)

-- no part of the input
pub took-none : (keys : List ℕ) (s : State) → Took keys s s
unfolding bytes_taken
took-none keys s = record { read = []; taken = refl }

pub took_more : {keys : List ℕ} {s t u : State} → Took keys s t → Took keys t u → Took keys s u
took_more {keys} {s} {t} {u} x y =
    record {
      read = x.read ++ y.read;
      taken = y.taken ∙ ap (λ (z : State). bytes_taken keys z y.read) x.taken ∙ taken_more keys x.read y.read s;
    }

-- the end of the input, with or without a last line
module _ {keys : List ℕ} {m : Module} {s : State} (x : Took keys (started m) s) where
  ended : (b : Bool) → has_line s.parser ≡ b → cond b (line_ended keys s) s ≡ input_ended keys (bytes_taken keys (started m) x.read)
  unfolding input_ended
  ended b e = ap (λ (t : Bool). cond t (line_ended keys s) s) (sym e) ∙ ap (input_ended keys) x.taken

  pub served-line : {t : State} → true ≡ has_line s.parser → t ≡ line_ended keys s → Served keys m t.left
  served-line e f = record { input = x.read; left = ap (λ (z : State). z.left) (f ∙ ended true (sym e)) }

  pub served : false ≡ has_line s.parser → Served keys m s.left
  served e = record { input = x.read; left = ap (λ (z : State). z.left) (ended false (sym e)) }
