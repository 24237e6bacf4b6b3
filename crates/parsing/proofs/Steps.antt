-- Going through bytes, and the test on a byte. Assumes nothing.
use mathlib.Core.Path.{◌≡◌, sym, ap, ◌∙◌}
use mathlib.Core.List.{List, ◌∷◌}
use Prim.Native.Nat.{ℕ, ◌+◌, ◌<◌}
use native.Mathlib.Numerals.{add-one}
use borrow.Author.Tests.{eq-eqb, ne_eqb}
use lib.ListN.{length, drop, get_or}
use lib.Seq.{drop-cons}
use Rattle.commands.specs.declared.Parser.{Parser}
use Rattle.commands.specs.Machine.{after_byte, after_space, next}

pub byte_more : (s : List ℕ) (i : ℕ) → i < length s → get_or s i 0 ∷ drop (i + 1) s ≡ drop i s
byte_more s i h = ap (λ (k : ℕ). get_or s i 0 ∷ drop k s) (add-one i) ∙ sym (drop-cons s i 0 h)

pub space : (s : Parser) (b : ℕ) → b ≡ 32 → after_space s ≡ next s b
unfolding next
space s b e = rw (eq-eqb b 32 e)

pub no-space : (s : Parser) (b : ℕ) → (b ≡ 32 → ⊥) → after_byte s b ≡ next s b
unfolding next
no-space s b e = rw (ne_eqb b 32 e)
