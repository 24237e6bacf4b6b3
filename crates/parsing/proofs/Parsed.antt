-- The parser finds the command of the language, for every line. Assumes nothing.
use mathlib.Core.Path.{◌≡◌, refl, sym, ap, ◌∙◌}
use mathlib.Core.Bool.{Bool, true, false, cond}
use mathlib.Core.List.{List, [], ◌∷◌}
use Prim.Native.Nat.{ℕ}
use lib.Dec.{eqb, leb}
use Rattle.decimal.specs.declared.Number.{Number}
use Rattle.decimal.specs.declared.Number.TheVariants.{Empty, Value, Bad}
use Rattle.commands.specs.declared.Command.TheVariants.{Write, Read, Allow, Unknown}
use Rattle.commands.specs.declared.Parser.{Parser}
use Rattle.commands.specs.declared.Parser.TheVariants.{Start, First, Second, Other}
use Rattle.decimal.specs.Decimal.{decimal, with_digit}
use Rattle.commands.specs.Language.{is_space, on_first, parts, is_letter, given, command_of_parts, command_of}
use Rattle.commands.specs.Machine.{after_byte, second_part, after_space, next, fed, no_number, one_number, two_numbers, found}
use Rattle.decimal.proofs.Numbers.{numbered, number_of}

-- ---- a line by its parts

-- the bytes of one part
unfoldable within : Parser → List ℕ → Parser
within s [] = s
within s (b ∷ bs) = within (after_byte s b) bs

-- a part p, and those behind it
unfoldable across : Parser → List ℕ → List (List ℕ) → Parser
across s p [] = within s p
across s p (q ∷ ps) = across (after_space (within s p)) q ps

unfoldable over_parts : Parser → List (List ℕ) → Parser
over_parts s [] = s
over_parts s (p ∷ ps) = across s p ps

first_byte : (s : Parser) (b : ℕ) (ps : List (List ℕ)) → over_parts (after_byte s b) ps ≡ over_parts s (on_first b ps)
unfolding on_first over_parts across within
first_byte s b [] = refl
first_byte s b (p ∷ []) = refl
first_byte s b (p ∷ q ∷ ps) = refl

-- there is a part at least
data Some : List (List ℕ) → Type 0 where
  some : (p : List ℕ) (ps : List (List ℕ)) → Some (p ∷ ps)

some_first : (b : ℕ) (ps : List (List ℕ)) → Some (on_first b ps)
unfolding on_first
some_first b [] = some (b ∷ []) []
some_first b (p ∷ ps) = some (b ∷ p) ps

some-part : (bs : List ℕ) → Some (parts bs)
unfolding parts
some-part [] = some [] []
some-part (b ∷ bs) = pick (is_space b)
  where
    pick : (t : Bool) → Some (cond t ([] ∷ parts bs) (on_first b (parts bs)))
    pick true = some [] (parts bs)
    pick false = some_first b (parts bs)

first-space : (s : Parser) {ps : List (List ℕ)} → Some ps → over_parts (after_space s) ps ≡ over_parts s ([] ∷ ps)
unfolding over_parts across within
first-space s (some p ps) = refl

by_byte : (s : Parser) (b : ℕ) (bs : List ℕ) → ((z : Parser) → fed z bs ≡ over_parts z (parts bs)) → (t : Bool)
    → fed (cond t (after_space s) (after_byte s b)) bs ≡ over_parts s (cond t ([] ∷ parts bs) (on_first b (parts bs)))
by_byte s b bs rest true = rest (after_space s) ∙ first-space s (some-part bs)
by_byte s b bs rest false = rest (after_byte s b) ∙ first_byte s b (parts bs)

by_parts : (bs : List ℕ) (s : Parser) → fed s bs ≡ over_parts s (parts bs)
unfolding fed next parts over_parts across within
by_parts [] s = refl
by_parts (b ∷ bs) s = by_byte s b bs (by_parts bs) (is_space b)

-- ---- the parts, one after the other

in-other : (p : List ℕ) → within Other p ≡ Other
unfolding after_byte within
in-other [] = refl
in-other (b ∷ bs) = in-other bs

in-first : (c : ℕ) (n : Number) (p : List ℕ) → within (First c n) p ≡ First c (numbered n p)
unfolding after_byte within numbered
in-first c n [] = refl
in-first c n (b ∷ bs) = in-first c (with_digit n b) bs

in-second : (c n : ℕ) (m : Number) (p : List ℕ) → within (Second c n m) p ≡ Second c n (numbered m p)
unfolding after_byte within numbered
in-second c n m [] = refl
in-second c n m (b ∷ bs) = in-second c n (with_digit m b) bs

other-on : (p : List ℕ) (ps : List (List ℕ)) → across Other p ps ≡ Other
unfolding after_space across
other-on p [] = in-other p
other-on p (q ∷ ps) = ap (λ (s : Parser). across (after_space s) q ps) (in-other p) ∙ other-on q ps

no-command : (n : Number) → given n (λ k. Unknown) ≡ Unknown
unfolding given
no-command Empty = refl
no-command (Value n) = refl
no-command Bad = refl

-- two parts, of which the first is a letter
two-parts : (t u : Bool) (n : Number)
    → given n (λ k. cond t (Read k) (cond u (Allow k) Unknown)) ≡ cond t (given n (λ k. Read k)) (cond u (given n (λ k. Allow k)) Unknown)
two-parts true u n = refl
two-parts false true n = refl
two-parts false false n = no-command n

either : (t : Bool) → cond t Unknown Unknown ≡ Unknown
either true = refl
either false = refl

-- three
three-parts : (c : ℕ) (n : Number) (r : List ℕ)
    → found (within (second_part c n) r)
    ≡ cond (eqb c 119) (given n (λ k. given (decimal r) (λ b. cond (leb b 255) (Write k b) Unknown))) Unknown
unfolding second_part found given two_numbers
three-parts c Empty r = ap found (in-other r) ∙ sym (either (eqb c 119))
three-parts c Bad r = ap found (in-other r) ∙ sym (either (eqb c 119))
three-parts c (Value n) r = ap found (in-second c n Empty r ∙ ap (Second c n) (number_of r)) ∙ pick (eqb c 119) (decimal r)
  where
    pick : (t : Bool) (m : Number)
        → given m (λ b. cond t (cond (leb b 255) (Write n b) Unknown) Unknown)
        ≡ cond t (given m (λ b. cond (leb b 255) (Write n b) Unknown)) Unknown
    pick true m = refl
    pick false m = no-command m

-- and more
more_parts : (c : ℕ) (n : Number) (r s : List ℕ) (ps : List (List ℕ)) → across (after_space (within (second_part c n) r)) s ps ≡ Other
unfolding second_part after_space
more_parts c Empty r s ps = ap (λ (z : Parser). across (after_space z) s ps) (in-other r) ∙ other-on s ps
more_parts c Bad r s ps = ap (λ (z : Parser). across (after_space z) s ps) (in-other r) ∙ other-on s ps
more_parts c (Value n) r s ps = ap (λ (z : Parser). across (after_space z) s ps) (in-second c n Empty r) ∙ other-on s ps

-- the second part of a line, after its letter
second : (c : ℕ) (q : List ℕ) → within (First c Empty) q ≡ First c (decimal q)
second c q = in-first c Empty q ∙ ap (First c) (number_of q)

whole : (ps : List (List ℕ)) → found (over_parts Start ps) ≡ command_of_parts ps
unfolding over_parts across within after_byte after_space found command_of_parts is_letter no_number one_number
whole [] = refl
whole ([] ∷ []) = refl
whole ((c ∷ []) ∷ []) = refl
whole ((c ∷ d ∷ bs) ∷ []) = ap found (in-other bs)
whole ([] ∷ q ∷ []) = ap found (other-on q [])
whole ((c ∷ []) ∷ q ∷ []) = ap found (second c q) ∙ two-parts (eqb c 114) (eqb c 107) (decimal q)
whole ((c ∷ d ∷ bs) ∷ q ∷ []) = ap (λ (z : Parser). found (across (after_space z) q [])) (in-other bs) ∙ ap found (other-on q [])
whole ([] ∷ q ∷ r ∷ []) = ap found (other-on q (r ∷ []))
whole ((c ∷ []) ∷ q ∷ r ∷ []) = ap (λ (z : Parser). found (within (after_space z) r)) (second c q) ∙ three-parts c (decimal q) r
whole ((c ∷ d ∷ bs) ∷ q ∷ r ∷ []) =
    ap (λ (z : Parser). found (across (after_space z) q (r ∷ []))) (in-other bs) ∙ ap found (other-on q (r ∷ []))
whole ([] ∷ q ∷ r ∷ s ∷ ps) = ap found (other-on q (r ∷ s ∷ ps))
whole ((c ∷ []) ∷ q ∷ r ∷ s ∷ ps) =
    ap (λ (z : Parser). found (across (after_space z) r (s ∷ ps))) (second c q) ∙ ap found (more_parts c (decimal q) r s ps)
whole ((c ∷ d ∷ bs) ∷ q ∷ r ∷ s ∷ ps) =
    ap (λ (z : Parser). found (across (after_space z) q (r ∷ s ∷ ps))) (in-other bs) ∙ ap found (other-on q (r ∷ s ∷ ps))

pub parsed : (line : List ℕ) → found (fed Start line) ≡ command_of line
parsed line = ap found (by_parts line Start) ∙ whole (parts line)
