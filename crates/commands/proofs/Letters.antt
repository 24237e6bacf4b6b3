-- The tests on a letter and on a byte. Assumes nothing.
use mathlib.Core.Path.{◌≡◌}
use Prim.Native.Nat.{ℕ, ◌≤◌, ◌<◌}
use native.Mathlib.Omega.{arith}
use borrow.Author.Tests.{eq-eqb, ne_eqb, le-leb, lt-leb}
use Rattle.commands.specs.declared.Command.TheVariants.{Write, Read, Recover, Allow, Unknown}
use Rattle.commands.specs.Machine.{no_number, one_number, two_numbers}

pub is-p : (c : ℕ) → c ≡ 112 → Recover ≡ no_number c
unfolding no_number
is-p c e = rw (eq-eqb c 112 e)

pub not-p : (c : ℕ) → (c ≡ 112 → ⊥) → Unknown ≡ no_number c
unfolding no_number
not-p c e = rw (ne_eqb c 112 e)

module _ (c n : ℕ) where
  pub is-r : c ≡ 114 → Read n ≡ one_number c n
  unfolding one_number
  is-r e = rw (eq-eqb c 114 e)

  pub is-k : c ≡ 107 → Allow n ≡ one_number c n
  unfolding one_number
  is-k e = rw (ne_eqb c 114 (λ f. omega arith), eq-eqb c 107 e)

  pub not-r-k : (c ≡ 114 → ⊥) → (c ≡ 107 → ⊥) → Unknown ≡ one_number c n
  unfolding one_number
  not-r-k e f = rw (ne_eqb c 114 e, ne_eqb c 107 f)

  module _ (b : ℕ) where
    pub not-w : (c ≡ 119 → ⊥) → Unknown ≡ two_numbers c n b
    unfolding two_numbers
    not-w e = rw (ne_eqb c 119 e)

    pub is-w : c ≡ 119 → b ≤ 255 → Write n b ≡ two_numbers c n b
    unfolding two_numbers
    is-w e h = rw (eq-eqb c 119 e, le-leb b 255 h)

    pub no_byte : c ≡ 119 → 255 < b → Unknown ≡ two_numbers c n b
    unfolding two_numbers
    no_byte e h = rw (eq-eqb c 119 e, lt-leb b 255 h)
