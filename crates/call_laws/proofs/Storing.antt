-- Stores made under an allowance, as the calls answer them: cut, or done with what the call leaves in the cache. Assumes nothing.
use mathlib.Core.Path.{◌≡◌, refl, sym, ap, ap₂, ◌∙◌}
use mathlib.Core.Bool.{Bool, true, false, cond}
use mathlib.Core.List.{List}
use Prim.Native.Nat.{ℕ, min, ◌≤◌, ◌<◌}
use native.Mathlib.Omega.{arith}
use lib.ListN.{length, length-take}
use Rattle.answer.specs.declared.Answer.{Answer}
use Rattle.answer.specs.declared.Answer.TheVariants.{Done, Cut}
use Rattle.journal.specs.Journal.{Store, Media, media, store_all, made, is_cut, Stored}
use Rattle.journal.proofs.Laws.{less-cut, enough-whole}
use Rattle.calls.specs.Call.{Module, Called, media_of, with_media, ended, storing}

-- a call that is cut, or ends with an answer
abbrev ends : ℕ → Module → List Store → List ℕ → Bool → Answer → Called
ends allowance m xs c t answer =
    cond t (record { answer = Cut (length (made allowance xs)); after = with_media (store_all (media_of m) (made allowance xs)) m.cache })
    (record { answer = answer; after = with_media (store_all (media_of m) (made allowance xs)) c })

storing-is : (allowance : ℕ) (m : Module) (xs : List Store) (answer : Answer) (c : List ℕ) (t : Bool) → is_cut allowance xs ≡ t
    → storing allowance m xs answer c ≡ ends allowance m xs c t answer
unfolding storing
storing-is allowance m xs answer c t e = ap (λ (b : Bool). ends allowance m xs c b answer) e

-- cut or done, the array has the stores that were made
pub storing-array : (allowance : ℕ) (m : Module) (xs : List Store) (answer : Answer) (c : List ℕ)
    → (storing allowance m xs answer c).after.array ≡ (store_all (media_of m) (made allowance xs)).array
storing-array allowance m xs answer c = go (is_cut allowance xs) refl
  where
    go : (t : Bool) → is_cut allowance xs ≡ t
        → (storing allowance m xs answer c).after.array ≡ (store_all (media_of m) (made allowance xs)).array
    go true e = ap (λ (x : Called). x.after.array) (storing-is allowance m xs answer c true e)
    go false e = ap (λ (x : Called). x.after.array) (storing-is allowance m xs answer c false e)

-- ---- from the stores that were made

module _ (allowance : ℕ) (m : Module) (xs : List Store) (answer : Answer) (c a k : List ℕ) (told : ℕ)
    (s : Stored allowance xs (media_of m) (media a k) told) where
  few : told ≡ min allowance (length xs)
  few = s.number ∙ length-take allowance xs

  pub all_told : length xs ≤ told → told ≡ length xs
  all_told p = omega (arith, few)

  pub storing-cut : told < length xs → ended (Cut told) a k m.cache ≡ storing allowance m xs answer c
  storing-cut p =
      ap₂ {C = Called} (λ (n : ℕ) (d : Media). record { answer = Cut n; after = with_media d m.cache }) s.number s.left
      ∙ sym (storing-is allowance m xs answer c true (less-cut allowance xs (omega (arith, few))))

  pub storing-done : length xs ≤ told → ended answer a k c ≡ storing allowance m xs answer c
  storing-done p =
      ap (λ (d : Media). record { answer = answer; after = with_media d c }) s.left
      ∙ sym (storing-is allowance m xs answer c false (enough-whole allowance xs (omega (arith, few))))

-- ---- from the answer done, or another: what another answer in the place of done would give

module _ (allowance : ℕ) (m : Module) (xs : List Store) (n : ℕ) (d : List ℕ) (r : Answer) (a k c : List ℕ)
    (e : ended r a k c ≡ storing allowance m xs (Done n 0) d) where
  as-ended : (t : Bool) → is_cut allowance xs ≡ t → ended r a k c ≡ ends allowance m xs d t (Done n 0)
  as-ended t g = e ∙ storing-is allowance m xs (Done n 0) d t g

  pub record Settled (j : ℕ) : Type 0 where
    pub whole : is_cut allowance xs ≡ false
    pub stores : j ≡ n
    pub called : (answer : Answer) → ended answer a k c ≡ storing allowance m xs answer d

  pub settled : (j s : ℕ) → r ≡ Done j s → Settled j
  settled j s f = go (is_cut allowance xs) refl
    where
      go : (t : Bool) → is_cut allowance xs ≡ t → Settled j
      go true g =
          let is : Done j s ≡ Cut (length (made allowance xs)) = sym f ∙ ap (λ (x : Called). x.answer) (as-ended true g) in
          absurd (let z : ◌≡◌ {A = ℕ} 0 1 = cc in omega arith)
      go false g =
          let is : Done j s ≡ Done n 0 = sym f ∙ ap (λ (x : Called). x.answer) (as-ended false g) in
          record {
            whole = g;
            stores = cc;
            called = λ answer. ap (λ (x : Called). record { answer = answer; after = x.after }) (as-ended false g)
                ∙ sym (storing-is allowance m xs answer d false g);
          }

  pub record Broken : Type 0 where
    pub short : is_cut allowance xs ≡ true
    pub called : (answer : Answer) → ended r a k c ≡ storing allowance m xs answer d

  pub broken : (r ≡ Done n 0 → ⊥) → Broken
  broken no· = go (is_cut allowance xs) refl
    where
      go : (t : Bool) → is_cut allowance xs ≡ t → Broken
      go true g = record { short = g; called = λ answer. as-ended true g ∙ sym (storing-is allowance m xs answer d true g) }
      go false g = absurd (no· (ap (λ (x : Called). x.answer) (as-ended false g)))
