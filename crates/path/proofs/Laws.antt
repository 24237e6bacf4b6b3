-- The tag that a node must carry, the turns of the walk, level by level from the top, and what it tells. Assumes nothing.
use mathlib.Core.Path.{◌≡◌, refl, sym, ap, ap₂, ◌∙◌, subst}
use mathlib.Core.Bool.{Bool, true, false, cond}
use mathlib.Core.List.{List}
use mathlib.Core.Option.{Option, none, some}
use Prim.Native.Nat.{ℕ, suc, ◌+◌, ◌-◌, ◌*◌, ◌%◌, ◌≤◌, ◌<◌}
use native.Mathlib.Numerals.{add-one}
use native.Mathlib.Omega.{arith}
use borrow.Author.Tests.{eq-eqb, ne_eqb}
use lib.ListN.{length}
use Rattle.words.specs.Bytes.{from_le, part}
use Rattle.memory_map.specs.Map.{pages, lines, page_of, on_path, array_length, InMap}
use Rattle.memory_map.specs.Map.Item.{node}
use Rattle.memory_map.proofs.Laws.{page-inside, path-node}
use Rattle.slot_map.specs.Slots.{cache_length}
use Rattle.cache.specs.Cache.{holds, current}
use Rattle.calls.specs.Path.{child_tag, Loaded, loaded, differs, load_path}
use Rattle.std.specs.Prelude.{Result, Ok, Err}
use Rattle.path.specs.declared.Differs.{Differs}
use Rattle.call_laws.specs.Walk.{missing, expected_tag, path_cells, with_path}
use Rattle.path.specs.Told.{told}
use Rattle.call_laws.proofs.Loading.{right_tag, first_wrong, outcome, load-path}

-- the page of a line of the map
pub page-of-line : (h : ℕ) {n p : ℕ} → p ≡ page_of n → n < lines h → p < pages h
page-of-line h {n} e q = omega (arith, e, page-inside h n q)

-- the node of a level on the path of a page of the map
pub path-inside : {h p l i : ℕ} → p < pages h → l ≤ h → i ≡ on_path p l → InMap h (node l i)
path-inside {h} {p} {l} page low e = subst (λ (j : ℕ). InMap h (node l j)) (sym e) (path-node h p l page low)

-- ---- the tag that a node must carry

module _ (h : ℕ) (a c : List ℕ) (r p l : ℕ) where
  pub expected-top : l ≡ h → r ≡ expected_tag h a c r p l
  unfolding expected_tag
  expected-top e = rw (eq-eqb l h e)

  pub expected-child : (l ≡ h → ⊥) → (b : List ℕ) (i j : ℕ) → i ≡ on_path p (l + 1) → b ≡ current h a c (l + 1) i → j ≡ on_path p l % 8
      → from_le (part b (8 * j) 8) ≡ expected_tag h a c r p l
  unfolding expected_tag
  expected-child n b i j e f g =
      ap₂ (λ (x : List ℕ) (k : ℕ). from_le (part x (8 * k) 8))
      (f ∙ ap (λ (k : ℕ). current h a c (l + 1) k) e ∙ ap (λ (k : ℕ). current h a c k (on_path p k)) (add-one l)) g
      ∙ ap (λ (t : Bool). cond t r (child_tag (current h a c (suc l) (on_path p (suc l))) (on_path p l))) (sym (ne_eqb l h n))

-- ---- walking

-- k nodes were missing above the n lowest levels, and none of them was wrong
pub record Walking (h : ℕ) (keys a c : List ℕ) (r p k n : ℕ) : Type 0 where
  pub levels : n ≤ suc h
  pub found : first_wrong h keys a c r p (suc h) ≡ first_wrong h keys a c r p n
  pub count : missing c p (suc h) ≡ k + missing c p n
  pub few : k + n ≤ suc h

module _ (h : ℕ) (keys a c : List ℕ) (r p : ℕ) where
  pub walking-none : Walking h keys a c r p 0 (h + 1)
  walking-none =
      record {
        levels = omega arith;
        found = ap (first_wrong h keys a c r p) (sym (add-one h));
        count = ap (missing c p) (sym (add-one h)) ∙ omega arith;
        few = omega arith;
      }

  -- level n - 1
  module _ {k n : ℕ} (w : Walking h keys a c r p k n) (some_left : 0 < n) where
    top : suc (n - 1) ≡ n
    top = omega arith

    next-wrong : (u v : Bool) → holds c (n - 1) (on_path p (n - 1)) ≡ u → right_tag h keys a c r p (n - 1) ≡ v
        → first_wrong h keys a c r p (suc h) ≡ cond u (first_wrong h keys a c r p (n - 1))
        (cond v (first_wrong h keys a c r p (n - 1)) (some (n - 1)))
    unfolding first_wrong
    next-wrong u v e f = w.found ∙ ap (first_wrong h keys a c r p) (sym top) ∙ rw (e, f)

    next-missing : (u : Bool) → holds c (n - 1) (on_path p (n - 1)) ≡ u → missing c p (suc h) ≡ k + (cond u 0 1 + missing c p (n - 1))
    unfolding missing
    next-missing u e = w.count ∙ ap (λ (j : ℕ). k + missing c p j) (sym top) ∙ rw e

    pub walking-held : holds c (n - 1) (on_path p (n - 1)) ≡ true → Walking h keys a c r p k (n - 1)
    walking-held e =
        record {
          levels = omega (arith, w.levels);
          found = next-wrong true (right_tag h keys a c r p (n - 1)) e refl;
          count = next-missing true e ∙ omega arith;
          few = omega (arith, w.few);
        }

    pub walking-loaded : holds c (n - 1) (on_path p (n - 1)) ≡ false → right_tag h keys a c r p (n - 1) ≡ true
        → Walking h keys a c r p (k + 1) (n - 1)
    walking-loaded e f =
        record {
          levels = omega (arith, w.levels);
          found = next-wrong false true e f;
          count = next-missing false e ∙ omega arith;
          few = omega (arith, w.few);
        }

    pub walking-wrong : holds c (n - 1) (on_path p (n - 1)) ≡ false → right_tag h keys a c r p (n - 1) ≡ false
        → first_wrong h keys a c r p (suc h) ≡ some (n - 1)
    walking-wrong e f = next-wrong false false e f

  pub walking-all : {k n : ℕ} → Walking h keys a c r p k n → n ≡ 0 → (first_wrong h keys a c r p (suc h) ≡ none) × (k ≡ missing c p (suc h))
  unfolding first_wrong missing
  walking-all {k} w e =
      (w.found ∙ ap (first_wrong h keys a c r p) e, sym (w.count ∙ ap (λ (j : ℕ). k + missing c p j) e ∙ omega arith))

-- what is told of the path, and what that says
module _ (h : ℕ) (high : h ≤ 3) (keys a : List ℕ) (whole : length a ≡ array_length h) (r p : ℕ) (page : p < pages h) (c : List ℕ)
    (size : length c ≡ cache_length h) where
  abbrev found : Option ℕ → Loaded
  found o = outcome p o (with_path h a p (suc h) c) (path_cells h c p (suc h))

  path-found : (o : Option ℕ) → first_wrong h keys a c r p (suc h) ≡ o → load_path h keys a r p c ≡ found o
  path-found o e = load-path h high keys a whole r p page c size ∙ ap found e

  pub told-loaded : (k j : ℕ) → first_wrong h keys a c r p (suc h) ≡ none → j ≡ k → Ok j ≡ told k (load_path h keys a r p c)
  unfolding told
  told-loaded k j e f = sym (ap (told k) (path-found none e) ∙ ap Ok (sym f))

  -- the level and the index of the node
  abbrev at : ℕ → ℕ → Differs
  at l i = record { level = l; index = i }

  pub told-differs : (k j i : ℕ) → first_wrong h keys a c r p (suc h) ≡ some j → i ≡ on_path p j → Err (at j i)
      ≡ told k (load_path h keys a r p c)
  unfolding told
  told-differs k j i e f = sym (ap (told k) (path-found (some j) e) ∙ ap (λ (x : ℕ). Err (at j x)) (sym f))

  pub loaded-told : (k j : ℕ) → Ok j ≡ told k (load_path h keys a r p c)
      → (j ≡ k) × (load_path h keys a r p c ≡ loaded (with_path h a p (suc h) c) (path_cells h c p (suc h)))
  unfolding told
  loaded-told k j e = go (first_wrong h keys a c r p (suc h)) refl
    where
      go : (o : Option ℕ) → first_wrong h keys a c r p (suc h) ≡ o
          → (j ≡ k) × (load_path h keys a r p c ≡ loaded (with_path h a p (suc h) c) (path_cells h c p (suc h)))
      go none f = (let is : ◌≡◌ {A = Result ℕ Differs} (Ok j) (Ok k) = e ∙ ap (told k) (path-found none f) in cc, path-found none f)
      go (some l) f =
          absurd (let is : ◌≡◌ {A = Result ℕ Differs} (Ok j) (Err (at l (on_path p l))) = e ∙ ap (told k) (path-found (some l) f) in cc)

  pub differs-told : (k : ℕ) (d : Differs) → Err d ≡ told k (load_path h keys a r p c) → load_path h keys a r p c ≡ differs d.level d.index
  unfolding told
  differs-told k d e = go (first_wrong h keys a c r p (suc h)) refl
    where
      go : (o : Option ℕ) → first_wrong h keys a c r p (suc h) ≡ o → load_path h keys a r p c ≡ differs d.level d.index
      go none f = absurd (let is : ◌≡◌ {A = Result ℕ Differs} (Err d) (Ok k) = e ∙ ap (told k) (path-found none f) in cc)
      go (some l) f =
          let is : ◌≡◌ {A = Result ℕ Differs} (Err d) (Err (at l (on_path p l))) = e ∙ ap (told k) (path-found (some l) f) in
          let same : d ≡ at l (on_path p l) = cc in
          path-found (some l) f ∙ ap (λ (x : Differs). differs x.level x.index) (sym same)
