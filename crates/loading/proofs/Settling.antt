-- The path loaded under an allowance: nothing to load, or its batch staged and run. Assumes nothing.
use mathlib.Core.Path.{◌≡◌, sym, ap, ap₂, ◌∙◌}
use mathlib.Core.Bool.{true}
use mathlib.Core.List.{List, []}
use Prim.Native.Nat.{ℕ, suc, ◌+◌, ◌*◌, ◌≤◌, ◌<◌}
use native.Mathlib.Nat.{le_refl}
use native.Mathlib.Omega.{arith}
use lib.ListN.{length}
use lib.Seq.{take-nil}
use Rattle.answer.specs.declared.Answer.TheVariants.{Done, Cut}
use Rattle.words.proofs.Digits.{Below}
use Rattle.memory_map.specs.Map.{pages}
use Rattle.control.specs.Control.{control_length, Cell, root}
use Rattle.cache.specs.Cache.{formed}
use Rattle.node.specs.Sized.{Sized}
use Rattle.batch.specs.Batch.{staged_from}
use Rattle.journal.specs.Journal.{Store, Media, media, store_all, batch_stores}
use Rattle.journal.proofs.Laws.{batch-empty, store-none}
use Rattle.journal.proofs.Steps.{Ran}
use Rattle.calls.specs.Call.{Module, Called, buffers, ended, storing}
use Rattle.call_laws.specs.Walk.{missing, path_cells, path_stores, with_path}
use Rattle.call_laws.proofs.Loads.{cells-sound, none-missing, some-missing}
use Rattle.call_laws.proofs.Staged.{Staged, stored, staged-cut, staged_done}
use Rattle.call_laws.proofs.Apart.{path-kept}
use Rattle.path.proofs.Ready.{Ready, fit, few}
use Rattle.call_laws.proofs.Storing.{storing-done}

-- what settling asks for, of buffers of bytes
pub asked : {h : ℕ} {a k c : List ℕ} {p j : ℕ}
    → (length k ≡ control_length) × (Sized h a c × ((formed h c ≡ true) × ((p < pages h) × (j ≡ missing c p (suc h)))))
    → Below 256 a → Below 256 k → Below 256 c → Ready h a k c p
asked q x y z =
    record {
      sized = q.1.0;
      control = q.0;
      shaped = q.1.1.0;
      page = q.1.1.1.0;
      array-bytes = x;
      control-bytes = y;
      cache-bytes = z;
    }

module _ {h : ℕ} {a k c : List ℕ} {p : ℕ} (y : Ready h a k c p) where
  abbrev m : Module
  m = buffers a k c

  abbrev xs : List Store
  xs = path_stores h c p (root k)

  abbrev d : List ℕ
  d = with_path h a p (suc h) c

  -- nothing is missing
  pub settle-none : (allowance j : ℕ) → j ≡ missing c p (suc h) → j ≡ 0 → ended (Done 0 0) a k c
      ≡ storing allowance m xs (Done (length xs) 0) d
  settle-none allowance j e f =
      let held = none-missing h a c p (suc h) (sym e ∙ f) in
      let empty : xs ≡ [] = ap (λ (x : List Cell). batch_stores x (root k)) held.0 ∙ batch-empty (root k) in
      storing-done allowance m [] (Done 0 0) c a k 0
      (record {
        left = sym (ap (store_all (media a k)) (take-nil allowance) ∙ store-none (media a k));
        number = sym
            (ap length (take-nil {A = Store} allowance));
      }) (le_refl 0)
      ∙ ap₂ {C = Called} (λ (x : List Store) (y : List ℕ). storing allowance m x (Done (length x) 0) y) (sym empty) (sym held.1)

  -- some of it is: staged, and run
  pub settling : {allowance j : ℕ} → j ≡ missing c p (suc h) → (j ≡ 0 → ⊥) → {k₁ : List ℕ} {n : ℕ}
      → k₁ ≡ staged_from allowance 0 (path_cells h c p (suc h)) k → n ≡ length (path_cells h c p (suc h))
      → Staged h allowance a k (path_cells h c p (suc h)) k₁ n
  settling count some cells number =
      record {
        flat = y.sized.flat;
        array = y.sized.array;
        control = y.control;
        sound = cells-sound h c (fit y) p y.page (suc h) (le_refl (suc h));
        some = some-missing h a c p (suc h) (λ e. some (count ∙ e));
        few = omega (arith, few y, y.sized.flat);
        cells = cells;
        number = number;
      }

  module _ {allowance : ℕ} {k₁ : List ℕ} {n : ℕ} (s : Staged h allowance a k (path_cells h c p (suc h)) k₁ n) {r : ℕ} (old : r ≡ root k)
      {a' k' : List ℕ} {told : ℕ} (ran : Ran a k₁ n r allowance (media a' k') told) where
    pub settle-cut : told < 2 * n + 3 → ended (Cut told) a' k' c ≡ storing allowance m xs (Done (length xs) 0) d
    settle-cut = staged-cut s old ran c d

    pub settle-done : 2 * n + 3 ≤ told → (c' : List ℕ) → c' ≡ with_path h a' p (suc h) c
        → ended (Done told 0) a' k' c' ≡ storing allowance m xs (Done (length xs) 0) d
    settle-done q c' e =
        let same : c' ≡ d =
        e ∙ ap (λ (l : List ℕ). with_path h l p (suc h) c) (ap (λ (x : Media). x.array) (stored s old ran).left)
        ∙ path-kept h y.sized.deep y.sized.flat a k c y.sized.array y.control y.array-bytes y.control-bytes
        (fit y) p y.page allowance (root k) in
        ap (λ (l : List ℕ). ended (Done told 0) a' k' l) same ∙ staged_done s old ran c d q
