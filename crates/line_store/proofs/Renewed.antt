-- A path renewed by a counter block: by its tags, and by an array that has kept the nodes above the block. Assumes nothing.
use mathlib.Core.Path.{◌≡◌, refl, sym, ap, ap₂, ◌∙◌}
use mathlib.Core.Bool.{false}
use mathlib.Core.List.{List}
use Prim.Native.Nat.{ℕ, zero, suc, ◌*◌, ◌%◌, ◌≤◌}
use native.Mathlib.Nat.{le_refl}
use native.Mathlib.Omega.{arith}
use lib.ListN.{length, get_or}
use Rattle.words.specs.Bytes.{to_le, put}
use Rattle.memory_map.specs.Map.{on_path, cell_of}
use Rattle.memory_map.specs.Map.Item.{node}
use Rattle.memory_map.proofs.Laws.{path-top}
use Rattle.slot_map.specs.Slots.{slot_of}
use Rattle.tag.specs.Tag.{node_tag}
use Rattle.cache.specs.Cache.{content, cell_content, with_slot, holds, current}
use Rattle.calls.specs.Path.{renewed, renew_path, renewed_root}
use Rattle.call_laws.specs.Walk.{with_path}
use Rattle.call_laws.proofs.Loading.{path-content, path-length}
use Rattle.path.proofs.Ready.{Ready}
use Rattle.renewal.specs.Renewed.{renewed_tag, renewed_by}
use Rattle.line_store.proofs.Held.{path-over, renewed-over}

module _ {h : ℕ} {a k c : List ℕ} {p : ℕ} (y : Ready h a k c p) (keys : List ℕ) (b : List ℕ) (wide : length b ≡ 64) where
  abbrev d : List ℕ
  d = with_path h a p (suc h) c

  d-content : (l : ℕ) → l ≤ h → content d (slot_of l (on_path p l)) ≡ current h a c l (on_path p l)
  d-content = path-content h y.sized.flat keys a y.sized.array 0 p y.page c y.sized.cache

  tag-renewed : (l : ℕ) → l ≤ h → renewed_tag h keys a c p b l ≡ node_tag keys (renewed keys d p b l) l (on_path p l)
  unfolding renewed_tag renewed
  tag-renewed zero q = refl
  tag-renewed (suc l) q =
      ap₂ (λ (x : List ℕ) (t : ℕ). node_tag keys (put x (8 * (on_path p l % 8)) (to_le 8 t)) (suc l) (on_path p (suc l)))
      (sym (d-content (suc l) q)) (tag-renewed l (omega arith))

  module _ (tags : List ℕ) (known : (l : ℕ) → l ≤ h → get_or tags l 0 ≡ renewed_tag h keys a c p b l) where
    pub root-renewed : get_or tags h 0 ≡ renewed_root h keys d p b
    root-renewed = known h (le_refl h) ∙ tag-renewed h (le_refl h) ∙ ap (node_tag keys (renewed keys d p b h) h) (path-top h p y.page)

    renewed-path : (f l : ℕ) → l ≤ h → renewed_by d p b f tags l ≡ renew_path keys d p b f l
    unfolding renewed_by renew_path renewed
    renewed-path f zero q = refl
    renewed-path f (suc l) q =
        ap₂ {C = List ℕ} (λ (x : List ℕ) (t : ℕ). with_slot x (slot_of (suc l) (on_path p (suc l))) (suc (on_path p (suc l))) 1
        (put (content d (slot_of (suc l) (on_path p (suc l)))) (8 * (on_path p l % 8)) (to_le 8 t)))
        (renewed-path f l (omega arith)) (known l (omega arith) ∙ tag-renewed l (omega arith))

    -- loaded from an array after stores, and renewed
    pub same-renewed : (a' : List ℕ) → length a' ≡ length a
        → ((l : ℕ) → 1 ≤ l → l ≤ h → holds c l (on_path p l) ≡ false
        → cell_content a' (cell_of h (node l (on_path p l))) ≡ cell_content a (cell_of h (node l (on_path p l))))
        → (f : ℕ) → renewed_by (with_path h a' p (suc h) c) p b f tags h ≡ renew_path keys d p b f h
    same-renewed a' same kept f =
        let whole : length a' ≡ _ = same ∙ y.sized.array in
        renewed-over h y.sized.flat p y.page b wide f tags (with_path h a' p (suc h) c) d
        (path-length h y.sized.flat keys a' whole 0 p y.page c y.sized.cache)
        (path-length h y.sized.flat keys a y.sized.array 0 p y.page c y.sized.cache)
        (path-over h y.sized.flat p y.page b wide f a a' c y.sized.array whole kept y.sized.cache) h (le_refl h)
        ∙ renewed-path f h (le_refl h)
