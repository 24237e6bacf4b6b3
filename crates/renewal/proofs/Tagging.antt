-- The tags of the renewed path, level by level from the block. Assumes nothing.
use mathlib.Core.Path.{◌≡◌, sym, ap, ap₂, ◌∙◌, subst}
use mathlib.Core.Logic.{◌⊎◌, inl, inr}
use mathlib.Core.List.{List}
use Prim.Native.Nat.{ℕ, ◌+◌, ◌*◌, ◌%◌, ◌≤◌, ◌<◌}
use native.Mathlib.Numerals.{add-one}
use native.Mathlib.Omega.{arith}
use lib.ListN.{length, get_or, set, length-set}
use lib.Seq.{get_or-set_same, get_or-set_other}
use Rattle.words.specs.Bytes.{to_le, put}
use Rattle.words.proofs.Order.{lt-eq-gt}
use Rattle.memory_map.specs.Map.{pages, on_path, InMap}
use Rattle.memory_map.specs.Map.Item.{node}
use Rattle.memory_map.proofs.Laws.{path-bottom, path-node}
use Rattle.tag.specs.Tag.{node_tag}
use Rattle.cache.specs.Cache.{current}
use Rattle.renewal.specs.Renewed.{renewed_tag}

-- the node of a level on the path of a page of the map
pub path-inside : {h p l i : ℕ} → p < pages h → l ≤ h → i ≡ on_path p l → InMap h (node l i)
path-inside {h} {p} {l} page low e = subst (λ (j : ℕ). InMap h (node l j)) (sym e) (path-node h p l page low)

-- those of levels 0 to l are known
pub record Tagging (h : ℕ) (keys a c : List ℕ) (p : ℕ) (b tags : List ℕ) (tag l : ℕ) : Type 0 where
  pub levels : l ≤ h
  pub size : length tags ≡ 4
  pub known : (k : ℕ) → k ≤ l → get_or tags k 0 ≡ renewed_tag h keys a c p b k
  pub last : tag ≡ renewed_tag h keys a c p b l

module _ (h : ℕ) (high : h ≤ 3) (keys a c : List ℕ) (p : ℕ) (b : List ℕ) where
  pub tagging-first : (tags : List ℕ) (t : ℕ) → length tags ≡ 4 → t ≡ node_tag keys b 0 p → Tagging h keys a c p b (set tags 0 t) t 0
  unfolding renewed_tag
  tagging-first tags t e f =
      record { levels = omega arith; size = length-set tags 0 t ∙ e; known = λ k q. at k (omega arith); last = bottom }
    where
      bottom : t ≡ renewed_tag h keys a c p b 0
      bottom = f ∙ ap (node_tag keys b 0) (sym (path-bottom p))

      at : (k : ℕ) → k ≡ 0 → get_or (set tags 0 t) k 0 ≡ renewed_tag h keys a c p b k
      at k z =
          subst (λ (i : ℕ). get_or (set tags 0 t) i 0 ≡ renewed_tag h keys a c p b i) (sym z) (get_or-set_same tags 0 t 0 (omega arith) ∙ bottom)

  module _ {tags : List ℕ} {tag l : ℕ} (g : Tagging h keys a c p b tags tag l) (below : l < h) (child i t : ℕ) (x : List ℕ)
      (low : child ≡ on_path p l % 8)
      (up : i ≡ on_path p (l + 1)) (content : x ≡ current h a c (l + 1) i)
      (new : t ≡ node_tag keys (put x (8 * child) (to_le 8 tag)) (l + 1) i) where
    next-tag : t ≡ renewed_tag h keys a c p b (l + 1)
    unfolding renewed_tag
    next-tag =
        new
        ∙ ap₂ (λ (y : List ℕ) (j : ℕ). node_tag keys (put y (8 * j) (to_le 8 tag)) (l + 1) i)
        (content ∙ ap (current h a c (l + 1)) up) low
        ∙ ap₂ (λ (z j : ℕ). node_tag keys (put (current h a c (l + 1) (on_path p (l + 1))) (8 * (on_path p l % 8)) (to_le 8 z)) (l + 1) j)
        g.last up
        ∙ ap (λ (k : ℕ). node_tag keys (put (current h a c k (on_path p k)) (8 * (on_path p l % 8)) (to_le 8 (renewed_tag h keys a c p b l))) k
        (on_path p k)) (add-one l)
        ∙ ap (renewed_tag h keys a c p b) (sym (add-one l))

    pub tagging-next : Tagging h keys a c p b (set tags (l + 1) t) t (l + 1)
    tagging-next =
        record {
          levels = omega arith;
          size = length-set tags (l + 1) t
              ∙ g.size;
          known = λ k q. at k q (lt-eq-gt k (l + 1));
          last = next-tag;
        }
      where
        at : (k : ℕ) → k ≤ l + 1 → (k < l + 1) ⊎ ((k ≡ l + 1) ⊎ (l + 1 < k)) → get_or (set tags (l + 1) t) k 0 ≡ renewed_tag h keys a c p b k
        at k q (inl r) = get_or-set_other tags (l + 1) k t 0 (λ e. omega arith) ∙ g.known k (omega arith)
        at k q (inr (inl e)) =
            subst (λ (j : ℕ). get_or (set tags (l + 1) t) j 0 ≡ renewed_tag h keys a c p b j) (sym e)
            (get_or-set_same tags (l + 1) t 0 (omega (arith, g.size)) ∙ next-tag)
        at k q (inr (inr r)) = absurd (omega arith)
