-- The path of a page from the top to its counter block: loading what is missing, and renewing it after a write.
-- Assumes nothing.
use Rattle.std.specs.Prelude.{ℕ, zero, suc, ◌-◌, ◌*◌, ◌%◌, cond, List, [], ◌∷◌, ◌++◌, eqb, replicate}
use Rattle.words.specs.Bytes.{from_le, to_le, part, put}
use Rattle.memory_map.specs.Map.{on_path, cell_of}
use Rattle.slot_map.specs.Slots.{slot_of}
use Rattle.memory_map.specs.Map.Item.{node, shadow}
use Rattle.tag.specs.Tag.{node_tag}
use Rattle.control.specs.Control.{Cell}
use Rattle.cache.specs.Cache.{owner, dirty, content, with_slot, cell_content, holds}

-- the tag that a node's content gives its child i
abbrev pub child_tag : List ℕ → ℕ → ℕ
child_tag b i = from_le (part b (8 * (i % 8)) 8)

-- a block or node as a cell: side bytes are zero
abbrev pub node_cell : ℕ → ℕ → ℕ → List ℕ → Cell
node_cell h l i b = record { number = cell_of h (node l i); bytes = b ++ replicate 8 0 }

-- the shadow cell of slot s for an owner
abbrev pub shadow_cell : ℕ → ℕ → ℕ → Cell
shadow_cell h s o = record { number = cell_of h (shadow s); bytes = to_le 8 o ++ replicate 64 0 }

-- the cell of a slot's dirty former owner, if there is one
unfoldable pub evicted : ℕ → List ℕ → ℕ → ℕ → List Cell
evicted h c l s = cond (eqb (dirty c s) 1) (node_cell h l (owner c s - 1) (content c s) ∷ []) []

-- a loaded path: the cache with it, and the batch; or the level and index of a node whose tag differs
pub data Loaded : Type 0 where
  loaded : List ℕ → List Cell → Loaded
  differs : ℕ → ℕ → Loaded

-- node i of level l with the tag t, where it is missing
unfoldable pub load_node : ℕ → List ℕ → List ℕ → List ℕ → ℕ → ℕ → ℕ → Loaded
load_node h keys a c l i t =
    let s = slot_of l i in
    let b = cell_content a (cell_of h (node l i)) in
    cond (holds c l i) (loaded c [])
    (cond (eqb (node_tag keys b l i) t)
    (loaded (with_slot c s (suc i) 0 b) (evicted h c l s ++ (shadow_cell h s (suc i) ∷ [])))
    (differs l i))

-- the lowest n levels of page p's path, the highest of which has the tag t; x is the batch so far
unfoldable pub load_levels : ℕ → List ℕ → List ℕ → ℕ → ℕ → ℕ → List ℕ → List Cell → Loaded
load_levels h keys a p zero t c x = loaded c x
load_levels h keys a p (suc l) t c x =
    elim (load_node h keys a c l (on_path p l) t) [
      | differs k i ↦ differs k i
      | loaded d y ↦ load_levels h keys a p l (child_tag (content d (slot_of l (on_path p l))) (on_path p (l - 1))) d (x ++ y)
    ]

-- the whole path, under a root
abbrev pub load_path : ℕ → List ℕ → List ℕ → ℕ → ℕ → List ℕ → Loaded
load_path h keys a r p c = load_levels h keys a p (suc h) r c []

-- Renewing: the content of level l on the path of page p, whose counter block is now b
unfoldable pub renewed : List ℕ → List ℕ → ℕ → List ℕ → ℕ → List ℕ
renewed keys c p b zero = b
renewed keys c p b (suc l) =
    put (content c (slot_of (suc l) (on_path p (suc l)))) (8 * (on_path p l % 8))
    (to_le 8 (node_tag keys (renewed keys c p b l) l (on_path p l)))

-- the cache with the path renewed up to level l, dirty, but for the block, whose flag is d
unfoldable pub renew_path : List ℕ → List ℕ → ℕ → List ℕ → ℕ → ℕ → List ℕ
renew_path keys c p b d zero = with_slot c (slot_of 0 p) (suc p) d b
renew_path keys c p b d (suc l) =
    with_slot (renew_path keys c p b d l) (slot_of (suc l) (on_path p (suc l))) (suc (on_path p (suc l))) 1 (renewed keys c p b (suc l))

-- the root that the renewed top gives
abbrev pub renewed_root : ℕ → List ℕ → List ℕ → ℕ → List ℕ → ℕ
renewed_root h keys c p b = node_tag keys (renewed keys c p b h) h 0

-- the tags of the eight children of node i of level l + 1, whose contents are f of their indexes
unfoldable pub tags_from : List ℕ → ℕ → (ℕ → List ℕ) → ℕ → ℕ → List ℕ
tags_from keys l f i zero = []
tags_from keys l f i (suc n) = to_le 8 (node_tag keys (f i) l i) ++ tags_from keys l f (suc i) n

abbrev pub child_tags : List ℕ → ℕ → (ℕ → List ℕ) → ℕ → List ℕ
child_tags keys l f i = tags_from keys l f (8 * i) 8
