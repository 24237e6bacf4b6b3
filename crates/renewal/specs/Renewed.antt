-- The path renewed by a counter block, its tags and its slots: for the contracts of its steps. Assumes nothing.
use Rattle.std.specs.Prelude.{ℕ, zero, suc, ◌*◌, ◌%◌, List, get_or}
use Rattle.words.specs.Bytes.{to_le, put}
use Rattle.memory_map.specs.Map.{on_path}
use Rattle.slot_map.specs.Slots.{slot_of}
use Rattle.tag.specs.Tag.{node_tag}
use Rattle.cache.specs.Cache.{content, with_slot, current}

-- the tag of level l on the path of page p, whose counter block is now b
unfoldable pub renewed_tag : ℕ → List ℕ → List ℕ → List ℕ → ℕ → List ℕ → ℕ → ℕ
renewed_tag h keys a c p b zero = node_tag keys b 0 (on_path p 0)
renewed_tag h keys a c p b (suc l) =
    node_tag keys
    (put (current h a c (suc l) (on_path p (suc l))) (8 * (on_path p l % 8)) (to_le 8 (renewed_tag h keys a c p b l)))
    (suc l) (on_path p (suc l))

-- a cache that has the path, with the block b, whose flag is f, and above it each node with its child's tag, up to level l
unfoldable pub renewed_by : List ℕ → ℕ → List ℕ → ℕ → List ℕ → ℕ → List ℕ
renewed_by c p b f tags zero = with_slot c (slot_of 0 p) (suc p) f b
renewed_by c p b f tags (suc l) =
    with_slot (renewed_by c p b f tags l) (slot_of (suc l) (on_path p (suc l))) (suc (on_path p (suc l))) 1
    (put (content c (slot_of (suc l) (on_path p (suc l)))) (8 * (on_path p l % 8)) (to_le 8 (get_or tags l 0)))
