-- The path of a page seen in the cache before anything is loaded: which nodes are missing, the tags they must carry, the cells that loading
-- them stores and the cache with them. For laws and for the contracts of steps; what a call leaves is said by the definitions of the calls.
-- Assumes nothing.
use Rattle.std.specs.Prelude.{ℕ, zero, suc, ◌+◌, cond, List, [], ◌∷◌, ◌++◌, eqb}
use Rattle.memory_map.specs.Map.{on_path, cell_of}
use Rattle.memory_map.specs.Map.Item.{node}
use Rattle.slot_map.specs.Slots.{slot_of}
use Rattle.control.specs.Control.{Cell}
use Rattle.cache.specs.Cache.{with_slot, cell_content, holds, current}
use Rattle.journal.specs.Journal.{Store, batch_stores}
use Rattle.calls.specs.Path.{child_tag, shadow_cell, evicted}

-- how many of the n lowest nodes of the path the cache lacks
unfoldable pub missing : List ℕ → ℕ → ℕ → ℕ
missing c p zero = 0
missing c p (suc l) = cond (holds c l (on_path p l)) 0 1 + missing c p l

-- the tag that the node of level l on the path must carry: the root for the top, else what its parent gives
unfoldable pub expected_tag : ℕ → List ℕ → List ℕ → ℕ → ℕ → ℕ → ℕ
expected_tag h a c r p l = cond (eqb l h) r (child_tag (current h a c (suc l) (on_path p (suc l))) (on_path p l))

-- the cells that loading node i of level l stores where it is missing, and those of the n lowest levels of a path, top first
unfoldable pub node_cells : ℕ → List ℕ → ℕ → ℕ → List Cell
node_cells h c l i = cond (holds c l i) [] (evicted h c l (slot_of l i) ++ (shadow_cell h (slot_of l i) (suc i) ∷ []))

unfoldable pub path_cells : ℕ → List ℕ → ℕ → ℕ → List Cell
path_cells h c p zero = []
path_cells h c p (suc l) = node_cells h c l (on_path p l) ++ path_cells h c p l

-- the stores of a read that loads the path, under a root
abbrev pub path_stores : ℕ → List ℕ → ℕ → ℕ → List Store
path_stores h c p r = batch_stores (path_cells h c p (suc h)) r

-- the cache with that node, and with those levels
unfoldable pub with_node : ℕ → List ℕ → List ℕ → ℕ → ℕ → List ℕ
with_node h a c l i = cond (holds c l i) c (with_slot c (slot_of l i) (suc i) 0 (cell_content a (cell_of h (node l i))))

unfoldable pub with_path : ℕ → List ℕ → ℕ → ℕ → List ℕ → List ℕ
with_path h a p zero c = c
with_path h a p (suc l) c = with_path h a p l (with_node h a c l (on_path p l))
