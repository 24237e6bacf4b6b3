-- What an array keeps of a tree through a power failure. Assumes nothing.
use mathlib.Core.Path.{◌≡◌}
use mathlib.Core.Bool.{true}
use mathlib.Core.List.{List}
use Prim.Native.Nat.{ℕ, suc, ◌+◌, ◌*◌, ◌≤◌, ◌<◌}
use lib.ListN.{length, drop, replicate}
use Rattle.memory_map.specs.Map.{pages, nodes, array_length, cell_of, InMap, Item}
use Rattle.memory_map.specs.Map.Item.{line, node, shadow}
use Rattle.slot_map.specs.Slots.{slot_of}
use Rattle.counter.specs.Counter.{major, minor, lag}
use Rattle.cache.specs.Cache.{shadow_owner, cell_bytes}
use Rattle.cache.proofs.Laws.{Owned}
use Rattle.history_laws.proofs.Setting.{Setting, Tree, Small, tree_node, node_in, Opening, opens}

-- the bytes of an item's cell in which nothing is kept: the side bytes of a block or node, what follows the owner in a shadow cell
unfoldable pub Spare : Item → List ℕ → Type 0
Spare (line n) cell = Unit {0}
Spare (node l i) cell = drop 64 cell ≡ replicate 8 0
Spare (shadow s) cell = drop 8 cell ≡ replicate 64 0

-- what an array keeps of a tree, and of a turn that is not finished
module _ (S : Setting) (T : Tree) (o : Opening) where
  open S use {h}
  open T use {count}

  pub record Durable (a : List ℕ) : Type 0 where
    pub whole : length a ≡ array_length h
    pub small : Small T
    pub owners : Owned h (shadow_owner h a)
    pub stored : (l i : ℕ) → l ≤ h → i < nodes h l → (shadow_owner h a (slot_of l i) ≡ suc i → ⊥) → node_in S a l i ≡ tree_node S T l i
    pub majors : (p : ℕ) → p < pages h → major (node_in S a 0 p) ≡ T.major p
    pub behind : (p j : ℕ) → p < pages h → j < 64 → minor (node_in S a 0 p) j ≤ count (64 * p + j)
    pub near : (p j : ℕ) → p < pages h → j < 64 → count (64 * p + j) ≤ minor (node_in S a 0 p) j + lag (count (64 * p + j))
    pub open_block : (p : ℕ) → p < pages h → opens o p ≡ true → node_in S a 0 p ≡ tree_node S T 0 p
    pub spare : (x : Item) → InMap h x → Spare x (cell_bytes a (cell_of h x))
