-- What the laws of a history are about: keys, depth and family of its module, what a fresh tree is made of, a turn that is not finished.
-- Assumes nothing.
use mathlib.Core.Path.{◌≡◌}
use mathlib.Core.Bool.{Bool, true, false, ◌&&◌, ◌||◌, not, cond}
use mathlib.Core.List.{List, [], ◌∷◌}
use Prim.Native.Nat.{ℕ, suc, ◌^◌, ◌≤◌, ◌<◌}
use lib.Dec.{eqb}
use lib.ListN.{length}
use Rattle.words.proofs.Digits.{Below}
use Rattle.bits.specs.Bits.{set_bits}
use Rattle.memory_map.specs.Map.{page_of, place_of, cell_of}
use Rattle.memory_map.specs.Map.Item.{node}
use Rattle.control.specs.Control.{turn_count, turn_page, turn_mask, valid_turn}
use Rattle.cache.specs.Cache.{cell_content}
use Rattle.pad.specs.Pad.{pad, xor_bytes}
use Rattle.tag.specs.Tag.{node_tag}
use Rattle.side.specs.Side.{side_bytes}
use Rattle.calls.specs.Format.{fresh_node, fresh_root}
use Rattle.history_laws.specs.History.{Book, changed, turned_count}

-- what stays the same through a history: the keys, 48 bytes, the depth h, and the family
pub record Setting : Type 0 where
  pub keys : List ℕ
  pub keyed : Below 256 keys
  pub keys_length : length keys ≡ 48
  pub h : ℕ
  pub low : 1 ≤ h
  pub high : h ≤ 3
  pub family : ℕ
  pub known : family ≤ 1

-- what a fresh tree is made of: a major for each page, and a count for each line
pub record Tree : Type 0 where
  pub major : ℕ → ℕ
  pub count : ℕ → ℕ

-- what its blocks can hold
pub record Small (T : Tree) : Type 0 where
  pub major : (p : ℕ) → T.major p < 2 ^ 64
  pub minor : (n : ℕ) → T.count n < 128

abbrev pub tree_of : Book → Tree
tree_of b = record { major = b.turns; count = b.count }

-- with one write more of line n
abbrev pub raised : Tree → ℕ → Tree
raised T n = record { major = T.major; count = changed T.count n (suc (T.count n)) }

-- two trees agree on a page: in its major, and in the counts of its lines
pub record Agree (T U : Tree) (p : ℕ) : Type 0 where
  pub major : T.major p ≡ U.major p
  pub count : (n : ℕ) → page_of n ≡ p → T.count n ≡ U.count n

-- they have the same counter for line n; the majors are of no matter where its count is 0
pub record Alike (T U : Tree) (n : ℕ) : Type 0 where
  pub count : T.count n ≡ U.count n
  pub major : 0 < T.count n → T.major (page_of n) ≡ U.major (page_of n)

-- a node of the fresh tree, and the root
abbrev pub tree_node : Setting → Tree → ℕ → ℕ → List ℕ
tree_node S T l i = fresh_node S.keys T.major T.count l i

abbrev pub tree_root : Setting → Tree → ℕ
tree_root S T = fresh_root S.keys T.major T.count S.h

-- a node as the array has it
abbrev pub node_in : Setting → List ℕ → ℕ → ℕ → List ℕ
node_in S a l i = cell_content a (cell_of S.h (node l i))

-- a node's tag
abbrev pub tag_of : Setting → List ℕ → ℕ → ℕ → ℕ
tag_of S b l i = node_tag S.keys b l i

-- a text of line n encrypted, and its side bytes
abbrev pub pad_of : Setting → Tree → ℕ → List ℕ
pad_of S T n = pad S.keys n (T.major (page_of n)) (T.count n)

abbrev pub cipher_of : Setting → Tree → ℕ → List ℕ → List ℕ
cipher_of S T n text = xor_bytes text (pad_of S T n)

abbrev pub side_of : Setting → Tree → ℕ → List ℕ → List ℕ
side_of S T n text = side_bytes S.family S.keys (cipher_of S T n text) n (T.major (page_of n)) (T.count n)

-- a turn that is not finished: its page, and the places of its lines still to turn
pub data Opening : Type 0 where
  closed : Opening
  turning : ℕ → List ℕ → Opening

unfoldable pub among : ℕ → List ℕ → Bool
among j [] = false
among j (k ∷ ks) = eqb j k || among j ks

-- page p is the open one
unfoldable pub opens : Opening → ℕ → Bool
opens closed p = false
opens (turning q js) p = eqb q p

-- line n is of the open page and turned: its cell is encrypted afresh
unfoldable pub is_done : Opening → ℕ → Bool
is_done closed n = false
is_done (turning q js) n = eqb q (page_of n) && not (among (place_of n) js)

-- the tree after a turn of page p
abbrev pub turned_tree : Tree → ℕ → Tree
turned_tree T p = record { major = changed T.major p (suc (T.major p)); count = turned_count T.count p }

-- the tree under whose counter line n's cell is encrypted
abbrev pub sealed : Opening → Tree → ℕ → Tree
sealed o T n = cond (is_done o n) (turned_tree T (page_of n)) T

-- what the section of the control record k says of it
unfoldable pub Says : Opening → List ℕ → Type 0
Says closed k = turn_count k ≡ 0
Says (turning p js) k = (turn_count k ≡ 1) × (turn_page k ≡ p) × (set_bits (turn_mask k) ≡ js)

-- a valid section that says so
pub record Section (o : Opening) (k : List ℕ) : Type 0 where
  pub valid : valid_turn k ≡ true
  pub says : Says o k
