-- The cache, the shadow of its owners in the array, and which of the two has a counter block or node.
-- Assumes nothing.
use Rattle.std.specs.Prelude.{ℕ, zero, suc, ◌+◌, ◌*◌, Bool, true, false, ◌&&◌, ◌||◌, not, cond, List, [], ◌∷◌, ◌++◌, leb, eqb, get_or, replicate}
use Rattle.words.specs.Bytes.{from_le, to_le, part, put}
use Rattle.memory_map.specs.Map.{slots, cell_of}
use Rattle.slot_map.specs.Slots.{cache_length, slot_of, belongs}
use Rattle.memory_map.specs.Map.Item.{node, shadow}
use Rattle.std.specs.Option.{is_none, option_or}
use Rattle.std.specs.Prelude.{Option, None, Some}

-- Slots: owner (0: empty, else index + 1), dirty, content

unfoldable pub owner : List ℕ → ℕ → ℕ
owner c s = from_le (part c (73 * s) 8)

unfoldable pub dirty : List ℕ → ℕ → ℕ
dirty c s = get_or c (73 * s + 8) 0

unfoldable pub content : List ℕ → ℕ → List ℕ
content c s = part c (73 * s + 9) 64

unfoldable pub with_slot : List ℕ → ℕ → ℕ → ℕ → List ℕ → List ℕ
with_slot c s o d b = put c (73 * s) (to_le 8 o ++ (d ∷ b))

abbrev pub empty_cache : ℕ → List ℕ
empty_cache h = replicate (cache_length h) 0

-- The array's cells

-- the 72 bytes of cell n
abbrev pub cell_bytes : List ℕ → ℕ → List ℕ
cell_bytes a n = part a (72 * n) 72

-- the first 64 of them
unfoldable pub cell_content : List ℕ → ℕ → List ℕ
cell_content a n = part a (72 * n) 64

-- the shadow of slot s: the owner that its shadow cell names
unfoldable pub shadow_owner : ℕ → List ℕ → ℕ → ℕ
shadow_owner h a s = from_le (part a (72 * cell_of h (shadow s)) 8)

-- Formed

-- f at s, s + 1, .., n of them
unfoldable pub from : (ℕ → ℕ) → ℕ → ℕ → List ℕ
from f s zero = []
from f s (suc n) = f s ∷ from f (suc s) n

abbrev pub cache_owners : ℕ → List ℕ → List ℕ
cache_owners h c = from (owner c) 0 (slots h)

abbrev pub shadow_owners : ℕ → List ℕ → List ℕ
shadow_owners h a = from (shadow_owner h a) 0 (slots h)

abbrev pub top_slot : ℕ → ℕ
top_slot h = slot_of h 0

-- the first slot from s on whose owner is not 0 and does not belong there
unfoldable pub stray : ℕ → ℕ → List ℕ → Option ℕ
stray h s [] = None
stray h s (o ∷ os) = cond (eqb o 0 || belongs h s o) (stray h (suc s) os) (Some s)

unfoldable pub any_owner : List ℕ → Bool
any_owner [] = false
any_owner (o ∷ os) = not (eqb o 0) || any_owner os

-- the top's slot where it is empty and another is filled
unfoldable pub missing_top : ℕ → List ℕ → Option ℕ
missing_top h os = cond (any_owner os && eqb (get_or os (top_slot h) 0) 0) (Some (top_slot h)) None

-- the slot that keeps owners from being formed: the first stray one, else the top's
unfoldable pub bad_slot : ℕ → List ℕ → Option ℕ
bad_slot h os = option_or (stray h 0 os) (missing_top h os)

-- dirty is 0 or 1, and 0 in an empty slot, from slot s on, n of them
unfoldable pub flags_formed : List ℕ → ℕ → ℕ → Bool
flags_formed c s zero = true
flags_formed c s (suc n) = leb (dirty c s) (cond (eqb (owner c s) 0) 0 1) && flags_formed c (suc s) n

unfoldable pub formed : ℕ → List ℕ → Bool
formed h c = is_none (bad_slot h (cache_owners h c)) && flags_formed c 0 (slots h)

-- A counter block or node is the cache's where a slot holds it, else the array's

unfoldable pub holds : List ℕ → ℕ → ℕ → Bool
holds c l i = eqb (owner c (slot_of l i)) (suc i)

unfoldable pub current : ℕ → List ℕ → List ℕ → ℕ → ℕ → List ℕ
current h a c l i = cond (holds c l i) (content c (slot_of l i)) (cell_content a (cell_of h (node l i)))
