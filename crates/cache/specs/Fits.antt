-- What is asked of the slots of one level, for the contracts of the steps that judge a cache level by level. Assumes nothing.
use Rattle.std.specs.Prelude.{ℕ, zero, suc, ◌-◌, Bool, true, ◌&&◌, ◌||◌, cond, List, leb, eqb}
use Rattle.slot_map.specs.Slots.{slot_of}
use Rattle.cache.specs.Cache.{owner, dirty}

-- slot s, of a level l that has n nodes: its flag is right, and it is empty or has one of them that may take it
unfoldable pub fits : ℕ → ℕ → List ℕ → ℕ → Bool
fits l n c s =
    leb (dirty c s) (cond (eqb (owner c s) 0) 0 1)
    && (eqb (owner c s) 0 || (leb (owner c s) n && eqb (slot_of l (owner c s - 1)) s))

-- k slots from s on
unfoldable pub all_fit : ℕ → ℕ → List ℕ → ℕ → ℕ → Bool
all_fit l n c s zero = true
all_fit l n c s (suc k) = fits l n c s && all_fit l n c (suc s) k
