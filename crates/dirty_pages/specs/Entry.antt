-- What a counter slot gives the list. Assumes nothing.
use Rattle.std.specs.Prelude.{ℕ, ◌-◌, ◌^◌, cond, List, eqb}
use Rattle.cache.specs.Cache.{owner, dirty}

-- a spare place, as a number: eight bytes of FF hex
abbrev pub spare : ℕ
spare = 2 ^ 64 - 1

-- the page of counter slot s where it is dirty, else a spare place
unfoldable pub entry : List ℕ → ℕ → ℕ
entry c s = cond (eqb (dirty c s) 1) (owner c s - 1) spare
