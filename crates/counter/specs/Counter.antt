-- The counter block of a page: a major of 8 bytes, then 64 minors of 7 bits. Assumes nothing.
use Rattle.std.specs.Prelude.{ℕ, suc, ◌+◌, ◌-◌, ◌%◌, cond, List, [], ◌∷◌, ◌++◌, map, eqb, get_or, set, take, drop}
use Rattle.words.specs.Bytes.{number, digits, from_le, to_le}

unfoldable pub major : List ℕ → ℕ
major b = from_le (take 8 b)

-- minor j fills bits 7j to 7j + 6 of the number in bytes 8 to 63: it is that number's digit j in base 128
unfoldable pub minors : List ℕ → List ℕ
minors b = digits 128 64 (from_le (drop 8 b))

abbrev pub minor : List ℕ → ℕ → ℕ
minor b j = get_or (minors b) j 0

-- the block of a major and 64 minors
unfoldable pub counter_block : ℕ → List ℕ → List ℕ
counter_block m ms = to_le 8 m ++ to_le 56 (number 128 ms)

-- the block b with v as its minor j
unfoldable pub with_minor : List ℕ → ℕ → ℕ → List ℕ
with_minor b j v = counter_block (major b) (set (minors b) j v)

-- the phase of a minor, a byte beside its line
abbrev pub phase_of : ℕ → ℕ
phase_of s = s % 4

-- how far behind a minor the one in its stored block may be: the block is stored at each multiple of 4 (stop-loss 4)
abbrev pub lag : ℕ → ℕ
lag s = s % 4

-- a minor s brought forward to a phase p: s + ((p - s) mod 4)
unfoldable pub forward : ℕ → ℕ → ℕ
forward s p = s + (p + (4 - s % 4)) % 4

-- the places of written lines from place j on: those whose minor is not 0
unfoldable pub written_from : ℕ → List ℕ → List ℕ
written_from j [] = []
written_from j (s ∷ ss) = let later = written_from (suc j) ss in cond (eqb s 0) later (j ∷ later)

abbrev pub written : List ℕ → List ℕ
written b = written_from 0 (minors b)

-- the minor of a line after a turn of its page: 1, or 0 where it is not written
unfoldable pub turned_minor : ℕ → ℕ
turned_minor s = cond (eqb s 0) 0 1

-- the block after a turn: the next major, and each minor turned
unfoldable pub turned : List ℕ → List ℕ
turned b = counter_block (suc (major b)) (map turned_minor (minors b))
