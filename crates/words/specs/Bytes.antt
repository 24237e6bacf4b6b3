-- Numbers as digits, the least significant first. Bytes are digits of base 256, so a little-endian number is `number 256` of its bytes.
-- Assumes nothing.
use Rattle.std.specs.Prelude.{ℕ, zero, suc, ◌+◌, ◌*◌, ◌/◌, ◌%◌, List, [], ◌∷◌, ◌++◌, length, take, drop}

-- the number whose digits in base b are ds
unfoldable pub number : ℕ → List ℕ → ℕ
number b [] = 0
number b (d ∷ ds) = d + b * number b ds

-- the n lowest digits of x in base b
unfoldable pub digits : ℕ → ℕ → ℕ → List ℕ
digits b zero x = []
digits b (suc n) x = x % b ∷ digits b n (x / b)

-- the little-endian number that bs hold
abbrev pub from_le : List ℕ → ℕ
from_le bs = number 256 bs

-- x in n bytes, little-endian
abbrev pub to_le : ℕ → ℕ → List ℕ
to_le n x = digits 256 n x

-- the n bytes of s from index at
abbrev pub part : List ℕ → ℕ → ℕ → List ℕ
part s at n = take n (drop at s)

-- s with bs in the place of the bytes from index at
abbrev pub put : List ℕ → ℕ → List ℕ → List ℕ
put s at bs = take at s ++ (bs ++ drop (at + length bs) s)

-- the first n words of w bytes each, little-endian
unfoldable pub words_of : ℕ → ℕ → List ℕ → List ℕ
words_of w zero bs = []
words_of w (suc n) bs = from_le (take w bs) ∷ words_of w n (drop w bs)

-- each of xs in w bytes, little-endian
unfoldable pub bytes_of : ℕ → List ℕ → List ℕ
bytes_of w [] = []
bytes_of w (x ∷ xs) = to_le w x ++ bytes_of w xs
