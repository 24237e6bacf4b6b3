-- The state as the code holds it, four rows of four words, for the contracts of the steps inside the block function.
-- Assumes nothing.
use Rattle.std.specs.Prelude.{ℕ, ◌+◌, ◌%◌, List, [], ◌∷◌, ◌++◌, bit_xor, slice_index, slice_index_or}
use Rattle.rotation.specs.Rotate.{add_w, rotl}
use Rattle.chacha20.specs.ChaCha20.{quarter}

-- the row of a word for each of the four columns
abbrev pub row : (ℕ → ℕ) → List ℕ
row f = f 0 ∷ f 1 ∷ f 2 ∷ f 3 ∷ []

-- the word of row i in column j
abbrev pub word : List (List ℕ) → ℕ → ℕ → ℕ
word s i j = slice_index (slice_index_or s i []) j

-- the sixteen words of the state, row after row
unfoldable pub flat : List (List ℕ) → List ℕ
flat s = row (word s 0) ++ (row (word s 1) ++ (row (word s 2) ++ row (word s 3)))

-- a + b in each column
unfoldable pub sum_row : List ℕ → List ℕ → List ℕ
sum_row a b = row (λ j. add_w 32 (slice_index a j) (slice_index b j))

-- (d ^ a) <<< n in each column
unfoldable pub mix_row : ℕ → List ℕ → List ℕ → List ℕ
mix_row n d a = row (λ j. rotl 32 n (bit_xor (slice_index d j) (slice_index a j)))

-- the quarter round of column j
abbrev pub column : List (List ℕ) → ℕ → List ℕ
column s j = quarter (word s 0 j) (word s 1 j) (word s 2 j) (word s 3 j)

-- a quarter round in each column
unfoldable pub quarter_rows : List (List ℕ) → List (List ℕ)
quarter_rows s =
    row (λ j. slice_index (column s j) 0) ∷ row (λ j. slice_index (column s j) 1)
    ∷ row (λ j. slice_index (column s j) 2) ∷ row (λ j. slice_index (column s j) 3) ∷ []

-- a row turned left by n words
abbrev pub turned_row : ℕ → List ℕ → List ℕ
turned_row n r = row (λ j. slice_index r ((j + n) % 4))

-- rows 1, 2 and 3 turned left by a, b and c words
abbrev pub turned : ℕ → ℕ → ℕ → List (List ℕ) → List (List ℕ)
turned a b c s =
    slice_index_or s 0 [] ∷ turned_row a (slice_index_or s 1 []) ∷ turned_row b (slice_index_or s 2 [])
    ∷ turned_row c (slice_index_or s 3 []) ∷ []
