-- The steps over rows are the specification's rounds. Assumes nothing.
use Rattle.std.proofs.Common.{◌≡◌, ℕ, ◌+◌, List, [], ◌∷◌, get_or, refl, add-one}
use Rattle.chacha20.specs.ChaCha20.{quarter, quarter_round, column_round, diagonal_round, rounds}
use Rattle.chacha20.specs.Rows.{flat, sum_row, mix_row, quarter_rows, turned}

-- the quarter rounds of the four columns, step by step
pub quarter-steps : {a1 d1 c1 b1 a2 d2 c2 b2 : List ℕ} (s : List (List ℕ))
    → a1 ≡ sum_row (get_or s 0 []) (get_or s 1 []) → d1 ≡ mix_row 16 (get_or s 3 []) a1
    → c1 ≡ sum_row (get_or s 2 []) d1 → b1 ≡ mix_row 12 (get_or s 1 []) c1
    → a2 ≡ sum_row a1 b1 → d2 ≡ mix_row 8 d1 a2 → c2 ≡ sum_row c1 d2 → b2 ≡ mix_row 7 b1 c2
    → a2 ∷ b2 ∷ c2 ∷ d2 ∷ [] ≡ quarter_rows s
unfolding quarter sum_row mix_row quarter_rows
quarter-steps s e1 e2 e3 e4 e5 e6 e7 e8 = rw (e8, e7, e6, e5, e4, e3, e2, e1)

-- a column round, and a diagonal round on the turned rows
pub rounds-flat : (s : List (List ℕ)) → flat (turned 3 2 1 (quarter_rows (turned 1 2 3 (quarter_rows s))))
    ≡ diagonal_round (column_round (flat s))
unfolding quarter_round column_round diagonal_round flat quarter_rows
rounds-flat s = refl

-- one double round more
pub next : (i : ℕ) (s : List ℕ) {t : List ℕ} → t ≡ rounds i s → diagonal_round (column_round t) ≡ rounds (i + 1) s
unfolding rounds
next i s e = rw (e, add-one)
