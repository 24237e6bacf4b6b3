-- The cells that a batch is made of, and how they are staged: for the contracts of the steps that stage them. Assumes nothing.
use Rattle.std.specs.Prelude.{ℕ, suc, cond, List, [], ◌∷◌, ◌++◌, ltb, replicate}
use Rattle.words.specs.Bytes.{to_le, put}
use Rattle.control.specs.Control.{Cell, place_at}

-- a content and side bytes
abbrev pub cell_with : ℕ → List ℕ → ℕ → Cell
cell_with number content side = record { number = number; bytes = content ++ to_le 8 side }

-- an owner and zeros
abbrev pub shadow_for : ℕ → ℕ → Cell
shadow_for number owner = record { number = number; bytes = to_le 8 owner ++ replicate 64 0 }

-- the control record with cell n of a batch staged, if the allowance goes that far
unfoldable pub staged : ℕ → ℕ → Cell → List ℕ → List ℕ
staged allowance n c k = cond (ltb n allowance) (put k (place_at n) (to_le 8 c.number ++ c.bytes)) k

-- with cells from place n on staged, as far as the allowance goes
unfoldable pub staged_from : ℕ → ℕ → List Cell → List ℕ → List ℕ
staged_from allowance n [] k = k
staged_from allowance n (c ∷ cs) k = staged_from allowance (suc n) cs (staged allowance n c k)
