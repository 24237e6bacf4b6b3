-- The C side: another length than 24 of the buffer for the numbers is 107 before all else.
-- Assumes nothing.
use Rattle.std.specs.Prelude.{ℕ, cond, List, eqb, length}
use Rattle.words.specs.Bytes.{bytes_of}
use Rattle.answer.specs.Answer.{code_of, values_of}
use Rattle.answer.specs.declared.Answer.{Answer}

unfoldable pub code_for_c : List ℕ → Answer → ℕ
code_for_c buffer a = cond (eqb (length buffer) 24) (code_of a) 107

unfoldable pub buffer_for_c : List ℕ → Answer → List ℕ
buffer_for_c buffer a = cond (eqb (length buffer) 24) (bytes_of 8 (values_of a)) buffer

-- the array, the control record, the cache and the output: as before the call, or as the call leaves them
unfoldable pub left_for_c : {A : Type 0} → List ℕ → A → A → A
left_for_c buffer before after = cond (eqb (length buffer) 24) after before
