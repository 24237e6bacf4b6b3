-- The list of dirty pages (the paper's held list).
-- Assumes nothing.
use Rattle.std.specs.Prelude.{ℕ, zero, suc, ◌-◌, ◌*◌, Bool, ◌&&◌, not, cond, List, [], ◌∷◌, ◌++◌, eqb, length, replicate}
use Rattle.words.specs.Bytes.{bytes_of}
use Rattle.memory_map.specs.Map.{pages}
use Rattle.slot_map.specs.Slots.{cache_length, slot_of}
use Rattle.answer.specs.declared.Answer.TheVariants.{Done, Refused}
use Rattle.answer.specs.declared.Answer.{Answer}
use Rattle.control.specs.Control.{control_length, depth, valid}
use Rattle.cache.specs.Cache.{dirty, formed, holds}
use Rattle.calls.specs.Call.{judged, unlike}

-- 3 21 5 7 23
unfoldable pub list_refusal : List ℕ → List ℕ → List ℕ → ℕ
list_refusal control cache out = judged
    ((unlike (length control) control_length, 3) ∷ (not (valid control), 21) ∷ (unlike (length cache) (cache_length (depth control)), 5)
    ∷ (unlike (length out) 32, 7) ∷ (not (formed (depth control) cache), 23) ∷ [])

-- a page is dirty where its counter slot holds it and is dirty
unfoldable pub is_dirty : List ℕ → ℕ → Bool
is_dirty c p = holds c 0 p && eqb (dirty c (slot_of 0 p)) 1

-- the dirty ones of n pages from p on, in rising number
unfoldable pub dirty_from : List ℕ → ℕ → ℕ → List ℕ
dirty_from c p zero = []
dirty_from c p (suc n) = cond (is_dirty c p) (p ∷ dirty_from c (suc p) n) (dirty_from c (suc p) n)

-- the list: the module's dirty pages as 8-byte numbers, the spare places after them all FF hex
unfoldable pub page_list : ℕ → List ℕ → List ℕ
page_list h c = let xs = dirty_from c 0 (pages h) in bytes_of 8 xs ++ replicate (32 - 8 * length xs) 255

-- a call that only reads the module: its answer, and its output after it
pub record Listing : Type 0 where
  pub answer : Answer
  pub output : List ℕ

unfoldable pub list_judged : ℕ → List ℕ → List ℕ → List ℕ → Listing
list_judged zero control cache out = record { answer = Done 0 0; output = page_list (depth control) cache }
list_judged (suc n) control cache out = record { answer = Refused (suc n) 0 0 0; output = out }

abbrev pub dirty_pages : List ℕ → List ℕ → List ℕ → Listing
dirty_pages control cache out = list_judged (list_refusal control cache out) control cache out
