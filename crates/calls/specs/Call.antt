-- What all calls share: the buffers of a module, what a call answers and leaves, refusals in sequence, and stores under an allowance.
-- Assumes nothing.
use Rattle.std.specs.Prelude.{ℕ, ◌≡◌, Bool, not, cond, List, [], ◌∷◌, ◌++◌, leb, eqb, length}
use Rattle.memory_map.specs.Map.{lines, page_of, array_length}
use Rattle.slot_map.specs.Slots.{cache_length}
use Rattle.answer.specs.declared.Answer.TheVariants.{Cut, Refused}
use Rattle.answer.specs.declared.Answer.{Answer}
use Rattle.control.specs.Control.{control_length, depth, root, is_open, valid, pending}
use Rattle.cache.specs.Cache.{formed}
use Rattle.journal.specs.Journal.{Store, Media, store_all, made, is_cut}
use Rattle.calls.specs.Path.{Loaded, load_path}

-- the buffers of a module, and a call: its answer and the buffers after it
pub record Module : Type 0 where
  pub array : List ℕ
  pub control : List ℕ
  pub cache : List ℕ

pub record Called : Type 0 where
  pub answer : Answer
  pub after : Module

abbrev pub media_of : Module → Media
media_of m = record { array = m.array; control = m.control }

abbrev pub with_media : Media → List ℕ → Module
with_media d c = record { array = d.array; control = d.control; cache = c }

-- a module of these buffers, and a call that ended with an answer and left these
abbrev pub buffers : List ℕ → List ℕ → List ℕ → Module
buffers a k c = record { array = a; control = k; cache = c }

abbrev pub ended : Answer → List ℕ → List ℕ → List ℕ → Called
ended r a k c = record { answer = r; after = buffers a k c }

unfoldable pub NotCut : Answer → Type 0
NotCut a = (k : ℕ) → a ≡ Cut k → ⊥

-- Refusals: the first of a sequence whose test holds, 0 where none does

unfoldable pub judged : List (Bool × ℕ) → ℕ
judged [] = 0
judged (x ∷ xs) = cond x.0 x.1 (judged xs)

abbrev pub unlike : ℕ → ℕ → Bool
unlike a b = not (eqb a b)

abbrev pub length_tests : ℕ → Module → List (Bool × ℕ)
length_tests h m = (unlike (length m.array) (array_length h), 4) ∷ (unlike (length m.cache) (cache_length h), 5) ∷ []

-- 2 3 21 4 5
abbrev pub opening_tests : List ℕ → Module → List (Bool × ℕ)
opening_tests keys m =
    (unlike (length keys) 48, 2) ∷ (unlike (length m.control) control_length, 3) ∷ (not (valid m.control), 21)
    ∷ length_tests (depth m.control) m

-- then 7 6 22, of a read or a write; b is the output or the text
abbrev pub entry_tests : List ℕ → ℕ → List ℕ → Module → List (Bool × ℕ)
entry_tests keys line b m =
    opening_tests keys m
    ++ ((unlike (length b) 64, 7) ∷ (leb (lines (depth m.control)) line, 6) ∷ (pending m.control, 22) ∷ [])

unfoldable pub entry_refusal : List ℕ → ℕ → List ℕ → Module → ℕ
entry_refusal keys line b m = judged (entry_tests keys line b m)

-- last 23 30
unfoldable pub access_refusal : List ℕ → ℕ → List ℕ → Module → ℕ
access_refusal keys line b m = judged
    (entry_tests keys line b m
    ++ ((not (formed (depth m.control) m.cache), 23) ∷ (is_open m.control (page_of line), 30) ∷ []))

-- a refusal with its places; a module as it was
abbrev pub refuse : Module → ℕ → ℕ → ℕ → Called
refuse m n a b = record { answer = Refused n 0 a b; after = m }

-- The stores of a list under an allowance: done with the cache c, or cut with the cache as it was

unfoldable pub storing : ℕ → Module → List Store → Answer → List ℕ → Called
storing allowance m xs answer c =
    let d = store_all (media_of m) (made allowance xs) in
    cond (is_cut allowance xs)
    (record { answer = Cut (length (made allowance xs)); after = with_media d m.cache })
    (record { answer = answer; after = with_media d c })

-- The path of a line, in a module

abbrev pub path_of : List ℕ → ℕ → Module → Loaded
path_of keys line m = load_path (depth m.control) keys m.array (root m.control) (page_of line) m.cache
