-- Histories of a module: the events of a list, the book made from it, which lists are allowed, and the history rule.
-- Assumes nothing.
use Rattle.std.specs.Prelude.{ℕ, suc, ◌+◌, ◌-◌, ◌/◌, ◌^◌, ◌<◌, ◌≤◌, ◌≡◌, ◌⊎◌, Bool, true, false, cond, List, [], ◌∷◌, ◌++◌, ltb, eqb, length, get_or}
use Rattle.std.proofs.Math.Option.{Option, none, some}
use Rattle.memory_map.specs.Map.{page_of, place_of, lines, nodes, cell_of}
use Rattle.memory_map.specs.Map.Item.{node}
use Rattle.slot_map.specs.Slots.{slot_of}
use Rattle.counter.specs.Counter.{major, minor, turned_minor}
use Rattle.candidates.specs.Candidates.{candidate}
use Rattle.answer.specs.declared.Answer.{Answer}
use Rattle.answer.specs.declared.Answer.TheVariants.{Done, Blank, Cut, Refused}
use Rattle.answer.specs.Answer.{stores_of}
use Rattle.control.specs.Control.{root, is_open}
use Rattle.cache.specs.Cache.{cell_bytes, cell_content, shadow_owner, current}
use Rattle.journal.specs.Journal.{store_all, pending_stores}
use Rattle.calls.specs.Call.{Module, Called, NotCut, media_of, with_media}
use Rattle.calls.specs.Read.{Reading, blank_text, read}
use Rattle.calls.specs.Write.{write}
use Rattle.calls.specs.Turn.{turn, page_path, before_finished}
use Rattle.calls.specs.Recovery.{recover}
use Rattle.calls.specs.Format.{format, fresh_node, fresh_root, counts_from}
use Rattle.calls.specs.DirtyPages.{dirty_pages}

-- Events: the calls with their inputs, and a power cut between calls, which leaves any cache of its length

pub data Event : Type 0 where
  reads : List ℕ → ℕ → ℕ → List ℕ → Event
  writes : List ℕ → ℕ → List ℕ → ℕ → Event
  turns : List ℕ → ℕ → ℕ → Event
  recovers : List ℕ → ℕ → Event
  lists : List ℕ → Event
  formats : List ℕ → ℕ → ℕ → Event
  power_cut : List ℕ → Event

-- what an event answers and leaves; a power cut between calls is a cut after no store
unfoldable pub step : Event → Module → Called
step (reads keys line allowance out) m = (read keys line allowance out m).called
step (writes keys line text allowance) m = write keys line text allowance m
step (turns keys p allowance) m = turn keys p allowance m
step (recovers keys allowance) m = recover keys allowance m
step (lists out) m = record { answer = (dirty_pages m.control m.cache out).answer; after = m }
step (formats keys h f) m = format keys h f m
step (power_cut c) m = record { answer = Cut 0; after = record { array = m.array; control = m.control; cache = c } }

-- The book: for each line a count and a text, and for each page the number of its finished turns

pub record Book : Type 0 where
  pub count : ℕ → ℕ
  pub text : ℕ → Option (List ℕ)
  pub turns : ℕ → ℕ

unfoldable pub empty_book : Book
empty_book = record { count = λ n. 0; text = λ n. none; turns = λ p. 0 }

-- f with v at n
unfoldable pub changed : {A : Type 0} → (ℕ → A) → ℕ → A → ℕ → A
changed f n v k = cond (eqb k n) v (f k)

-- a write that is done is committed, and so is one cut after more than m stores, where it makes 2m + 3 with stores enough
unfoldable pub commits : Answer → ℕ → Bool
commits (Done k t) full = true
commits (Blank k) full = false
commits (Cut k) full = ltb ((full - 3) / 2) k
commits (Refused n k a b) full = false

unfoldable pub entered : Bool → ℕ → List ℕ → Book → Book
entered false n t b = b
entered true n t b =
    record { count = changed b.count n (suc (b.count n)); text = changed b.text n (some t); turns = b.turns }

-- a turn that is done is finished, and so is one cut after more stores than come before the commit of its last batch
unfoldable pub finishes : Answer → ℕ → Bool
finishes (Done k t) before = true
finishes (Blank k) before = false
finishes (Cut k) before = ltb before k
finishes (Refused n k a b) before = false

-- a finished turn sets the count of each written line of its page to 1; the texts stay
unfoldable pub turned_count : (ℕ → ℕ) → ℕ → ℕ → ℕ
turned_count f p n = cond (eqb (page_of n) p) (turned_minor (f n)) (f n)

unfoldable pub turn_entered : Bool → ℕ → Book → Book
turn_entered false p b = b
turn_entered true p b =
    record { count = turned_count b.count p; text = b.text; turns = changed b.turns p (suc (b.turns p)) }

unfoldable pub book_after : Event → Module → Book → Book
book_after (reads keys line allowance out) m b = b
book_after (writes keys line text allowance) m b =
    entered (commits (write keys line text allowance m).answer (stores_of (write keys line text (2 ^ 64 - 1) m).answer)) line text b
book_after (turns keys p allowance) m b =
    turn_entered (finishes (turn keys p allowance m).answer (before_finished keys p m (page_path keys p m))) p b
book_after (recovers keys allowance) m b = b
book_after (lists out) m b = b
book_after (formats keys h f) m b = b
book_after (power_cut c) m b = b

-- Which lists are allowed

abbrev pub AreBytes : List ℕ → Type 0
AreBytes s = (i : ℕ) → get_or s i 0 < 256

-- the module's keys, or a refused call that makes no store
abbrev pub Keyed : List ℕ → List ℕ → Answer → Type 0
Keyed keys given answer = (given ≡ keys) ⊎ ((n : ℕ) × (a : ℕ) × (b : ℕ) × (answer ≡ Refused n 0 a b))

-- which events may stand next; while a recovery is awaited only recoveries, and further cuts
unfoldable pub Admitted : List ℕ → Bool → Module → Event → Type 0
Admitted keys awaited m (reads given line allowance out) =
    (awaited ≡ false) × Keyed keys given (read given line allowance out m).called.answer
    × AreBytes given × (line < 2 ^ 64) × (allowance < 2 ^ 64) × AreBytes out
Admitted keys awaited m (writes given line text allowance) =
    (awaited ≡ false) × Keyed keys given (write given line text allowance m).answer
    × AreBytes given × (line < 2 ^ 64) × AreBytes text × (allowance < 2 ^ 64)
Admitted keys awaited m (turns given p allowance) =
    (awaited ≡ false) × Keyed keys given (turn given p allowance m).answer × AreBytes given × (p < 2 ^ 64) × (allowance < 2 ^ 64)
Admitted keys awaited m (recovers given allowance) =
    Keyed keys given (recover given allowance m).answer × AreBytes given × (allowance < 2 ^ 64)
Admitted keys awaited m (lists out) = (awaited ≡ false) × AreBytes out
Admitted keys awaited m (formats given h f) = (awaited ≡ false) × AreBytes given × ((format given h f m).answer ≡ Done 0 0 → ⊥)
Admitted keys awaited m (power_cut c) = (length c ≡ length m.cache) × AreBytes c

-- a cut awaits a recovery that is done; where one is awaited no other call is done
unfoldable pub awaits : Bool → Answer → Bool
awaits awaited (Cut k) = true
awaits awaited (Done k t) = false
awaits awaited (Blank k) = awaited
awaits awaited (Refused n k a b) = awaited

unfoldable pub Allowed : List ℕ → Bool → Module → List Event → Type 0
Allowed keys awaited m [] = Unit {0}
Allowed keys awaited m (e ∷ es) = Admitted keys awaited m e × Allowed keys (awaits awaited (step e m).answer) (step e m).after es

-- the module and the book after a list of events
unfoldable pub module_after : Module → List Event → Module
module_after m [] = m
module_after m (e ∷ es) = module_after (step e m).after es

unfoldable pub book_of : Module → Book → List Event → Book
book_of m b [] = b
book_of m b (e ∷ es) = book_of (step e m).after (book_after e m b) es

-- The rule

-- a line's counter, and its page's block and its minor in the array
unfoldable pub counter : ℕ → Module → ℕ → ℕ
counter h m n = minor (current h m.array m.cache 0 (page_of n)) (place_of n)

abbrev pub stored_block : ℕ → Module → ℕ → List ℕ
stored_block h m n = cell_content m.array (cell_of h (node 0 (page_of n)))

unfoldable pub stored_minor : ℕ → Module → ℕ → ℕ
stored_minor h m n = minor (stored_block h m n) (place_of n)

unfoldable pub total : List ℕ → ℕ
total [] = 0
total (x ∷ xs) = x + total xs

-- what a read of a line with that text in the book gives
unfoldable pub Gives : Option (List ℕ) → Reading → Type 0
Gives none r = (r.called.answer ≡ Blank (stores_of r.called.answer)) × (r.output ≡ blank_text)
Gives (some t) r = (r.called.answer ≡ Done (stores_of r.called.answer) 0) × (r.output ≡ t)

-- what holds after a done recovery that tells this sum
pub record Restored (keys : List ℕ) (h : ℕ) (b : Book) (m : Module) (sum : ℕ) : Type 0 where
  pub counters : (n : ℕ) → n < lines h → counter h m n ≡ b.count n
  pub all_counters : total (counts_from (counter h m) 0 (lines h)) ≡ total (counts_from b.count 0 (lines h))
  pub tree : (l i : ℕ) → l ≤ h → i < nodes h l → current h m.array m.cache l i ≡ fresh_node keys b.turns b.count l i
  pub top : root m.control ≡ fresh_root keys b.turns b.count h
  pub texts : (n allowance : ℕ) (out : List ℕ) → n < lines h → is_open m.control (page_of n) ≡ false → length out ≡ 64
      → NotCut (read keys n allowance out m).called.answer → Gives (b.text n) (read keys n allowance out m)
  pub near : (n : ℕ) → n < lines h → (stored_minor h m n ≤ counter h m n) × (counter h m n ≤ stored_minor h m n + 3)
  pub told : sum ≡ total (counts_from (λ n. counter h m n - stored_minor h m n) 0 (lines h))

unfoldable pub NotRefused : Answer → Type 0
NotRefused a = (n k x y : ℕ) → a ≡ Refused n k x y → ⊥

-- the module with its pending stores made
abbrev pub pending_made : Module → Module
pending_made m = with_media (store_all (media_of m) (pending_stores m.control)) m.cache

-- a recovery goes through the lines of each page that the shadow lists, but for one that is open
unfoldable pub GoneThrough : ℕ → Module → ℕ → Type 0
GoneThrough h m n =
    (shadow_owner h m.array (slot_of 0 (page_of n)) ≡ suc (page_of n)) × (is_open m.control (page_of n) ≡ false)

-- of each such line, no candidate but its count in the book fits its cell
unfoldable pub OnlyCounts : List ℕ → ℕ → Book → Module → Type 0
OnlyCounts keys h b m =
    (n v : ℕ) → GoneThrough h m n → stored_minor h m n ≤ v → v ≤ stored_minor h m n + 3
    → candidate keys (cell_bytes m.array n) n (major (stored_block h m n)) v ≡ true → v ≡ b.count n

-- what a recovery of m with the module's keys comes to, in a module of family f. It is not refused; of family 1 this is said where, once
-- its pending stores are made, no other candidate fits. No refusal but 34 of family 1 comes, after which these stores stand and the cache
-- is what it was. Done, it restores what the book says
pub record Returns (keys : List ℕ) (h f : ℕ) (b : Book) (m : Module) (out : Called) : Type 0 where
  pub not_refused : (f ≡ 1 → OnlyCounts keys h b (pending_made m)) → NotRefused out.answer
  pub refused : (n k x y : ℕ) → out.answer ≡ Refused n k x y → (f ≡ 1) × (n ≡ 34) × (out.after ≡ pending_made m)
  pub restores : (k sum : ℕ) → out.answer ≡ Done k sum → Restored keys h b out.after sum

-- The history rule (demand 3): in every allowed list from a done format, of either family, a recovery with the same keys returns to what
-- the book of the list up to it says
unfoldable pub HistoryRule : Type 0
HistoryRule =
    (keys : List ℕ) (h f : ℕ) (given : Module) (es rest : List Event) (allowance : ℕ)
    → AreBytes keys → (format keys h f given).answer ≡ Done 0 0
    → Allowed keys false (format keys h f given).after (es ++ (recovers keys allowance ∷ rest))
    → Returns keys h f (book_of (format keys h f given).after empty_book es) (module_after (format keys h f given).after es)
    (recover keys allowance (module_after (format keys h f given).after es))
