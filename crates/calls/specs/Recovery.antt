-- Recovery after a power failure.
-- Assumes nothing.
use Rattle.std.specs.Prelude.{ℕ, zero, suc, ◌+◌, ◌-◌, ◌*◌, cond, List, [], ◌∷◌, ◌++◌, eqb, leb, length, get_or, take, drop}
use Rattle.memory_map.specs.Map.Item.{node}
use Rattle.memory_map.specs.Map.{cell_of}
use Rattle.slot_map.specs.Slots.{level_of}
use Rattle.counter.specs.Counter.{major, minors, counter_block, forward}
use Rattle.tag.specs.Tag.{node_tag}
use Rattle.candidates.specs.Candidates.{choice}
use Rattle.candidates.specs.declared.Choice.{Choice}
use Rattle.candidates.specs.declared.Choice.TheVariants.{None, Only, Several}
use Rattle.answer.specs.declared.Answer.TheVariants.{Done, Cut, Refused}
use Rattle.control.specs.Control.{family, depth, root, is_open}
use Rattle.cache.specs.Cache.{with_slot, empty_cache, cell_bytes, cell_content, shadow_owners, bad_slot, current}
use Rattle.std.specs.Prelude.{Option, None, Some}
use Rattle.journal.specs.Journal.{Media, store_all, pending_stores, made, is_cut}
use Rattle.calls.specs.Path.{child_tags}
use Rattle.calls.specs.Call.{Module, Called, media_of, with_media, judged, opening_tests, refuse}

-- 2 3 21 4 5
unfoldable pub recovery_refusal : List ℕ → Module → ℕ
recovery_refusal keys m = judged (opening_tests keys m)

-- the phase byte of a line's data cell
abbrev pub phase_byte : List ℕ → ℕ → ℕ
phase_byte a line = get_or a (72 * line + 64) 0

-- What a line's cell makes of its stored minor: a new minor, or a refusal

pub data Step : Type 0 where
  to : ℕ → Step
  bad : ℕ → Step

-- family 0: a minor s brought forward to a phase p; a phase over 3 is 28, which is judged before a minor past 127, 32
unfoldable pub by_phase : ℕ → ℕ → Step
by_phase s p = cond (leb p 3) (cond (leb (forward s p) 127) (to (forward s p)) (bad 32)) (bad 28)

-- family 1: the only candidate that fits; none is 33, several are 34
unfoldable pub by_choice : Choice → Step
by_choice None = bad 33
by_choice (Only v) = to v
by_choice Several = bad 34

-- what the lines of a page are brought forward by: the family, the keys, the array, and the major of the page's block there
pub record Source : Type 0 where
  pub family : ℕ
  pub keys : List ℕ
  pub array : List ℕ
  pub major : ℕ

-- the step of line n, whose stored minor is s, by the family
unfoldable pub step_of : ℕ → Source → ℕ → ℕ → Step
step_of zero x n s = by_phase s (phase_byte x.array n)
step_of (suc f) x n s = by_choice (choice x.keys (cell_bytes x.array n) n x.major s)

abbrev pub line_step : Source → ℕ → ℕ → Step
line_step x n s = step_of x.family x n s

-- How far bringing the counters forward has come: to new minors of a page, or a cache, and the sum so far; or to a refusal and the line
-- that ends it

pub data Forwarded : Type 0 where
  so_far : List ℕ → ℕ → Forwarded
  failed : ℕ → ℕ → Forwarded

-- on with what is made so far; the first line that fails ends it
unfoldable pub onward : Forwarded → (List ℕ → ℕ → Forwarded) → Forwarded
onward (so_far x sum) next = next x sum
onward (failed k n) next = failed k n

-- after the new minors ms, line n, whose stored minor is s
unfoldable pub stepped : Step → ℕ → ℕ → List ℕ → ℕ → Forwarded
stepped (to v) n s ms sum = so_far (ms ++ (v ∷ [])) (sum + (v - s))
stepped (bad k) n s ms sum = failed k n

-- the lines from n on, whose minors are these, after the new minors ms
unfoldable pub forward_from : Source → ℕ → List ℕ → List ℕ → ℕ → Forwarded
forward_from x n [] ms sum = so_far ms sum
forward_from x n (s ∷ ss) ms sum = onward (stepped (line_step x n s) n s ms sum) (forward_from x (suc n) ss)

-- the lines of page p, whose minors are ss; those of a page that is open stay as they are, and none of its lines is read
unfoldable pub forward_page : List ℕ → Source → ℕ → List ℕ → ℕ → Forwarded
forward_page k x p ss sum = cond (is_open k p) (so_far ss sum) (forward_from x (64 * p) ss [] sum)

abbrev pub source_of : List ℕ → Media → ℕ → Source
source_of keys d ma = record { family = family d.control; keys = keys; array = d.array; major = ma }

-- the block of page p, of the array, brought forward into slot s of c
unfoldable pub rebuild_block : ℕ → List ℕ → Media → List ℕ → ℕ → ℕ → ℕ → Forwarded
rebuild_block h keys d c sum s p =
    let b = cell_content d.array (cell_of h (node 0 p)) in
    onward (forward_page d.control (source_of keys d (major b)) p (minors b) sum)
    (λ ms t. so_far (with_slot c s (suc p) 1 (counter_block (major b) ms)) t)

-- slot s for the owner that the shadow lists there
unfoldable pub rebuild_slot : ℕ → List ℕ → Media → List ℕ → ℕ → ℕ → ℕ → Forwarded
rebuild_slot h keys d c sum s zero = so_far c sum
rebuild_slot h keys d c sum s (suc p) = rebuild_block h keys d c sum s p

-- counter slots from s on, for these owners
unfoldable pub rebuild_blocks : ℕ → List ℕ → Media → ℕ → List ℕ → List ℕ → ℕ → Forwarded
rebuild_blocks h keys d s [] c sum = so_far c sum
rebuild_blocks h keys d s (o ∷ os) c sum = onward (rebuild_slot h keys d c sum s o) (rebuild_blocks h keys d (suc s) os)

-- a node from the tags of its children as rebuilt, else as in the array
unfoldable pub rebuild_node : ℕ → List ℕ → List ℕ → List ℕ → ℕ → ℕ → List ℕ
rebuild_node h keys a c s zero = c
rebuild_node h keys a c s (suc i) = with_slot c s (suc i) 1 (child_tags keys (level_of s - 1) (current h a c (level_of s - 1)) i)

-- node slots from s on, by rising level
unfoldable pub rebuild_nodes : ℕ → List ℕ → List ℕ → ℕ → List ℕ → List ℕ → List ℕ
rebuild_nodes h keys a s [] c = c
rebuild_nodes h keys a s (o ∷ os) c = rebuild_nodes h keys a (suc s) os (rebuild_node h keys a c s o)

-- a refusal after k pending stores
abbrev pub refuse_after : ℕ → Module → ℕ → ℕ → Called
refuse_after k m n x = record { answer = Refused n k x 0; after = m }

-- the top, rebuilt or in the array, must give the root
unfoldable pub recover_root : List ℕ → ℕ → Module → ℕ → List ℕ → Called
recover_root keys k m sum c =
    let h = depth m.control in
    cond (eqb (node_tag keys (current h m.array c h 0) h 0) (root m.control))
    (record { answer = Done k sum; after = record { array = m.array; control = m.control; cache = c } })
    (refuse_after k m 29 0)

unfoldable pub recover_rebuilt : List ℕ → ℕ → Module → List ℕ → Forwarded → Called
recover_rebuilt keys k m os (so_far d sum) = recover_root keys k m sum (rebuild_nodes (depth m.control) keys m.array 4 (drop 4 os) d)
recover_rebuilt keys k m os (failed n x) = refuse_after k m n x

-- the cache is built only from the owners os that the shadow lists
unfoldable pub recover_shadow : List ℕ → ℕ → Module → List ℕ → Option ℕ → Called
recover_shadow keys k m os (Some s) = refuse_after k m 27 s
recover_shadow keys k m os None =
    let h = depth m.control in
    recover_rebuilt keys k m os (rebuild_blocks h keys (media_of m) 0 (take 4 os) (empty_cache h) 0)

abbrev pub recover_media : List ℕ → ℕ → Module → Called
recover_media keys k m =
    let h = depth m.control in
    let os = shadow_owners h m.array in
    recover_shadow keys k m os (bad_slot h os)

unfoldable pub recover_judged : ℕ → List ℕ → ℕ → Module → Called
recover_judged zero keys allowance m =
    let xs = pending_stores m.control in
    let d = with_media (store_all (media_of m) (made allowance xs)) m.cache in
    cond (is_cut allowance xs) (record { answer = Cut (length (made allowance xs)); after = d })
    (recover_media keys (length xs) d)
recover_judged (suc n) keys allowance m = refuse m (suc n) 0 0

abbrev pub recover : List ℕ → ℕ → Module → Called
recover keys allowance m = recover_judged (recovery_refusal keys m) keys allowance m
