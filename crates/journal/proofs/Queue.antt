-- Laws of the queue: stages lay the cells of a batch into the queue places, and a commit makes them pending. Assumes nothing.
use mathlib.Core.Path.{◌≡◌, refl, sym, ap, ap₂, ◌∙◌}
use mathlib.Core.List.{List, [], ◌∷◌, ◌++◌, append_assoc}
use Prim.Native.Nat.{ℕ, zero, suc, ◌+◌, ◌*◌, ◌^◌, ◌≤◌, ◌<◌}
use native.Mathlib.Omega.{arith}
use lib.Dec.{lit<}
use lib.ListN.{length, get_or, take, drop, length-append, length-take}
use lib.Seq.{take_all, take_at, drop_at}
use Rattle.words.specs.Bytes.{from_le, to_le, part, put}
use Rattle.words.proofs.Digits.{Below, below-take, below-drop, length_digits, digits-exact, number-exact}
use Rattle.words.proofs.Parts.{length_part, length-put, part-add, put-append, put-nil}
use Rattle.words.proofs.Puts.{part-put-same, part-put-after, part-put-in, get_d_part}
use Rattle.words.proofs.Words.{part-lt}
use Rattle.control.specs.Control.{Cell, control_length, place_at, queued, places, queue, count, new_root}
use Rattle.control.proofs.Laws.{count_at_lem, new-root-at, same-places}
use Rattle.journal.specs.Journal.{Store, Media, media, store, store_all, stages, finish, batch_stores, pending_stores, made}
use Rattle.journal.specs.Journal.Store.{commit}
use Rattle.journal.proofs.Each.{Each, none, more, each_take}
use Rattle.journal.proofs.Laws.{batch-stages, batch-finish, store-append, pending-some}

-- a cell that fits a place: a number of 8 bytes, and 72 bytes
pub record Whole (c : Cell) : Type 0 where
  pub word : c.number < 2 ^ 64
  pub size : length c.bytes ≡ 72
  pub bytes : Below 256 c.bytes

pub whole-places : (s : List ℕ) (at n : ℕ) → at + 80 * n ≤ length s → Below 256 s → Each Whole (places s at n)
unfolding places queued
whole-places s at zero h b = none
whole-places s at (suc n) h b =
    more
    (record {
      word = part-lt 8 s at b;
      size = length_part s (at + 8) 72 (omega arith);
      bytes = below-take 72 (drop (at + 8) s)
          (below-drop (at + 8) s b);
    })
    (whole-places s (at + 80) n (omega arith) b)

-- ---- cells laid into places

-- what a place holds of a cell
abbrev pub placed : Cell → List ℕ
placed c = to_le 8 c.number ++ c.bytes

unfoldable pub laid : List Cell → List ℕ
laid [] = []
laid (c ∷ cs) = placed c ++ laid cs

pub length-placed : {c : Cell} → Whole c → length (placed c) ≡ 80
length-placed {c} w = length-append (to_le 8 c.number) c.bytes ∙ ap₂ ◌+◌ (length_digits 256 8 c.number) w.size

pub length-laid : {cs : List Cell} → Each Whole cs → length (laid cs) ≡ 80 * length cs
unfolding laid
length-laid none = refl
length-laid (more {x = c} {xs = cs} w ws) = omega (arith, length-append (placed c) (laid cs), length-placed w, length-laid ws)

-- the places that hold the cells are those cells
pub places-laid : {cs : List Cell} → Each Whole cs → places (laid cs) 0 (length cs) ≡ cs
unfolding laid places queued
places-laid none = refl
places-laid (more {x = c} {xs = cs} w ws) =
    let number : part (placed c ++ laid cs) 0 8 ≡ to_le 8 c.number =
    ap (take 8) (append_assoc (to_le 8 c.number) c.bytes (laid cs))
    ∙ take_at (to_le 8 c.number) (c.bytes ++ laid cs) 8 (length_digits 256 8 c.number) in
    let cell : part (placed c ++ laid cs) 8 72 ≡ c.bytes =
    ap (λ (l : List ℕ). part l 8 72) (append_assoc (to_le 8 c.number) c.bytes (laid cs))
    ∙ ap (take 72) (drop_at (to_le 8 c.number) (c.bytes ++ laid cs) 8 (length_digits 256 8 c.number))
    ∙ take_at c.bytes (laid cs) 72 w.size in
    ap₂ {C = List Cell} (λ (x : ℕ) (b : List ℕ). record { number = x; bytes = b } ∷ places (placed c ++ laid cs) 80 (length cs))
    (ap from_le number ∙ number-exact 256 8 c.number (lit< tt) w.word) cell
    ∙ ap (λ (l : List Cell). c ∷ l)
    (same-places (placed c ++ laid cs) (laid cs) 80 0 (length cs)
    (ap (take (80 * length cs)) (drop_at (placed c) (laid cs) 80 (length-placed w)))
    ∙ places-laid ws)

-- the cells of places lie as the places do
pub laid-places : (s : List ℕ) (at n : ℕ) → at + 80 * n ≤ length s → Below 256 s → laid (places s at n) ≡ part s at (80 * n)
unfolding laid places queued
laid-places s at zero h b = refl
laid-places s at (suc n) h b =
    let all : 80 * suc n ≡ 80 + 80 * n = omega arith in
    let number : to_le 8 (from_le (part s at 8)) ≡ part s at 8 =
    digits-exact 256 8 (part s at 8) (length_part s at 8 (omega arith)) (below-take 8 (drop at s) (below-drop at s b)) in
    ap₂ {C = List ℕ} (λ (a r : List ℕ). (a ++ part s (at + 8) 72) ++ r) number (laid-places s (at + 80) n (omega arith) b)
    ∙ ap (λ (l : List ℕ). l ++ part s (at + 80) (80 * n)) (sym (part-add s at 8 72))
    ∙ sym (ap (part s at) all ∙ part-add s at 80 (80 * n))

-- ---- stages and commit

-- stages are one put
pub stages-put : (m : Media) (j : ℕ) {cs : List Cell} → Each Whole cs → place_at j + 80 * length cs ≤ length m.control
    → store_all m (stages j cs) ≡ media m.array (put m.control (place_at j) (laid cs))
unfolding store_all stages store laid
stages-put m j none p = ap (media m.array) (sym (put-nil m.control (place_at j) (omega arith)))
stages-put m j (more {x = c} {xs = cs} w ws) p =
    let one = length-placed w in
    let rest = length-laid ws in
    let next : place_at (suc j) ≡ place_at j + length (placed c) = omega arith in
    stages-put (media m.array (put m.control (place_at j) (placed c))) (suc j) ws
    (rw (length-put m.control (place_at j) (placed c) (omega arith)) (omega arith))
    ∙ ap (λ (i : ℕ). media m.array (put (put m.control (place_at j) (placed c)) i (laid cs))) next
    ∙ ap (media m.array) (put-append m.control (place_at j) (placed c) (laid cs) (omega arith))

-- the queue places of a record into which cells are laid
pub laid-queue : (k : List ℕ) (cs : List Cell) → length k ≡ control_length → length cs ≤ 8 → Each Whole cs
    → places (put k (place_at 0) (laid cs)) (place_at 0) (length cs) ≡ cs
laid-queue k cs size few ws =
    same-places (put k (place_at 0) (laid cs)) (laid cs) (place_at 0) 0 (length cs)
    (part-put-same k (place_at 0) (laid cs) (omega arith) (80 * length cs) (length-laid ws)
    ∙ sym (take_all (80 * length cs) (laid cs) (omega (arith, length-laid ws))))
    ∙ places-laid ws

-- the control record k after the stages of cs and the commit
abbrev pub committed : List ℕ → List Cell → ℕ → List ℕ
committed k cs r = put (put k (place_at 0) (laid cs)) 15 (length cs ∷ to_le 8 r)

module _ (k : List ℕ) (cs : List Cell) (r : ℕ) (size : length k ≡ control_length) (few : length cs ≤ 8) (ws : Each Whole cs) where
  abbrev fields : List ℕ
  fields = length cs ∷ to_le 8 r

  wide : length fields ≡ 9
  wide = ap suc (length_digits 256 8 r)

  inside : place_at 0 + length (laid cs) ≤ length k
  inside = omega (arith, length-laid ws)

  staged : length (put k (place_at 0) (laid cs)) ≡ control_length
  staged = length-put k (place_at 0) (laid cs) inside ∙ size

  fits : 15 + length fields ≤ length (put k (place_at 0) (laid cs))
  fits = omega (arith, wide, staged)

  starts : 15 ≤ length (put k (place_at 0) (laid cs))
  starts = omega (arith, staged)

  pub length-committed : length (committed k cs r) ≡ control_length
  length-committed = length-put (put k (place_at 0) (laid cs)) 15 fields fits ∙ staged

  pub committed-count : count (committed k cs r) ≡ length cs
  committed-count =
      count_at_lem (committed k cs r) ∙ sym (get_d_part (committed k cs r) 15 9 0 (lit< tt))
      ∙ ap (λ (l : List ℕ). get_or l 0 0) (part-put-same (put k (place_at 0) (laid cs)) 15 fields starts 9 wide)

  pub committed-root : r < 2 ^ 64 → new_root (committed k cs r) ≡ r
  committed-root p =
      new-root-at (committed k cs r)
      ∙ ap from_le
      (part-put-in (put k (place_at 0) (laid cs)) 15 fields starts 1 8 (omega (arith, wide)) ∙ take_all 8 (to_le 8 r) (omega (arith, wide)))
      ∙ number-exact 256 8 r (lit< tt) p

  pub committed-queue : queue (committed k cs r) ≡ cs
  unfolding queue
  committed-queue =
      ap (places (committed k cs r) (place_at 0)) committed-count
      ∙ same-places (committed k cs r) (put k (place_at 0) (laid cs)) (place_at 0) (place_at 0) (length cs)
      (part-put-after (put k (place_at 0) (laid cs)) 15 fields starts (place_at 0) (80 * length cs) (omega (arith, wide)))
      ∙ laid-queue k cs size few ws

  pub committed-pending : 0 < length cs → r < 2 ^ 64 → pending_stores (committed k cs r) ≡ finish cs r
  committed-pending some p =
      pending-some (committed k cs r) (omega (arith, committed-count))
      ∙ ap₂ {C = List Store} finish committed-queue (committed-root p)

  -- the stores of the batch: as many as are staged, and those after the commit
  pub cut-staged : (a : List ℕ) (n : ℕ) → 0 < length cs → n ≤ length cs
      → store_all (media a k) (made n (batch_stores cs r)) ≡ media a (put k (place_at 0) (laid (take n cs)))
  cut-staged a n some h =
      ap (store_all (media a k)) (batch-stages n cs r some h)
      ∙ stages-put (media a k) 0 (each_take n ws) (omega (arith, length-take n cs))

  pub cut-committed : (a : List ℕ) (n : ℕ) → 0 < length cs
      → store_all (media a k) (made (length cs + suc n) (batch_stores cs r)) ≡ store_all (media a (committed k cs r)) (made n (finish cs r))
  unfolding store store_all
  cut-committed a n some =
      ap (store_all (media a k)) (batch-finish n cs r some)
      ∙ store-append (media a k) (stages 0 cs) (commit (length cs) r ∷ made n (finish cs r))
      ∙ ap (λ (m : Media). store_all (store m (commit (length cs) r)) (made n (finish cs r))) (stages-put (media a k) 0 ws (omega arith))
