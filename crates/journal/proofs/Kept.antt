-- What stores keep: the lengths of array and control record, bytes as bytes, the record's first 7 bytes (mark, counts,
-- depth), and the cells that they do not name. Assumes nothing.
use mathlib.Core.Path.{◌≡◌, refl, sym, ◌∙◌}
use mathlib.Core.Logic.{◌⊎◌, inl, inr}
use mathlib.Core.Bool.{Bool, true, false, cond, and-eq-true_iff}
use mathlib.Core.List.{List, [], ◌∷◌, map}
use Prim.Native.Nat.{ℕ, suc, ◌+◌, ◌*◌, ◌/◌, ◌≤◌, ◌<◌}
use native.Mathlib.Omega.{arith}
use borrow.Author.Tests.{ltb-true}
use lib.Dec.{ltb, lit<}
use lib.ListN.{length}
use Rattle.words.specs.Bytes.{to_le, part, put}
use Rattle.words.proofs.Digits.{Below, below-nil, below-cons, below-append, below-digits, length_digits}
use Rattle.words.proofs.Parts.{length-put, below_put}
use Rattle.words.proofs.Order.{lt-eq-gt}
use Rattle.words.proofs.Puts.{part-put-before, part-put-after}
use Rattle.control.specs.Control.{Cell, control_length, place_at, queue, count, new_root, in_map}
use Rattle.journal.specs.Journal.{Store, Media, media, store, store_all, stages, finish, batch_stores, turn_stores, pending_stores, made}
use Rattle.journal.specs.Journal.Store.{stage, commit, commit_turn, cell, root, clear}
use Rattle.journal.proofs.Each.{Each, none, more, each_append, each_take}
use Rattle.journal.proofs.Queue.{Whole, placed, length-placed, whole-places}

-- an array of size bytes, and a control record
pub record Formed (size : ℕ) (m : Media) : Type 0 where
  pub array-length : length m.array ≡ size
  pub control_length : length m.control ≡ control_length
  pub array-bytes : Below 256 m.array
  pub control-bytes : Below 256 m.control

-- a store that lies within an array of bound cells, and the control record
unfoldable pub Within : ℕ → Store → Type 0
Within bound (stage j c) = (j < 8) × Whole c
Within bound (commit n r) = n ≤ 8
Within bound (commit_turn n r s) = (n ≤ 8) × (length s ≡ 17) × Below 256 s
Within bound (cell c) = (c.number < bound) × Whole c
Within bound (root r) = Unit {0}
Within bound clear = Unit {0}

-- ---- the stores of a batch lie within

within-stages : (bound j : ℕ) {cs : List Cell} → Each Whole cs → j + length cs ≤ 8 → Each (Within bound) (stages j cs)
unfolding stages Within
within-stages bound j none h = none
within-stages bound j (more {x = c} w ws) h = more {x = stage j c} (omega arith, w) (within-stages bound (suc j) ws (omega arith))

within-cells : (bound : ℕ) {cs : List Cell} → Each Whole cs → in_map bound cs ≡ true → Each (Within bound) (map cell cs)
unfolding in_map Within
within-cells bound none e = none
within-cells bound (more {x = c} {xs = cs} w ws) e =
    let both = (and-eq-true_iff (ltb c.number bound) (in_map bound cs)).0 e in
    more {x = cell c} (ltb-true c.number bound both.0, w) (within-cells bound ws both.1)

pub within-finish : (bound r : ℕ) {cs : List Cell} → Each Whole cs → in_map bound cs ≡ true → Each (Within bound) (finish cs r)
unfolding finish Within
within-finish bound r ws e = each_append (within-cells bound ws e) (more {x = root r} tt (more {x = clear} tt none))

pub within-batch : (bound r : ℕ) {cs : List Cell} → Each Whole cs → in_map bound cs ≡ true → length cs ≤ 8
    → Each (Within bound) (batch_stores cs r)
unfolding batch_stores Within
within-batch bound r none e h = none
within-batch bound r (more {xs = cs} w ws) e h =
    each_append (within-stages bound 0 (more w ws) (omega arith))
    (more {x = commit (suc (length cs)) r} h (within-finish bound r (more w ws) e))

pub within-turn : (bound r : ℕ) {cs : List Cell} {s : List ℕ} → Each Whole cs → in_map bound cs ≡ true → length cs ≤ 8 → length s ≡ 17
    → Below 256 s
    → Each (Within bound) (turn_stores cs r s)
unfolding turn_stores Within
within-turn bound r {cs} {s} ws e h size plain =
    each_append (within-stages bound 0 ws (omega arith))
    (more {x = commit_turn (length cs) r s} (h, size, plain) (within-finish bound r ws e))

pub within-pending : (bound : ℕ) (k : List ℕ) → length k ≡ control_length → Below 256 k → count k ≤ 8 → in_map bound (queue k) ≡ true
    → Each (Within bound) (pending_stores k)
unfolding queue pending_stores
within-pending bound k l b h e =
    let some = within-finish bound (new_root k) (whole-places k 24 (count k) (omega arith) b) e in
    go (ltb 0 (count k)) some
  where
    go : (t : Bool) → Each (Within bound) (finish (queue k) (new_root k)) → Each (Within bound) (cond t (finish (queue k) (new_root k)) [])
    go true p = p
    go false p = none

-- ---- what they keep

-- a put of bytes into the record
put-kept : {size : ℕ} {m : Media} (at : ℕ) (bs : List ℕ) → Formed size m → at + length bs ≤ control_length → Below 256 bs
    → Formed size (media m.array (put m.control at bs))
put-kept {m = m} at bs f h b = record {
  array-length = f.array-length;
  control_length = length-put m.control at bs (omega (arith, f.control_length)) ∙ f.control_length;
  array-bytes = f.array-bytes;
  control-bytes = below_put m.control at bs f.control-bytes b;
}

pub store_kept : {size : ℕ} {m : Media} (x : Store) → Formed size m → Within (size / 72) x → Formed size (store m x)
unfolding store Within
store_kept (stage j c) f w =
    put-kept (place_at j) (placed c) f (omega (arith, length-placed w.1))
    (below-append (to_le 8 c.number) c.bytes (below-digits 256 8 c.number (lit< tt)) w.1.bytes)
store_kept (commit n r) f w =
    put-kept 15 (n ∷ to_le 8 r) f (omega (arith, length_digits 256 8 r)) (below-cons (omega arith) (below-digits 256 8 r (lit< tt)))
store_kept (commit_turn n r s) f w =
    put-kept 15 (n ∷ to_le 8 r) (put-kept 664 s f (omega (arith, w.1)) w.2) (omega (arith, length_digits 256 8 r))
    (below-cons (omega (arith, w.0)) (below-digits 256 8 r (lit< tt)))
store_kept {size} {m} (cell c) f w = record {
  array-length = length-put m.array (72 * c.number) c.bytes (omega (arith, w.0, w.1.size, f.array-length)) ∙ f.array-length;
  control_length = f.control_length;
  array-bytes = below_put m.array (72 * c.number) c.bytes f.array-bytes w.1.bytes;
  control-bytes = f.control-bytes;
}
store_kept (root r) f w = put-kept 7 (to_le 8 r) f (omega (arith, length_digits 256 8 r)) (below-digits 256 8 r (lit< tt))
store_kept clear f w = put-kept 15 (0 ∷ []) f (omega arith) (below-cons (lit< tt) (below-nil (lit< tt)))

pub stores-kept : {size : ℕ} {m : Media} {xs : List Store} → Formed size m → Each (Within (size / 72)) xs → Formed size (store_all m xs)
unfolding store_all
stores-kept f none = f
stores-kept {m = m} f (more {x = x} w ws) = stores-kept {m = store m x} (store_kept x f w) ws

-- also where they are cut
pub made_kept : {size : ℕ} {m : Media} (a : ℕ) {xs : List Store} → Formed size m → Each (Within (size / 72)) xs
    → Formed size (store_all m (made a xs))
made_kept a f ws = stores-kept f (each_take a ws)

-- mark, counts and depth
store-front : {size : ℕ} {m : Media} (x : Store) → Formed size m → Within (size / 72) x → part (store m x).control 0 7
    ≡ part m.control 0 7
unfolding store Within
store-front {m = m} (stage j c) f w =
    part-put-before m.control (place_at j) (placed c) (omega (arith, length-placed w.1, f.control_length)) 0 7 (omega arith)
store-front {m = m} (commit n r) f w =
    part-put-before m.control 15 (n ∷ to_le 8 r) (omega (arith, length_digits 256 8 r, f.control_length)) 0 7 (omega arith)
store-front {m = m} (commit_turn n r s) f w =
    let nine = length_digits 256 8 r in
    part-put-before (put m.control 664 s) 15 (n ∷ to_le 8 r)
    (omega (arith, length-put m.control 664 s (omega (arith, w.1, f.control_length)), f.control_length)) 0 7 (omega arith)
    ∙ part-put-before m.control 664 s (omega (arith, f.control_length)) 0 7 (omega arith)
store-front (cell c) f w = refl
store-front {m = m} (root r) f w =
    part-put-before m.control 7 (to_le 8 r) (omega (arith, length_digits 256 8 r, f.control_length)) 0 7 (omega arith)
store-front {m = m} clear f w = part-put-before m.control 15 (0 ∷ []) (omega (arith, f.control_length)) 0 7 (omega arith)

pub stores-front : {size : ℕ} {m : Media} {xs : List Store} → Formed size m → Each (Within (size / 72)) xs
    → part (store_all m xs).control 0 7 ≡ part m.control 0 7
unfolding store_all
stores-front f none = refl
stores-front {m = m} f (more {x = x} w ws) = stores-front {m = store m x} (store_kept x f w) ws ∙ store-front x f w

-- ---- cells that they do not name

-- a store that leaves cell n alone
unfoldable pub Avoids : ℕ → Store → Type 0
Avoids n (stage j c) = Unit {0}
Avoids n (commit m r) = Unit {0}
Avoids n (commit_turn m r s) = Unit {0}
Avoids n (cell c) = c.number ≡ n → ⊥
Avoids n (root r) = Unit {0}
Avoids n clear = Unit {0}

avoids-stages : (n j : ℕ) (cs : List Cell) → Each (Avoids n) (stages j cs)
unfolding stages Avoids
avoids-stages n j [] = none
avoids-stages n j (c ∷ cs) = more {x = stage j c} tt (avoids-stages n (suc j) cs)

avoids-cells : (n : ℕ) {cs : List Cell} → Each (λ c. c.number ≡ n → ⊥) cs → Each (Avoids n) (map cell cs)
unfolding Avoids
avoids-cells n none = none
avoids-cells n (more {x = c} a bs) = more {x = cell c} a (avoids-cells n bs)

pub avoids-batch : (n r : ℕ) {cs : List Cell} → Each (λ c. c.number ≡ n → ⊥) cs → Each (Avoids n) (batch_stores cs r)
unfolding batch_stores finish Avoids
avoids-batch n r none = none
avoids-batch n r (more {x = c} {xs = cs} a bs) =
    each_append (avoids-stages n 0 (c ∷ cs))
    (more {x = commit (suc (length cs)) r} tt (each_append (avoids-cells n (more a bs)) (more {x = root r} tt (more {x = clear} tt none))))

pub avoids-turn : (n r : ℕ) {cs : List Cell} (s : List ℕ) → Each (λ c. c.number ≡ n → ⊥) cs → Each (Avoids n) (turn_stores cs r s)
unfolding turn_stores finish Avoids
avoids-turn n r {cs} s bs =
    each_append (avoids-stages n 0 cs)
    (more {x = commit_turn (length cs) r s} tt (each_append (avoids-cells n bs) (more {x = root r} tt (more {x = clear} tt none))))

store_apart : {size : ℕ} (n : ℕ) {m : Media} (x : Store) → Formed size m → Within (size / 72) x → Avoids n x
    → part (store m x).array (72 * n) 72 ≡ part m.array (72 * n) 72
unfolding store Within Avoids
store_apart n (stage j c) f w a = refl
store_apart n (commit k r) f w a = refl
store_apart n (commit_turn k r s) f w a = refl
store_apart {size} n {m} (cell c) f w a = go (lt-eq-gt n c.number)
  where
    within : 72 * c.number + length c.bytes ≤ length m.array
    within = omega (arith, w.0, w.1.size, f.array-length)

    go : (n < c.number) ⊎ ((n ≡ c.number) ⊎ (c.number < n)) → part (put m.array (72 * c.number) c.bytes) (72 * n) 72
        ≡ part m.array (72 * n) 72
    go (inl p) = part-put-before m.array (72 * c.number) c.bytes (omega (arith, within)) (72 * n) 72 (omega arith)
    go (inr (inl p)) = absurd (a (sym p))
    go (inr (inr p)) = part-put-after m.array (72 * c.number) c.bytes (omega (arith, within)) (72 * n) 72 (omega (arith, w.1.size))
store_apart n (root r) f w a = refl
store_apart n clear f w a = refl

pub stores_apart : {size : ℕ} (n : ℕ) {m : Media} {xs : List Store} → Formed size m → Each (Within (size / 72)) xs → Each (Avoids n) xs
    → part (store_all m xs).array (72 * n) 72 ≡ part m.array (72 * n) 72
unfolding store_all
stores_apart n f none none = refl
stores_apart n {m = m} f (more {x = x} w ws) (more a bs) = stores_apart n {m = store m x} (store_kept x f w) ws bs ∙ store_apart n x f w a
