-- A batch that was cut after its commit, however often, and is finished again leaves what it leaves uncut. Assumes nothing.
use mathlib.Core.Path.{◌≡◌, refl, sym, ap, ap₂, ◌∙◌, subst}
use mathlib.Core.Bool.{true, cond, and-eq-true_iff}
use mathlib.Core.Logic.{◌⊎◌, inl, inr}
use mathlib.Core.List.{List, [], ◌∷◌, ◌++◌, map, append_assoc}
use Prim.Native.Nat.{ℕ, ◌+◌, ◌*◌, ◌/◌, ◌≤◌, ◌<◌}
use native.Mathlib.Omega.{arith}
use borrow.Author.Tests.{ltb-true}
use lib.Dec.{ltb, lit<, lit≤}
use lib.ListN.{length, get_or, take, drop, take-append-drop, length-take}
use lib.Seq.{take-nil, take_all, take-length}
use Rattle.words.specs.Bytes.{to_le, part, put}
use Rattle.words.proofs.Digits.{length_digits}
use Rattle.words.proofs.Order.{lt-or-ge, lt-eq-gt}
use Rattle.words.proofs.Parts.{length-put}
use Rattle.words.proofs.Puts.{drop-put, part-put-same, part-put-before, get_d_part, put-put, put-comm}
use Rattle.control.specs.Control.{Cell, control_length, turn_at, queue, count, new_root, in_map}
use Rattle.control.proofs.Laws.{count_at_lem, same_count, same-new-root, same_queue}
use Rattle.journal.specs.Journal.{Store, Media, media, store, store_all, finish, batch_stores, pending_stores, made}
use Rattle.journal.specs.Journal.Store.{cell, root, clear}
use Rattle.journal.proofs.Each.{Each, none, more, each_append, each_take}
use Rattle.journal.proofs.Laws.{length-finish, pending-some, pending-none, finish-cells, finish-root}
use Rattle.journal.proofs.Laws.{store-append}
use Rattle.journal.proofs.Queue.{Whole, whole-places, laid, length-laid}
use Rattle.journal.proofs.Queue.{cut-staged}
use Rattle.journal.proofs.Kept.{Formed}

-- ---- cells stored in an array

abbrev pub put-cell : List ℕ → Cell → List ℕ
put-cell a c = put a (72 * c.number) c.bytes

unfoldable pub put-cells : List ℕ → List Cell → List ℕ
put-cells a [] = a
put-cells a (c ∷ cs) = put-cells (put-cell a c) cs

pub cells-stores : (m : Media) (cs : List Cell) → store_all m (map cell cs) ≡ media (put-cells m.array cs) m.control
unfolding store_all store put-cells
cells-stores m [] = refl
cells-stores m (c ∷ cs) = cells-stores (store m (cell c)) cs

pub put-cells-append : (a : List ℕ) (xs ys : List Cell) → put-cells a (xs ++ ys) ≡ put-cells (put-cells a xs) ys
unfolding put-cells
put-cells-append a [] ys = refl
put-cells-append a (x ∷ xs) ys = put-cells-append (put-cell a x) xs ys

-- a cell of an array of n bytes
record Inside (n : ℕ) (c : Cell) : Type 0 where
  size : length c.bytes ≡ 72
  fits : 72 * c.number + 72 ≤ n

inside-cells : (n : ℕ) {cs : List Cell} → Each Whole cs → in_map (n / 72) cs ≡ true → Each (Inside n) cs
unfolding in_map
inside-cells n none e = none
inside-cells n (more {x = c} {xs = cs} w ws) e =
    let both = (and-eq-true_iff (ltb c.number (n / 72)) (in_map (n / 72) cs)).0 e in
    more {x = c} (record { size = w.size; fits = omega (arith, ltb-true c.number (n / 72) both.0) }) (inside-cells n ws both.1)

module _ (n : ℕ) where
  length-cell : (a : List ℕ) {c : Cell} → Inside n c → length a ≡ n → length (put-cell a c) ≡ n
  length-cell a {c} i l = length-put a (72 * c.number) c.bytes (omega (arith, i.size, i.fits)) ∙ l

  -- a cell that a later one covers
  over : (a : List ℕ) {c d : Cell} → Inside n c → Inside n d → length a ≡ n → c.number ≡ d.number → put-cell (put-cell a c) d
      ≡ put-cell a d
  over a {c} {d} i j l e =
      ap (λ (x : ℕ). put (put a (72 * x) c.bytes) (72 * d.number) d.bytes) e
      ∙ put-put a (72 * d.number) c.bytes (omega (arith, i.size, j.fits)) d.bytes (omega (arith, i.size, j.size))

  -- two cells that lie apart
  apart : (a : List ℕ) {c d : Cell} → Inside n c → Inside n d → length a ≡ n → c.number < d.number
      → put-cell (put-cell a c) d ≡ put-cell (put-cell a d) c
  apart a {c} {d} i j l h =
      put-comm a (72 * c.number) c.bytes (72 * d.number) d.bytes (omega (arith, i.size)) (omega (arith, j.size, j.fits))

  -- a cell that is stored again later
  hidden : (a : List ℕ) {c : Cell} {zs : List Cell} (ys : List Cell) → Inside n c → Each (Inside n) zs → length a ≡ n
      → put-cells (put-cell a c) (zs ++ (c ∷ ys)) ≡ put-cells a (zs ++ (c ∷ ys))
  unfolding put-cells
  hidden a {c} ys i none l = ap (λ (b : List ℕ). put-cells b ys) (over a i i l refl)
  hidden a {c} ys i (more {x = z} {xs = zs} j js) l =
      go (hidden (put-cell a z) ys i js (length-cell a j l)) (lt-eq-gt c.number z.number)
    where
      go : put-cells (put-cell (put-cell a z) c) (zs ++ (c ∷ ys)) ≡ put-cells (put-cell a z) (zs ++ (c ∷ ys))
          → (c.number < z.number) ⊎ ((c.number ≡ z.number) ⊎ (z.number < c.number))
          → put-cells (put-cell (put-cell a c) z) (zs ++ (c ∷ ys)) ≡ put-cells (put-cell a z) (zs ++ (c ∷ ys))
      go e (inl h) = ap (λ (b : List ℕ). put-cells b (zs ++ (c ∷ ys))) (apart a i j l h) ∙ e
      go e (inr (inl q)) = ap (λ (b : List ℕ). put-cells b (zs ++ (c ∷ ys))) (over a i j l q)
      go e (inr (inr h)) = ap (λ (b : List ℕ). put-cells b (zs ++ (c ∷ ys))) (sym (apart a j i l h)) ∙ e

  -- some cells, and then a list that has them
  redone : (a : List ℕ) {zs xs : List Cell} (ys : List Cell) → Each (Inside n) zs → Each (Inside n) xs → length a ≡ n
      → put-cells (put-cells a xs) (zs ++ (xs ++ ys)) ≡ put-cells a (zs ++ (xs ++ ys))
  unfolding put-cells
  redone a ys js none l = refl
  redone a {zs} ys js (more {x = x} {xs = xs} i is) l =
      let shift = append_assoc zs (x ∷ []) (xs ++ ys) in
      ap (put-cells (put-cells (put-cell a x) xs)) (sym shift)
      ∙ redone (put-cell a x) {zs = zs ++ (x ∷ [])} ys (each_append js (more i none)) is (length-cell a i l)
      ∙ ap (put-cells (put-cell a x)) shift ∙ hidden a (xs ++ ys) i js l

  cells-again : (a : List ℕ) (j : ℕ) {cs : List Cell} → Each (Inside n) cs → length a ≡ n → put-cells (put-cells a (take j cs)) cs
      ≡ put-cells a cs
  cells-again a j {cs} is l =
      subst (λ (ds : List Cell). put-cells (put-cells a (take j cs)) ds ≡ put-cells a ds) (take-append-drop j cs)
      (redone a (drop j cs) none (each_take j is) l)

-- ---- finishing

-- the record with the new root, and with count 0
abbrev pub rooted : List ℕ → ℕ → List ℕ
rooted k r = put k 7 (to_le 8 r)

abbrev pub cleared : List ℕ → List ℕ
cleared k = put k 15 (0 ∷ [])

pub finish-stores : (m : Media) (cs : List Cell) (r : ℕ) → store_all m (finish cs r)
    ≡ media (put-cells m.array cs) (cleared (rooted m.control r))
unfolding finish store_all store
finish-stores m cs r =
    store-append m (map cell cs) (root r ∷ clear ∷ [])
    ∙ ap (λ (x : Media). store_all x (root r ∷ clear ∷ [])) (cells-stores m cs)

-- the cells and the root alone
pub root-stores : (m : Media) (cs : List Cell) (r : ℕ) → store_all m (take (length cs + 1) (finish cs r))
    ≡ media (put-cells m.array cs) (rooted m.control r)
unfolding store_all store
root-stores m cs r =
    ap (store_all m) (finish-root cs r) ∙ store-append m (map cell cs) (root r ∷ [])
    ∙ ap (λ (x : Media). store x (root r)) (cells-stores m cs)

module _ (k : List ℕ) (size : length k ≡ control_length) where
  pub rooted-pending : (r : ℕ) → pending_stores (rooted k r) ≡ pending_stores k
  unfolding pending_stores
  rooted-pending r =
      let word = length_digits 256 8 r in
      let same = drop-put k 7 (to_le 8 r) (omega arith) 15 (omega arith) in
      ap₂ {C = List Store} (λ (n : ℕ) (xs : List Store). cond (ltb 0 n) xs []) (same_count (rooted k r) k same)
      (ap₂ {C = List Store} finish (same_queue (rooted k r) k same) (same-new-root (rooted k r) k same))

  pub cleared-pending : pending_stores (cleared k) ≡ []
  cleared-pending =
      pending-none (cleared k)
      (count_at_lem (cleared k) ∙ sym (get_d_part (cleared k) 15 1 0 (lit< tt))
      ∙ ap (λ (l : List ℕ). get_or l 0 0) (part-put-same k 15 (0 ∷ []) (omega arith) 1 refl))

-- what is pending of a formed array and control record: each pending cell lies in the array
module _ (size : ℕ) (m : Media) (f : Formed size m) (few : count m.control ≤ 8) (e : in_map (size / 72) (queue m.control) ≡ true) where
  abbrev cs : List Cell
  cs = queue m.control

  abbrev r : ℕ
  r = new_root m.control

  inside : Each (Inside size) cs
  unfolding queue
  inside = inside-cells size (whole-places m.control 24 (count m.control) (omega (arith, f.control_length)) f.control-bytes) e

  -- after j cells; after the root; after count 0
  abbrev celled : ℕ → Media
  celled j = media (put-cells m.array (take j cs)) m.control

  abbrev newed : Media
  newed = media (put-cells m.array cs) (rooted m.control r)

  abbrev done : Media
  done = media (put-cells m.array cs) (cleared (rooted m.control r))

  after-root : store_all m (map cell cs ++ (root r ∷ [])) ≡ newed
  unfolding store_all store
  after-root = store-append m (map cell cs) (root r ∷ []) ∙ ap (λ (x : Media). store x (root r)) (cells-stores m cs)

  from-cells : (j : ℕ) → store_all (celled j) (finish cs r) ≡ done
  from-cells j =
      finish-stores (celled j) cs r
      ∙ ap (λ (a : List ℕ). media a (cleared (rooted m.control r))) (cells-again size m.array j inside f.array-length)

  word : length (to_le 8 r) ≡ 8
  word = length_digits 256 8 r

  from-root : store_all newed (finish cs r) ≡ done
  from-root =
      finish-stores newed cs r
      ∙ ap₂ {C = Media} (λ (a k : List ℕ). media a (cleared k))
      (ap (λ (xs : List Cell). put-cells (put-cells m.array xs) cs) (sym (take-length cs))
      ∙ cells-again size m.array (length cs) inside f.array-length)
      (put-put m.control 7 (to_le 8 r) (omega (arith, word, f.control_length)) (to_le 8 r) (omega arith))

  long : length (rooted m.control r) ≡ control_length
  long = length-put m.control 7 (to_le 8 r) (omega (arith, word, f.control_length)) ∙ f.control_length

  -- finishing from s, which is t
  resumed : {s t g : Media} {xs : List Store} → s ≡ t → pending_stores t.control ≡ xs → store_all t xs ≡ g
      → store_all s (pending_stores s.control) ≡ g
  resumed {t = t} p q h = ap (λ (x : Media). store_all x (pending_stores x.control)) p ∙ ap (store_all t) q ∙ h

  -- however many of the pending stores were made, those that are pending then leave what all of them leave
  pub again : (j : ℕ)
      → store_all (store_all m (made j (pending_stores m.control)))
      (pending_stores (store_all m (made j (pending_stores m.control))).control)
      ≡ store_all m (pending_stores m.control)
  unfolding store_all
  again j = go (lt-or-ge 0 (count m.control))
    where
      some : 0 < count m.control → (j < length cs + 1) ⊎ ((j ≡ length cs + 1) ⊎ (length cs + 1 < j))
          → store_all (store_all m (made j (pending_stores m.control)))
          (pending_stores (store_all m (made j (pending_stores m.control))).control) ≡ done
      some h (inl p) =
          let all = pending-some m.control h in
          resumed (ap (λ (xs : List Store). store_all m (take j xs)) all ∙ ap (store_all m) (finish-cells j cs r (omega arith))
          ∙ cells-stores m (take j cs))
          all (from-cells j)
      some h (inr (inl p)) =
          let all = pending-some m.control h in
          resumed (ap₂ {C = Media} (λ (i : ℕ) (xs : List Store). store_all m (take i xs)) p all ∙ ap (store_all m) (finish-root cs r)
          ∙ after-root)
          (rooted-pending m.control f.control_length r ∙ all) from-root
      some h (inr (inr p)) =
          let all = pending-some m.control h in
          resumed
          (ap (λ (xs : List Store). store_all m (take j xs)) all
          ∙ ap (store_all m) (take_all j (finish cs r) (omega (arith, length-finish cs r)))
          ∙ finish-stores m cs r)
          (cleared-pending (rooted m.control r) long) refl

      go : (0 < count m.control) ⊎ (count m.control ≤ 0)
          → store_all (store_all m (made j (pending_stores m.control)))
          (pending_stores (store_all m (made j (pending_stores m.control))).control)
          ≡ store_all m (pending_stores m.control)
      go (inl h) =
          some h (lt-eq-gt j (length cs + 1)) ∙ sym (ap (store_all m) (pending-some m.control h) ∙ finish-stores m cs r)
      go (inr h) =
          let empty = pending-none m.control (omega arith) in
          resumed {t = m} (ap (λ (xs : List Store). store_all m (take j xs)) empty ∙ ap (store_all m) (take-nil j)) refl refl

-- ---- a batch that was cut

module _ (size : ℕ) (a k : List ℕ) (cs : List Cell) (r : ℕ) (f : Formed size (media a k)) (ws : Each Whole cs)
    (e : in_map (size / 72) cs ≡ true) (some : 0 < length cs) (few : length cs ≤ 8) where
  -- before the commit, array, fields and the section of a turn are as they were
  pub batch-dropped : (n : ℕ) → n ≤ length cs
      → ((store_all (media a k) (made n (batch_stores cs r))).array ≡ a)
      × (part (store_all (media a k) (made n (batch_stores cs r))).control 0 24 ≡ part k 0 24)
      × (drop turn_at (store_all (media a k) (made n (batch_stores cs r))).control ≡ drop turn_at k)
  batch-dropped n h =
      let s = cut-staged k cs r f.control_length few ws a n some h in
      let long = length-laid (each_take n ws) in (
        ap (λ (m : Media). m.array) s,
        ap (λ (m : Media). part m.control 0 24) s
            ∙ part-put-before k 24 (laid (take n cs)) (omega (arith, long, length-take n cs, f.control_length)) 0 24 (lit≤ tt),
        ap (λ (m : Media). drop turn_at m.control) s
            ∙ drop-put k 24 (laid (take n cs)) (omega (arith, f.control_length)) turn_at (omega (arith, long, length-take n cs)),
      )
