-- What the executor's steps leave, as stores. Assumes nothing.
use mathlib.Core.Path.{◌≡◌, refl, sym, ap, ap₂, ◌∙◌, subst}
use mathlib.Core.Bool.{true}
use mathlib.Core.Logic.{◌⊎◌, inl, inr}
use mathlib.Core.List.{List, [], ◌∷◌, ◌++◌, map, map-append, append_assoc}
use Prim.Native.Nat.{ℕ, suc, min, ◌+◌, ◌-◌, ◌*◌, ◌^◌, ◌≤◌, ◌<◌}
use native.Mathlib.Omega.{arith}
use borrow.Author.Tests.{lt-ltb}
use lib.Dec.{lit≤}
use lib.ListN.{length, take, set, length-map, length-append, length-take}
use lib.Seq.{take-nil, take_all}
use Rattle.words.specs.Bytes.{from_le, to_le, part, put}
use Rattle.words.proofs.Digits.{Below, length_digits}
use Rattle.words.proofs.Order.{lt-or-ge}
use Rattle.words.proofs.Parts.{length-put, put-part, put_one, put-append}
use Rattle.words.proofs.Puts.{put-comm}
use Rattle.control.specs.Control.{Cell, control_length, place_at, queued, places, queue, in_map, count, new_root}
use Rattle.control.proofs.Laws.{in_map_take, places-snoc, length-places, take_places}
use Rattle.batch.specs.Batch.{staged, staged_from}
use Rattle.batch.proofs.Laws.{staged-past}
use Rattle.journal.specs.Journal.{Store, Media, media, store, store_all, stages, finish, committing, batch_stores, pending_stores, made}
use Rattle.journal.specs.Journal.{Stored}
use Rattle.journal.specs.Journal.Store.{cell, root, clear}
use Rattle.journal.proofs.Each.{Each}
use Rattle.journal.proofs.Laws.{length-stages, length-finish, length-batch, pending-some, pending-none, take-stages, finish-cells}
use Rattle.journal.proofs.Laws.{finish-root, batch-stages, batch-finish, store-append}
use Rattle.journal.proofs.Queue.{Whole, whole-places, placed, laid-places, laid-queue, stages-put, committed, committed-count}
use Rattle.journal.proofs.Queue.{committed-queue, committed-pending}

-- no cell of the queue
pub no_cell : (m : Media) (k : List ℕ) (at : ℕ) → m ≡ store_all m (map cell (places k at 0))
unfolding store_all places
no_cell m k at = refl

-- one more cell of the queue
pub next-cell : (m : Media) (a k : List ℕ) (at j : ℕ) → media a k ≡ store_all m (map cell (places k at j))
    → media (put a (72 * from_le (part k (at + 80 * j) 8)) (part k (at + 80 * j + 8) 72)) k ≡ store_all m (map cell (places k at (j + 1)))
unfolding store store_all queued
next-cell m a k at j e =
    ap (λ (x : Media). store x (cell (queued k (at + 80 * j)))) e
    ∙ sym
    (ap (λ (l : List Cell). store_all m (map cell l)) (places-snoc k at j)
    ∙ ap (store_all m) (map-append cell (places k at j) (queued k (at + 80 * j) ∷ []))
    ∙ store-append m (map cell (places k at j)) (cell (queued k (at + 80 * j)) ∷ []))

-- the first t of the pending cells
pub queue-front : (bound : ℕ) (k : List ℕ) (t : ℕ) → t ≤ count k → in_map bound (queue k) ≡ true → in_map bound (places k 24 t) ≡ true
unfolding queue
queue-front bound k t h e =
    subst (λ (l : List Cell). in_map bound l ≡ true) (take_places k 24 (count k) t h) (in_map_take bound (places k 24 (count k)) t e)

-- new root and count, one after the other
pub commit-put : (k : List ℕ) (n r : ℕ) → 24 ≤ length k → set (put k 16 (to_le 8 r)) 15 n ≡ put k 15 (n ∷ to_le 8 r)
commit-put k n r h =
    let w = length_digits 256 8 r in
    sym (put_one (put k 16 (to_le 8 r)) 15 n (rw (length-put k 16 (to_le 8 r) (omega arith)) (omega arith)))
    ∙ sym (put-comm k 15 (n ∷ []) 16 (to_le 8 r) (lit≤ tt) (omega arith)) ∙ put-append k 15 (n ∷ []) (to_le 8 r) (omega arith)

-- stores made, where they are known
made_as : {a : ℕ} {xs ys : List Store} {m after : Media} {told : ℕ} → made a xs ≡ ys → after ≡ store_all m ys → told ≡ length ys
    → Stored a xs m after told
made_as {m = m} e f g = record { left = f ∙ ap (store_all m) (sym e); number = g ∙ ap length (sym e) }

-- ---- a pending batch of n cells

-- what holds once the cells and the root are stored, k having become k₁: count 0 is left, or the call has made what it may
pub record Rooted (k : List ℕ) (m : Media) (a n : ℕ) (b k₁ : List ℕ) : Type 0 where
  pub one-short : a ≡ n + 1 → Stored a (pending_stores k) m (media b k₁) a
  pub whole : (a ≡ n + 1 → ⊥) → 15 < length k₁ → Stored a (pending_stores k) m (media b (set k₁ 15 0)) (n + 2)

module _ (k : List ℕ) (m : Media) (a n : ℕ) (counted : n ≡ count k) where
  pub finish-none : n ≡ 0 → Stored a (pending_stores k) m m 0
  unfolding store_all
  finish-none e = made_as (ap (take a) (pending-none k (sym counted ∙ e)) ∙ take-nil a) refl refl

  -- t cells are stored
  module _ (some : n ≡ 0 → ⊥) (t : ℕ) (least : t ≡ min n a) (b : List ℕ) (cells : media b k ≡ store_all m (map cell (places k 24 t))) where
    all : pending_stores k ≡ finish (places k 24 n) (new_root k)
    unfolding queue
    all = pending-some k (omega arith) ∙ ap (λ (i : ℕ). finish (places k 24 i) (new_root k)) (sym counted)

    size : length (places k 24 n) ≡ n
    size = length-places k 24 n

    -- no more than cells
    pub finish-part : a ≤ n → Stored a (pending_stores k) m (media b k) t
    finish-part h =
        let every : a ≡ t = omega arith in
        made_as
        (ap (take a) all ∙ finish-cells a (places k 24 n) (new_root k) (rw size h)
        ∙ ap (map cell) (take_places k 24 n a h ∙ ap (places k 24) every))
        cells (sym (length-map (places k 24 t) cell ∙ length-places k 24 t))

    -- the root is stored too
    module _ (past : n < a) (r : ℕ) (new : r ≡ new_root k) (k₁ : List ℕ) (f : k₁ ≡ put k 7 (to_le 8 r)) where
      with_root : media b k₁ ≡ store_all m (map cell (places k 24 n) ++ (root (new_root k) ∷ []))
      unfolding store store_all
      with_root =
          let whole : t ≡ n = omega arith in
          ap (media b) (f ∙ ap (λ (x : ℕ). put k 7 (to_le 8 x)) new)
          ∙ ap (λ (x : Media). store x (root (new_root k))) (cells ∙ ap (λ (i : ℕ). store_all m (map cell (places k 24 i))) whole)
          ∙ sym (store-append m (map cell (places k 24 n)) (root (new_root k) ∷ []))

      short : a ≡ n + 1 → Stored a (pending_stores k) m (media b k₁) a
      short e =
          made_as
          (ap₂ (λ (i : ℕ) (xs : List Store). take i xs) (e ∙ ap (λ (i : ℕ). i + 1) (sym size)) all
          ∙ finish-root (places k 24 n) (new_root k))
          with_root
          (e ∙ sym (length-append (map cell (places k 24 n)) (root (new_root k) ∷ [])
          ∙ ap (λ (i : ℕ). i + 1) (length-map (places k 24 n) cell ∙ size)))

      cleared : (a ≡ n + 1 → ⊥) → 15 < length k₁ → Stored a (pending_stores k) m (media b (set k₁ 15 0)) (n + 2)
      unfolding store store_all finish
      cleared other p =
          let xs = map cell (places k 24 n) in
          let many = length-finish (places k 24 n) (new_root k) ∙ ap (λ (i : ℕ). i + 2) size in
          made_as
          (ap (take a) all ∙ take_all a (finish (places k 24 n) (new_root k)) (omega arith))
          (ap (media b) (sym (put_one k₁ 15 0 p))
          ∙ ap (λ (x : Media). store x clear) with_root
          ∙ sym (store-append m (xs ++ (root (new_root k) ∷ [])) (clear ∷ []))
          ∙ ap (store_all m) (append_assoc xs (root (new_root k) ∷ []) (clear ∷ [])))
          (sym many)

      pub finish-rooted : Rooted k m a n b k₁
      finish-rooted = record { one-short = short; whole = cleared }

-- ---- a batch of n cells

-- what running a batch whose cells are staged in k leaves and tells
pub record Ran (x k : List ℕ) (n r a : ℕ) (after : Media) (told : ℕ) : Type 0 where
  pub left : after ≡ store_all (media x k) (made (a - n) (committing (places k (place_at 0) n) r))
  pub number : told ≡ min n a + length (made (a - n) (committing (places k (place_at 0) n) r))

-- what holds once it is committed, k having become k₂: finishing may be called, and gives the rest
pub record Committed (x k : List ℕ) (n r a : ℕ) (k₂ : List ℕ) : Type 0 where
  pub counted : count k₂ ≡ n
  pub queued : queue k₂ ≡ places k (place_at 0) n
  pub few : (j : ℕ) (m after : Media) (told : ℕ) → Stored j (pending_stores k₂) m after told → told ≤ n + 2
  pub rest : (after : Media) (told : ℕ) → Stored (a - n - 1) (pending_stores k₂) (media x k₂) after told → Ran x k n r a after (n + 1 + told)

module _ (x k : List ℕ) (n r a : ℕ) where
  abbrev cells : List Cell
  cells = places k (place_at 0) n

  -- no more than stages
  pub run-part : a ≤ n → Ran x k n r a (media x k) a
  unfolding store_all
  run-part h =
      let none : a - n ≡ 0 = omega arith in
      record {
        left = ap (λ (i : ℕ). store_all (media x k) (made i (committing cells r))) (sym none);
        number = omega (arith, ap (λ (i : ℕ). length (made i (committing cells r))) none);
      }

  module _ (some : 1 ≤ n) (few : n ≤ 8) (size : length k ≡ control_length) (bytes : Below 256 k) (past : n < a) (word : r < 2 ^ 64)
      (k₂ : List ℕ) (g : k₂ ≡ put k 15 (n ∷ to_le 8 r)) where
    many : length cells ≡ n
    many = length-places k (place_at 0) n

    whole : Each Whole cells
    whole = whole-places k (place_at 0) n (omega arith) bytes

    as-laid : k₂ ≡ committed k cells r
    as-laid =
        g
        ∙ ap₂ {C = List ℕ} (λ (l : List ℕ) (i : ℕ). put l 15 (i ∷ to_le 8 r))
        (sym (ap (put k (place_at 0)) (laid-places k (place_at 0) n (omega arith) bytes) ∙ put-part k (place_at 0) (80 * n) (omega arith)))
        (sym many)

    pending : pending_stores k₂ ≡ finish cells r
    pending = ap pending_stores as-laid ∙ committed-pending k cells r size (rw many few) whole (rw many some) word

    ending : (j : ℕ) → length (made j (pending_stores k₂)) ≡ min j (n + 2)
    ending j =
        ap (λ (xs : List Store). length (made j xs)) pending ∙ length-take j (finish cells r)
        ∙ ap (min j) (length-finish cells r ∙ ap (λ (i : ℕ). i + 2) many)

    -- what the rest of the allowance leaves
    resume : (after : Media) (told : ℕ) → Stored (a - n - 1) (pending_stores k₂) (media x k₂) after told → Ran x k n r a after (n + 1 + told)
    unfolding store store_all
    resume after told s =
        let next : suc (a - n - 1) ≡ a - n = omega arith in
        record {
          left =
              s.left
              ∙ ap₂ {C = Media} (λ (l : List ℕ) (xs : List Store). store_all (media x l) (made (a - n - 1) xs))
              (g ∙ ap (λ (i : ℕ). put k 15 (i ∷ to_le 8 r)) (sym many)) pending
              ∙ ap (λ (i : ℕ). store_all (media x k) (made i (committing cells r))) next;
          number =
              omega (
                arith,
                s.number,
                ap (λ (xs : List Store). length (made (a - n - 1) xs)) pending,
                ap (λ (i : ℕ). length (made i (committing cells r))) next,
              );
        }

    pub run-commit : Committed x k n r a k₂
    run-commit = record {
      counted = ap count as-laid ∙ committed-count k cells r size (rw many few) whole ∙ many;
      queued = ap queue as-laid ∙ committed-queue k cells r size (rw many few) whole;
      few = λ j m after told s. omega (arith, s.number, ending j);
      rest = resume;
    }

-- ---- a batch that is staged and run makes its stores

-- staged cells are stores
staged-within : (a n : ℕ) (c : Cell) (k : List ℕ) → n < a → staged a n c k ≡ put k (place_at n) (placed c)
unfolding staged
staged-within a n c k h = rw (lt-ltb n a h)

staged_stores : (x : List ℕ) (a n : ℕ) (cs : List Cell) (k : List ℕ)
    → media x (staged_from a n cs k) ≡ store_all (media x k) (made (a - n) (stages n cs))
unfolding staged_from stages store store_all
staged_stores x a n [] k = ap (store_all (media x k)) (sym (take-nil (a - n)))
staged_stores x a n (c ∷ cs) k = go (staged_stores x a (suc n) cs (staged a n c k)) (lt-or-ge n a)
  where
    go : media x (staged_from a (suc n) cs (staged a n c k)) ≡ store_all (media x (staged a n c k)) (made (a - suc n) (stages (suc n) cs))
        → (n < a) ⊎ (a ≤ n) → media x (staged_from a n (c ∷ cs) k) ≡ store_all (media x k) (made (a - n) (stages n (c ∷ cs)))
    go e (inl h) =
        let next : suc (a - suc n) ≡ a - n = omega arith in
        e ∙ ap (λ (l : List ℕ). store_all (media x l) (made (a - suc n) (stages (suc n) cs))) (staged-within a n c k h)
        ∙ ap (λ (i : ℕ). store_all (media x k) (made i (stages n (c ∷ cs)))) next
    go e (inr h) =
        let none : a - suc n ≡ 0 = omega arith in
        let same : 0 ≡ a - n = omega arith in
        e ∙ ap (λ (i : ℕ). store_all (media x (staged a n c k)) (made i (stages (suc n) cs))) none
        ∙ ap (media x) (sym (staged-past k n a c h)) ∙ ap (λ (i : ℕ). store_all (media x k) (made i (stages n (c ∷ cs)))) same

module _ (x k : List ℕ) (cs : List Cell) (r a : ℕ) (size : length k ≡ control_length) (some : 1 ≤ length cs) (few : length cs ≤ 8)
    (ws : Each Whole cs) where
  abbrev now : List ℕ
  now = staged_from a 0 cs k

  pub staged-made : media x now ≡ store_all (media x k) (made a (stages 0 cs))
  staged-made =
      let all : a - 0 ≡ a = omega arith in
      staged_stores x a 0 cs k ∙ ap (λ (i : ℕ). store_all (media x k) (made i (stages 0 cs))) all

  staged-all : length cs < a → media x now ≡ store_all (media x k) (stages 0 cs)
  staged-all h = staged-made ∙ ap (store_all (media x k)) (take_all a (stages 0 cs) (rw length-stages (omega arith)))

  -- where all are staged, the places have them
  pub staged-places : length cs < a → places now (place_at 0) (length cs) ≡ cs
  staged-places h =
      ap (λ (m : Media). places m.control (place_at 0) (length cs)) (staged-all h ∙ stages-put (media x k) 0 ws (omega arith))
      ∙ laid-queue k cs size few ws

  pub run-stored : (after : Media) (told : ℕ) → Ran x now (length cs) r a after told → Stored a (batch_stores cs r) (media x k) after told
  unfolding store_all
  run-stored after told s = go (lt-or-ge (length cs) a)
    where
      total : length (batch_stores cs r) ≡ 2 * length cs + 3
      total = length-batch cs r some

      go : (length cs < a) ⊎ (a ≤ length cs) → Stored a (batch_stores cs r) (media x k) after told
      go (inl h) =
          let past : length cs + suc (a - length cs - 1) ≡ a = omega arith in
          let next : a - length cs ≡ suc (a - length cs - 1) = omega arith in
          record {
            left =
                s.left ∙ ap (λ (ds : List Cell). store_all (media x now) (made (a - length cs) (committing ds r))) (staged-places h)
                ∙ ap (λ (i : ℕ). store_all (media x now) (made i (committing cs r))) next
                ∙ ap (λ (m : Media). store_all m (made (suc (a - length cs - 1)) (committing cs r))) (staged-all h)
                ∙ sym (store-append (media x k) (stages 0 cs) (made (suc (a - length cs - 1)) (committing cs r)))
                ∙ sym (ap (store_all (media x k))
                (ap (λ (i : ℕ). made i (batch_stores cs r)) (sym past) ∙ batch-finish (a - length cs - 1) cs r some));
            number =
                omega (
                  arith,
                  s.number,
                  ap (λ (ds : List Cell). length (made (a - length cs) (committing ds r))) (staged-places h),
                  length-take (a - length cs) (committing cs r),
                  length-finish cs r,
                  length-take a (batch_stores cs r),
                  total,
                );
          }
      go (inr h) =
          let none : a - length cs ≡ 0 = omega arith in
          let few-made = ap (λ (i : ℕ). made i (committing (places now (place_at 0) (length cs)) r)) none in
          record {
            left =
                s.left ∙ ap (store_all (media x now)) few-made ∙ staged-made
                ∙ ap (store_all (media x k)) (take-stages a 0 cs ∙ sym (batch-stages a cs r some h));
            number = omega (arith, s.number, ap length few-made, length-take a (batch_stores cs r), total);
          }
