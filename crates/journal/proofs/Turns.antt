-- Batches of a turn: before the commit their stores are those of a batch without a section, and from it on they leave what those leave of a
-- record that has the section. Assumes nothing.
use mathlib.Core.Path.{◌≡◌, sym, ap, ap₂, ◌∙◌}
use mathlib.Core.Logic.{◌⊎◌, inl, inr}
use mathlib.Core.List.{List, ◌++◌}
use Prim.Native.Nat.{ℕ, suc, min, ◌+◌, ◌-◌, ◌*◌, ◌≤◌, ◌<◌}
use native.Mathlib.Omega.{arith}
use lib.ListN.{length, take, length-append, length-take}
use lib.Seq.{take_all, take-append-le, take-append-add}
use Rattle.words.specs.Bytes.{put}
use Rattle.words.proofs.Order.{lt-or-ge}
use Rattle.words.proofs.Parts.{length-put}
use Rattle.words.proofs.Puts.{part-put-before, put-comm}
use Rattle.control.specs.Control.{Cell, control_length, place_at, turn_at, places}
use Rattle.control.proofs.Laws.{same-places}
use Rattle.batch.specs.Batch.{staged_from}
use Rattle.journal.specs.Journal.{Store, Media, media, store, store_all, stages, committing, committing_turn, batch_stores}
use Rattle.journal.specs.Journal.{turn_stores, made, Stored}
use Rattle.journal.proofs.Each.{Each}
use Rattle.journal.proofs.Laws.{length-stages, length-finish, take-stages, batch-stages, batch-finish, store-append, store-none}
use Rattle.journal.proofs.Queue.{Whole, laid, length-laid, stages-put}
use Rattle.journal.proofs.Steps.{Ran, staged-made, staged-places}

-- ---- how many stores

pub length-turn-stores : (cs : List Cell) (r : ℕ) (s : List ℕ) → length (turn_stores cs r s) ≡ 2 * length cs + 3
unfolding turn_stores
length-turn-stores cs r s =
    length-append (stages 0 cs) (committing_turn cs r s) ∙ omega (arith, length-stages 0 cs, length-finish cs r)

-- ---- leading parts

pub turn-staged : (n : ℕ) (cs : List Cell) (r : ℕ) (s : List ℕ) → n ≤ length cs → made n (turn_stores cs r s) ≡ stages 0 (take n cs)
unfolding turn_stores
turn-staged n cs r s h =
    take-append-le n (stages 0 cs) (committing_turn cs r s) (rw length-stages h) ∙ take-stages n 0 cs

pub turn-committed : (n : ℕ) (cs : List Cell) (r : ℕ) (s : List ℕ)
    → made (length cs + n) (turn_stores cs r s) ≡ stages 0 cs ++ made n (committing_turn cs r s)
unfolding turn_stores
turn-committed n cs r s =
    ap (λ (m : ℕ). take (m + n) (stages 0 cs ++ committing_turn cs r s)) (sym (length-stages 0 cs))
    ∙ take-append-add (stages 0 cs) (committing_turn cs r s) n

-- ---- beside a batch without a section

module _ (k : List ℕ) (cs : List Cell) (r : ℕ) (s : List ℕ) (size : length k ≡ control_length) (some : 0 < length cs) (few : length cs ≤ 8)
    (ws : Each Whole cs) (wide : length s ≡ 17) where
  -- before the commit
  pub turn-dropped : (n : ℕ) → n ≤ length cs → made n (turn_stores cs r s) ≡ made n (batch_stores cs r)
  turn-dropped n h = turn-staged n cs r s h ∙ sym (batch-stages n cs r some h)

  -- from it on
  pub turn-kept : (a : List ℕ) (n : ℕ)
      → store_all (media a k) (made (length cs + suc n) (turn_stores cs r s))
      ≡ store_all (media a (put k turn_at s)) (made (length cs + suc n) (batch_stores cs r))
  unfolding store_all store
  turn-kept a n =
      let long = length-laid ws in
      ap (store_all (media a k)) (turn-committed (suc n) cs r s)
      ∙ store-append (media a k) (stages 0 cs) (made (suc n) (committing_turn cs r s))
      ∙ ap (λ (m : Media). store_all m (made (suc n) (committing_turn cs r s))) (stages-put (media a k) 0 ws (omega arith))
      ∙ ap (λ (l : List ℕ). store_all (media a l) (made (suc n) (committing cs r)))
      (put-comm k (place_at 0) (laid cs) turn_at s (omega (arith, long)) (omega arith))
      ∙ ap (λ (m : Media). store_all m (made (suc n) (committing cs r)))
      (sym (stages-put (media a (put k turn_at s)) 0 ws (omega (arith, length-put k turn_at s (omega arith)))))
      ∙ sym (store-append (media a (put k turn_at s)) (stages 0 cs) (made (suc n) (committing cs r)))
      ∙ sym (ap (store_all (media a (put k turn_at s))) (batch-finish n cs r some))

-- ---- running one

-- what running a batch of a turn leaves and tells, whose cells are staged in k
pub record RanTurn (x k : List ℕ) (n r : ℕ) (s : List ℕ) (a : ℕ) (after : Media) (told : ℕ) : Type 0 where
  pub left : after ≡ store_all (media x k) (made (a - n) (committing_turn (places k (place_at 0) n) r s))
  pub number : told ≡ min n a + length (made (a - n) (committing_turn (places k (place_at 0) n) r s))

-- no more is told than is allowed, whatever was run
pub ran-few : (n a : ℕ) (xs : List Store) {told : ℕ} → told ≡ min n a + length (made (a - n) xs) → told ≤ a
ran-few n a xs e = omega (arith, length-take (a - n) xs)

-- the queue's places are not in the section
pub turn-places : (k : List ℕ) (s : List ℕ) (n : ℕ) → length k ≡ control_length → n ≤ 8
    → places (put k turn_at s) (place_at 0) n ≡ places k (place_at 0) n
turn-places k s n size few =
    same-places (put k turn_at s) k (place_at 0) (place_at 0) n
    (part-put-before k turn_at s (omega (arith, size)) (place_at 0) (80 * n) (omega arith))

module _ (x k : List ℕ) (n r : ℕ) (s : List ℕ) (a : ℕ) (size : length k ≡ control_length) (few : n ≤ 8) (after : Media) (told : ℕ) where
  -- the section is set, and the batch is run
  pub ran-set : n < a → Ran x (put k turn_at s) n r a after told → RanTurn x k n r s a after told
  unfolding store_all store
  ran-set h ran =
      let next : a - n ≡ suc (a - n - 1) = omega arith in
      let same = turn-places k s n size few in
      record {
        left = ran.left
            ∙ ap₂ {C = Media} (λ (i : ℕ) (cs : List Cell). store_all (media x (put k turn_at s)) (made i (committing cs r))) next same
            ∙ ap (λ (i : ℕ). store_all (media x k) (made i (committing_turn (places k (place_at 0) n) r s))) (sym next);
        number = ran.number
            ∙ ap₂ (λ (i : ℕ) (cs : List Cell). min n a + length (made i (committing cs r))) next same
            ∙ ap (λ (i : ℕ). min n a + length (made i (committing_turn (places k (place_at 0) n) r s))) (sym next);
      }

  -- the allowance does not go that far
  pub ran-short : a ≤ n → Ran x k n r a after told → RanTurn x k n r s a after told
  ran-short h ran =
      let none : a - n ≡ 0 = omega arith in
      record {
        left = ran.left ∙ ap (λ (i : ℕ). store_all (media x k) (made i (committing (places k (place_at 0) n) r))) none
            ∙ ap (λ (i : ℕ). store_all (media x k) (made i (committing_turn (places k (place_at 0) n) r s))) (sym none);
        number = ran.number ∙ ap (λ (i : ℕ). min n a + length (made i (committing (places k (place_at 0) n) r))) none
            ∙ ap (λ (i : ℕ). min n a + length (made i (committing_turn (places k (place_at 0) n) r s))) (sym none);
      }

-- a batch of a turn that is staged and run makes its stores
module _ (x k : List ℕ) (cs : List Cell) (r : ℕ) (s : List ℕ) (a : ℕ) (size : length k ≡ control_length) (some : 1 ≤ length cs)
    (few : length cs ≤ 8) (ws : Each Whole cs) where
  abbrev now : List ℕ
  now = staged_from a 0 cs k

  pub turn-stored : (after : Media) (told : ℕ) → RanTurn x now (length cs) r s a after told
      → Stored a (turn_stores cs r s) (media x k) after told
  turn-stored after told ran = go (lt-or-ge (length cs) a)
    where
      total : length (turn_stores cs r s) ≡ 2 * length cs + 3
      total = length-turn-stores cs r s

      go : (length cs < a) ⊎ (a ≤ length cs) → Stored a (turn_stores cs r s) (media x k) after told
      go (inl h) =
          let all : length cs + (a - length cs) ≡ a = omega arith in
          let there = staged-places x k cs r a size some few ws h in
          record {
            left = ran.left ∙ ap (λ (ds : List Cell). store_all (media x now) (made (a - length cs) (committing_turn ds r s))) there
                ∙ ap (λ (m : Media). store_all m (made (a - length cs) (committing_turn cs r s)))
                (staged-made x k cs r a size some few ws
                ∙ ap (store_all (media x k)) (take_all a (stages 0 cs) (rw length-stages (omega arith))))
                ∙ sym (store-append (media x k) (stages 0 cs) (made (a - length cs) (committing_turn cs r s)))
                ∙ ap (store_all (media x k)) (sym (turn-committed (a - length cs) cs r s) ∙ ap (λ (i : ℕ). made i (turn_stores cs r s)) all);
            number = omega (
              arith,
              ran.number,
              ap (λ (ds : List Cell). length (made (a - length cs) (committing_turn ds r s))) there,
              length-take (a - length cs) (committing_turn cs r s),
              length-finish cs r,
              length-take a (turn_stores cs r s),
              total,
            );
          }
      go (inr h) =
          let none : a - length cs ≡ 0 = omega arith in
          let few-made = ap (λ (i : ℕ). made i (committing_turn (places now (place_at 0) (length cs)) r s)) none in
          record {
            left = ran.left ∙ ap (store_all (media x now)) few-made ∙ store-none (media x now)
                ∙ staged-made x k cs r a size some few ws
                ∙ ap (store_all (media x k)) (take-stages a 0 cs ∙ sym (turn-staged a cs r s h));
            number = omega (arith, ran.number, ap length few-made, length-take a (turn_stores cs r s), total);
          }
