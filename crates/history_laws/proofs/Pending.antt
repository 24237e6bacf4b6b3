-- Pending stores, cut anywhere: the control record stays valid, and what is pending then settles the media as before. Assumes nothing.
use mathlib.Core.Path.{◌≡◌, refl, sym, ap, ap₂, ◌∙◌, subst}
use mathlib.Core.Logic.{◌⊎◌, inl, inr}
use mathlib.Core.Bool.{true}
use mathlib.Core.List.{List, [], ◌∷◌}
use Prim.Native.Nat.{ℕ, ◌+◌, ◌/◌, ◌≤◌, ◌<◌}
use native.Mathlib.Omega.{arith}
use lib.Dec.{lit<}
use lib.ListN.{length, take, drop}
use lib.Seq.{take_all, take-nil, drop-drop}
use Rattle.words.specs.Bytes.{to_le, part}
use Rattle.words.proofs.Digits.{length_digits}
use Rattle.words.proofs.Order.{lt-or-ge, lt-eq-gt}
use Rattle.words.proofs.Parts.{length-put}
use Rattle.words.proofs.Puts.{get_d-put-in, drop-put}
use Rattle.memory_map.specs.Map.{cells, array_length}
use Rattle.control.specs.Control.{Cell, control_length, turn_at, depth, count, new_root, queue, in_map, valid_head, valid_turn, valid}
use Rattle.control.proofs.Laws.{count_at_lem, same-depth, same_head, same_count, same_queue, same_turn, Valid, valid-parts, parts-valid}
use Rattle.journal.specs.Journal.{Store, Media, store_all, finish, pending_stores, made}
use Rattle.journal.proofs.Each.{Each, each_take}
use Rattle.journal.proofs.Laws.{length-finish, pending-some, pending-none, finish-cells, store-none}
use Rattle.journal.proofs.Kept.{Within, within-pending, made_kept, stores-front}
use Rattle.journal.proofs.Again.{cells-stores, rooted, cleared, finish-stores, root-stores, again}
use Rattle.calls.specs.Call.{Module, media_of, with_media}
use Rattle.history_laws.specs.History.{Book}
use Rattle.call_laws.proofs.Kept.{array-cells}
use Rattle.history_laws.proofs.Setting.{Setting, Opening}
use Rattle.history_laws.proofs.State.{Settled, Holds, idle-valid}

-- ---- the control record

pub queue-valid : (k : List ℕ) (cs : List Cell) → valid_head k ≡ true → queue k ≡ cs → in_map (cells (depth k)) cs ≡ true → valid_turn k ≡ true
    → valid k ≡ true
queue-valid k cs e q i v = parts-valid k e (ap (in_map (cells (depth k))) q ∙ i) v

pub cleared-count : (k : List ℕ) → length k ≡ control_length → count (cleared k) ≡ 0
cleared-count k size = count_at_lem (cleared k) ∙ get_d-put-in k 15 (0 ∷ []) (omega (arith, size)) 0 (lit< tt)

pub length-rooted : (k : List ℕ) (r : ℕ) → length k ≡ control_length → length (rooted k r) ≡ control_length
length-rooted k r size = length-put k 7 (to_le 8 r) (omega (arith, length_digits 256 8 r, size)) ∙ size

-- root and count are not in the section
pub section-rooted : (k : List ℕ) (r : ℕ) → length k ≡ control_length → drop turn_at (cleared (rooted k r)) ≡ drop turn_at k
section-rooted k r size =
    drop-put (rooted k r) 15 (0 ∷ []) (omega (arith, length-rooted k r size)) turn_at (omega arith)
    ∙ drop-put k 7 (to_le 8 r) (omega (arith, size)) turn_at (omega (arith, length_digits 256 8 r))

-- ---- the stores

module _ {S : Setting} {b : Book} {o : Opening} {m : Module} (held : Holds S b o m) where
  open S use {h}

  abbrev k : List ℕ
  k = m.control

  was : Valid k
  was = valid-parts held.right

  few : count k ≤ 8
  few = was.head.few

  in_place : in_map (cells h) (queue k) ≡ true
  in_place = subst (λ (d : ℕ). in_map (cells d) (queue k) ≡ true) held.deep was.cells_in

  in_array : in_map (array_length h / 72) (queue k) ≡ true
  in_array = ap (λ (n : ℕ). in_map n (queue k)) (array-cells h (array_length h) refl) ∙ in_place

  within : Each (Within (array_length h / 72)) (pending_stores k)
  within = within-pending (array_length h / 72) k held.formed.control_length held.formed.control-bytes few in_array

  module _ (j : ℕ) where
    abbrev after : Media
    after = store_all (media_of m) (made j (pending_stores k))

    front : part after.control 0 7 ≡ part k 0 7
    front = stores-front held.formed (each_take j within)

    deep : depth after.control ≡ h
    deep = same-depth after.control k front ∙ held.deep

    head-right : count after.control ≤ 8 → valid_head after.control ≡ true
    head-right q = same_head k after.control (sym front) q was.start

    turn-right : drop turn_at after.control ≡ drop turn_at k → valid_turn after.control ≡ true
    turn-right e = same_turn after.control k e (same-depth after.control k front) ∙ was.turn

    with-queue : drop 15 after.control ≡ drop 15 k → valid after.control ≡ true
    with-queue e =
        queue-valid after.control (queue k) (head-right (omega (arith, same_count after.control k e, few)))
        (same_queue after.control k e) (ap (λ (d : ℕ). in_map (cells d) (queue k)) deep ∙ in_place)
        (turn-right (sym (drop-drop 649 15 after.control) ∙ ap (drop 649) e ∙ drop-drop 649 15 k))

    cleared-valid : (r : ℕ) → after.control ≡ cleared (rooted k r) → valid after.control ≡ true
    cleared-valid r e =
        let size = held.formed.control_length in
        let none : count after.control ≡ 0 = ap count e ∙ cleared-count (rooted k r) (length-rooted k r size) in
        idle-valid after.control (head-right (omega (arith, none))) none (turn-right (ap (drop turn_at) e ∙ section-rooted k r size))

    valid-after : valid after.control ≡ true
    valid-after = go (lt-or-ge 0 (count k))
      where
        r : ℕ
        r = new_root k

        some : pending_stores k ≡ finish (queue k) r
            → (j < length (queue k) + 1) ⊎ ((j ≡ length (queue k) + 1) ⊎ (length (queue k) + 1 < j)) → valid after.control ≡ true
        some e (inl p) =
            with-queue (ap (λ (d : Media). drop 15 d.control) (ap (λ (xs : List Store). store_all (media_of m) (take j xs)) e
            ∙ ap (store_all (media_of m)) (finish-cells j (queue k) r (omega arith)) ∙ cells-stores (media_of m) (take j (queue k))))
        some e (inr (inl p)) =
            with-queue (ap (λ (d : Media). drop 15 d.control)
            (ap₂ {C = Media} (λ (i : ℕ) (xs : List Store). store_all (media_of m) (take i xs)) p e ∙ root-stores (media_of m) (queue k) r)
            ∙ drop-put k 7 (to_le 8 r) (omega (arith, held.formed.control_length)) 15 (omega (arith, length_digits 256 8 r)))
        some e (inr (inr p)) =
            cleared-valid r (ap (λ (d : Media). d.control)
            (ap (λ (xs : List Store). store_all (media_of m) (take j xs)) e
            ∙ ap (store_all (media_of m)) (take_all j (finish (queue k) r) (omega (arith, length-finish (queue k) r)))
            ∙ finish-stores (media_of m) (queue k) r))

        go : (0 < count k) ⊎ (count k ≤ 0) → valid after.control ≡ true
        go (inl p) = some (pending-some k p) (lt-eq-gt j (length (queue k) + 1))
        go (inr p) =
            with-queue (ap (λ (d : Media). drop 15 d.control)
            (ap (λ (xs : List Store). store_all (media_of m) (take j xs)) (pending-none k (omega arith))
            ∙ ap (store_all (media_of m)) (take-nil j) ∙ store-none (media_of m)))

    pub holds-cut : Holds S b o (with_media after m.cache)
    holds-cut =
        record {
          sized = held.sized;
          plain = held.plain;
          formed = made_kept j held.formed within;
          right = valid-after;
          deep = deep;
          settled = subst (Settled S b o) (sym (again (array_length h) (media_of m) held.formed few in_array j)) held.settled;
        }
