-- What the stores of a call leave, cut or not: the state of the book before it, or of the one after it. Assumes nothing.
use mathlib.Core.Path.{◌≡◌, refl, sym, ap, ◌∙◌, subst}
use mathlib.Core.Logic.{◌⊎◌, inl, inr}
use mathlib.Core.Bool.{Bool, true, false, cond}
use mathlib.Core.List.{List, [], ◌∷◌, ◌++◌}
use Prim.Native.Nat.{ℕ, suc, ◌+◌, ◌-◌, ◌≤◌, ◌<◌}
use native.Mathlib.Omega.{arith}
use borrow.Author.Tests.{ltb-true, ltb-false}
use lib.ListN.{length}
use lib.Seq.{take-append-le, take-append-add}
use Rattle.words.proofs.Order.{lt-or-ge}
use Rattle.answer.specs.declared.Answer.{Answer}
use Rattle.answer.specs.declared.Answer.TheVariants.{Cut}
use Rattle.control.specs.Control.{Cell}
use Rattle.journal.specs.Journal.{Store, Media, store_all, made, is_cut}
use Rattle.journal.proofs.Laws.{made_all, cut-made, store-append}
use Rattle.journal.proofs.Again.{put-cells}
use Rattle.calls.specs.Call.{Module, Called, media_of, with_media, storing}
use Rattle.history_laws.specs.History.{Book}
use Rattle.history_laws.proofs.Setting.{Setting, tree_of, Opening}
use Rattle.history_laws.proofs.Live.{Live}
use Rattle.history_laws.proofs.State.{Holds, Ready, settled-holds}
use Rattle.history_laws.proofs.Batch.{Batch, array_whole, settled-whole, settled-cut, holds_after}

pub no-elements : {A : Type 0} (xs : List A) → length xs ≤ 0 → xs ≡ []
no-elements [] p = refl
no-elements (x ∷ xs) p = absurd (omega arith)

-- the module with the stores that an allowance lets be made
abbrev pub made_stores : ℕ → Module → List Store → Module
made_stores allowance m xs = with_media (store_all (media_of m) (made allowance xs)) m.cache

-- a call that is cut among its stores, and one that makes them all
abbrev pub cut_among : ℕ → Module → List Store → Called
cut_among allowance m xs = record { answer = Cut (length (made allowance xs)); after = made_stores allowance m xs }

abbrev pub all_stored : ℕ → Module → List Store → Answer → List ℕ → Called
all_stored allowance m xs answer c = record { answer = answer; after = with_media (store_all (media_of m) (made allowance xs)) c }

-- the two ways in which stores end
pub cases : (P : Called → Type 0) (allowance : ℕ) (m : Module) (xs : List Store) (answer : Answer) (c : List ℕ)
    → (allowance < length xs → P (cut_among allowance m xs)) → (length xs ≤ allowance → P (all_stored allowance m xs answer c))
    → P (storing allowance m xs answer c)
unfolding storing
cases P allowance m xs answer c cut all = go (is_cut allowance xs) refl
  where
    go : (x : Bool) → is_cut allowance xs ≡ x → P (cond x (cut_among allowance m xs) (all_stored allowance m xs answer c))
    go true e = cut (ltb-true allowance (length xs) e)
    go false e = all (ltb-false allowance (length xs) e)

-- a call done, or cut after some stores, more than size of which commit it
module _ (S : Setting) where
  pub data Outcome (b t : Book) (size : ℕ) (answer : Answer) (out : Called) : Type 0 where
    done : {o : Opening} → out.answer ≡ answer → Ready S t o out.after → Outcome b t size answer out
    dropped : {o : Opening} (n : ℕ) → n ≤ size → out.answer ≡ Cut n → Holds S b o out.after → Outcome b t size answer out
    kept : {o : Opening} (n : ℕ) → size < n → out.answer ≡ Cut n → Holds S t o out.after → Outcome b t size answer out

-- stores that lead from the book b to t by a commit, which size of them come before; after them all the cache is c
pub record Course (S : Setting) (b t : Book) (m : Module) (xs : List Store) (size : ℕ) (c : List ℕ) : Type 0 where
  pub before : (i : ℕ) → i ≤ size → (o : Opening) × Holds S b o (made_stores i m xs)
  pub after : (i : ℕ) → size < i → (o : Opening) × Holds S t o (made_stores i m xs)
  pub whole : (o : Opening) × Ready S t o (with_media (store_all (media_of m) xs) c)

module _ {S : Setting} {b t : Book} {m : Module} {xs : List Store} {size : ℕ} {c : List ℕ} (w : Course S b t m xs size c)
    (answer : Answer) (allowance : ℕ) where
  abbrev Ended : Called → Type 0
  Ended = Outcome S b t size answer

  cut : allowance < length xs → Ended (cut_among allowance m xs)
  cut p = go (lt-or-ge size allowance)
    where
      number : Cut (length (made allowance xs)) ≡ Cut allowance
      number = ap Cut (cut-made allowance xs p)

      go : (size < allowance) ⊎ (allowance ≤ size) → Ended (cut_among allowance m xs)
      go (inl q) = kept allowance q number (w.after allowance q).1
      go (inr q) = dropped allowance q number (w.before allowance q).1

  all : length xs ≤ allowance → Ended (all_stored allowance m xs answer c)
  all p =
      subst (λ (l : List Store). Ended (record { answer = answer; after = with_media (store_all (media_of m) l) c }))
      (sym (made_all allowance xs p)) (done refl w.whole.1)

  pub outcome : Ended (storing allowance m xs answer c)
  outcome = cases Ended allowance m xs answer c cut all

-- ---- batches

module _ {S : Setting} {b : Book} {o : Opening} {t : Book} {u : Opening} {m : Module} {x : List Cell} {r : ℕ} {xs : List Store}
    (w : Batch S b o t u m x r xs) where
  dropped-at : (i : ℕ) → i ≤ length x → Holds S b o (made_stores i m xs)
  dropped-at i q = settled-holds m.cache w.held.sized w.held.plain (settled-cut w i q)

  kept_at : (i : ℕ) → length x < i → Holds S t u (made_stores i m xs)
  kept_at i q =
      let place : length x + suc (i - length x - 1) ≡ i = omega arith in
      subst (λ (n : ℕ). Holds S t u (made_stores n m xs)) place (holds_after w (i - length x - 1))

  -- a batch alone
  pub one_batch : {c : List ℕ} → Live S (tree_of t) u (put-cells m.array x) c → Course S b t m xs (length x) c
  one_batch {c} live =
      record {
        before = λ i q. (o, dropped-at i q);
        after = λ i q. (u, kept_at i q);
        whole = (
          u,
          record {
            holds = settled-holds c live.fit.sized live.fit.bytes (settled-whole w);
            idle = (settled-whole w).idle;
            live = subst (λ (l : List ℕ). Live S (tree_of t) u l c) (sym (array_whole w)) live;
          },
        );
      }

-- the module after a batch, under the same cache
abbrev pub after_batch : Module → List Store → Module
after_batch m xs = with_media (store_all (media_of m) xs) m.cache

-- a batch that leaves the book as it is, and more stores after it
module _ {S : Setting} {b : Book} {o u : Opening} {m : Module} {x : List Cell} {r : ℕ} {xs : List Store} (w : Batch S b o b u m x r xs)
    {t : Book} {ys : List Store} {size : ℕ} {c : List ℕ} (later : Course S b t (after_batch m xs) ys size c) where
  past : (i : ℕ) → length xs ≤ i → made_stores (i - length xs) (after_batch m xs) ys ≡ made_stores i m (xs ++ ys)
  past i q =
      let place : length xs + (i - length xs) ≡ i = omega arith in
      ap {B = Module} (λ (d : Media). with_media d m.cache)
      (sym (store-append (media_of m) xs (made (i - length xs) ys)) ∙ ap (store_all (media_of m)) (sym (take-append-add xs ys (i - length xs)))
      ∙ ap (λ (n : ℕ). store_all (media_of m) (made n (xs ++ ys))) place)

  early : (i : ℕ) → i ≤ length xs + size → (i < length xs) ⊎ (length xs ≤ i) → (v : Opening) × Holds S b v (made_stores i m (xs ++ ys))
  early i q (inr l) =
      let r = later.before (i - length xs) (omega arith) in (r.0, subst (Holds S b r.0) (past i l) r.1)
  early i q (inl l) = first (lt-or-ge (length x) i)
    where
      same : made_stores i m xs ≡ made_stores i m (xs ++ ys)
      same = ap (λ (l : List Store). with_media (store_all (media_of m) l) m.cache) (sym (take-append-le i xs ys (omega arith)))

      first : (length x < i) ⊎ (i ≤ length x) → (v : Opening) × Holds S b v (made_stores i m (xs ++ ys))
      first (inl p) = (u, subst (Holds S b u) same (kept_at w i p))
      first (inr p) = (o, subst (Holds S b o) same (dropped-at w i p))

  pub then-more : Course S b t m (xs ++ ys) (length xs + size) c
  then-more =
      record {
        before = λ i q. early i q (lt-or-ge i (length xs));
        after = λ i q. let r = later.after (i - length xs) (omega arith) in (r.0, subst (Holds S t r.0) (past i (omega arith)) r.1);
        whole = (
          later.whole.0,
          subst (λ (d : Media). Ready S t later.whole.0 (with_media d c)) (sym (store-append (media_of m) xs ys)) later.whole.1,
        );
      }
