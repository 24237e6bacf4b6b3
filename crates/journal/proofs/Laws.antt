-- Laws of stores: how many a batch makes, what a leading part of them is, and what a list of them leaves. Assumes nothing.
use mathlib.Core.Path.{◌≡◌, refl, sym, ap, ◌∙◌}
use mathlib.Core.Bool.{true, false}
use mathlib.Core.List.{List, [], ◌∷◌, ◌++◌, map}
use Prim.Native.Nat.{ℕ, zero, suc, ◌+◌, ◌*◌, ◌≤◌, ◌<◌}
use native.Mathlib.Nat.{not-suc-le-zero}
use native.Mathlib.Omega.{arith}
use borrow.Author.Tests.{lt-ltb, le-ltb}
use lib.ListN.{length, take, length-append, length-map, length-take}
use lib.Seq.{take_all, take-append-le, take-append-add}
use Rattle.control.specs.Control.{Cell, queue, count, new_root}
use Rattle.journal.specs.Journal.{Store, Media, store, store_all, stages, finish, batch_stores, pending_stores, made, is_cut}
use Rattle.journal.specs.Journal.Store.{stage, commit, cell, root, clear}

-- ---- how many stores

pub length-stages : (j : ℕ) (cs : List Cell) → length (stages j cs) ≡ length cs
unfolding stages
length-stages j [] = refl
length-stages j (c ∷ cs) = ap suc (length-stages (suc j) cs)

pub length-finish : (cs : List Cell) (r : ℕ) → length (finish cs r) ≡ length cs + 2
unfolding finish
length-finish cs r = length-append (map cell cs) _ ∙ ap (λ (n : ℕ). n + 2) (length-map cs cell)

-- the stores of a batch that is not empty
pub batch-stores : (cs : List Cell) (r : ℕ) → 0 < length cs → batch_stores cs r ≡ stages 0 cs ++ (commit (length cs) r ∷ finish cs r)
unfolding batch_stores
batch-stores [] r h = absurd (not-suc-le-zero h)
batch-stores (c ∷ cs) r h = refl

pub batch-empty : (r : ℕ) → batch_stores [] r ≡ []
unfolding batch_stores
batch-empty r = refl

pub length-batch : (cs : List Cell) (r : ℕ) → 0 < length cs → length (batch_stores cs r) ≡ 2 * length cs + 3
length-batch cs r h =
    ap length (batch-stores cs r h) ∙ length-append (stages 0 cs) (commit (length cs) r ∷ finish cs r)
    ∙ omega (arith, length-stages 0 cs, length-finish cs r)

pub pending-some : (k : List ℕ) → 0 < count k → pending_stores k ≡ finish (queue k) (new_root k)
unfolding pending_stores
pending-some k h = rw (lt-ltb 0 (count k) h)

pub pending-none : (k : List ℕ) → count k ≡ 0 → pending_stores k ≡ []
unfolding pending_stores
pending-none k e = rw e

-- ---- the allowance; a power failure after k of the stores xs leaves `store_all m (made k xs)`

pub made_all : (a : ℕ) (xs : List Store) → length xs ≤ a → made a xs ≡ xs
made_all a xs h = take_all a xs h

pub less-cut : (a : ℕ) (xs : List Store) → a < length xs → is_cut a xs ≡ true
less-cut a xs h = lt-ltb a _ (omega (arith, h))

pub enough-whole : (a : ℕ) (xs : List Store) → length xs ≤ a → is_cut a xs ≡ false
enough-whole a xs h = le-ltb a _ (omega (arith, h))

pub cut-made : (a : ℕ) (xs : List Store) → a < length xs → length (made a xs) ≡ a
cut-made a xs h = omega (arith, length-take a xs)

-- ---- leading parts

take-map : (n : ℕ) (cs : List Cell) → take n (map cell cs) ≡ map cell (take n cs)
take-map zero cs = refl
take-map (suc n) [] = refl
take-map (suc n) (c ∷ cs) = ap (λ (l : List Store). cell c ∷ l) (take-map n cs)

pub take-stages : (n j : ℕ) (cs : List Cell) → take n (stages j cs) ≡ stages j (take n cs)
unfolding stages
take-stages zero j cs = refl
take-stages (suc n) j [] = refl
take-stages (suc n) j (c ∷ cs) = ap (λ (l : List Store). stage j c ∷ l) (take-stages n (suc j) cs)

pub finish-cells : (n : ℕ) (cs : List Cell) (r : ℕ) → n ≤ length cs → take n (finish cs r) ≡ map cell (take n cs)
unfolding finish
finish-cells n cs r h =
    take-append-le n (map cell cs) _ (rw length-map h) ∙ take-map n cs

pub finish-root : (cs : List Cell) (r : ℕ) → take (length cs + 1) (finish cs r) ≡ map cell cs ++ (root r ∷ [])
unfolding finish
finish-root cs r =
    ap (λ (n : ℕ). take (n + 1) (finish cs r)) (sym (length-map cs cell))
    ∙ take-append-add (map cell cs) (root r ∷ clear ∷ []) 1

pub batch-stages : (n : ℕ) (cs : List Cell) (r : ℕ) → 0 < length cs → n ≤ length cs → take n (batch_stores cs r) ≡ stages 0 (take n cs)
batch-stages n cs r p h =
    ap (take n) (batch-stores cs r p)
    ∙ take-append-le n (stages 0 cs) (commit (length cs) r ∷ finish cs r) (rw length-stages h) ∙ take-stages n 0 cs

-- past the stages and the commit
pub batch-finish : (n : ℕ) (cs : List Cell) (r : ℕ) → 0 < length cs
    → take (length cs + suc n) (batch_stores cs r) ≡ stages 0 cs ++ (commit (length cs) r ∷ take n (finish cs r))
batch-finish n cs r p =
    ap (take (length cs + suc n)) (batch-stores cs r p)
    ∙ ap (λ (m : ℕ). take (m + suc n) (stages 0 cs ++ (commit (length cs) r ∷ finish cs r))) (sym (length-stages 0 cs))
    ∙ take-append-add (stages 0 cs) (commit (length cs) r ∷ finish cs r) (suc n)

-- ---- what stores leave

pub store-append : (m : Media) (xs ys : List Store) → store_all m (xs ++ ys) ≡ store_all (store_all m xs) ys
unfolding store_all
store-append m [] ys = refl
store-append m (x ∷ xs) ys = store-append (store m x) xs ys

pub store-none : (m : Media) → store_all m [] ≡ m
unfolding store_all
store-none m = refl
