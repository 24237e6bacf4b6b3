-- Laws of the slots: slots and levels fit each other, and what belongs where. Assumes nothing.
use mathlib.Core.Path.{◌≡◌, refl, sym, ap, ap₂, ◌∙◌, subst}
use mathlib.Core.Logic.{◌⊎◌, inl, inr}
use mathlib.Core.Bool.{Bool, true, false, ◌&&◌}
use Prim.Native.Nat.{ℕ, zero, suc, ◌+◌, ◌-◌, ◌*◌, ◌/◌, ◌%◌, ◌^◌, ◌<◌, ◌≤◌, zero-le}
use native.Mathlib.Nat.{mod-lt}
use native.Mathlib.Omega.{arith}
use lib.Dec.{ltb, eqb, lit<}
use lib.Bits.{bit_and, and_le_r}
use borrow.Author.Tests.{lt-ltb, le-ltb, eq-eqb, ltb-true, eqb-true}
use Rattle.words.proofs.Order.{lt-or-ge}
use Rattle.memory_map.specs.Map.{nodes, slots}
use Rattle.slot_map.specs.Slots.{slot_of, level_of, belongs}

pub slot-within : (h l i : ℕ) → l ≤ h → slot_of l i < slots h
unfolding slot_of slots
slot-within h zero i p = omega arith
slot-within h (suc l) i p = omega arith

pub level-low : (s : ℕ) → s < 4 → level_of s ≡ 0
unfolding level_of
level-low s p = rw (lt-ltb s 4 p)

pub level-high : (s : ℕ) → 4 ≤ s → level_of s ≡ suc ((s - 4) / 2)
unfolding level_of
level-high s p = rw (le-ltb s 4 p)

pub level-slot : (l i : ℕ) → level_of (slot_of l i) ≡ l
unfolding slot_of
level-slot zero i = level-low (i % 4) (mod-lt i (lit< tt))
level-slot (suc l) i = level-high (4 + 2 * l + i % 2) (omega arith) ∙ ap suc (omega arith)

pub level-within : (h s : ℕ) → s < slots h → level_of s ≤ h
unfolding slots
level-within h s p = go (lt-or-ge s 4)
  where
    go : (s < 4) ⊎ (4 ≤ s) → level_of s ≤ h
    go (inl a) = rw (level-low s a) zero-le
    go (inr a) = rw (level-high s a) (omega arith)

-- what `belongs` asks of an owner that is not 0
pub belongs-owner : (h s o : ℕ) → 0 < o → belongs h s o ≡ ltb (o - 1) (nodes h (level_of s)) && eqb (slot_of (level_of s) (o - 1)) s
unfolding belongs
belongs-owner h s zero p = absurd (omega arith)
belongs-owner h s (suc i) p = ap (λ (k : ℕ). ltb k (nodes h (level_of s)) && eqb (slot_of (level_of s) k) s) (omega arith)

-- an owner that belongs to a slot is a node of the map that takes this slot, and each such node belongs there
pub belongs-node : (h s i : ℕ) → belongs h s (suc i) ≡ true → (i < nodes h (level_of s)) × (slot_of (level_of s) i ≡ s)
unfolding belongs
belongs-node h s i e = go (ltb i (nodes h (level_of s))) (eqb (slot_of (level_of s) i) s) refl refl e
  where
    go : (a b : Bool) → ltb i (nodes h (level_of s)) ≡ a → eqb (slot_of (level_of s) i) s ≡ b → (a && b) ≡ true
        → (i < nodes h (level_of s)) × (slot_of (level_of s) i ≡ s)
    go true true p q r = (ltb-true i (nodes h (level_of s)) p, eqb-true (slot_of (level_of s) i) s q)
    go true false p q r = absurd (let z : ◌≡◌ {A = Bool} false true = r in let w : ◌≡◌ {A = ℕ} 0 1 = cc in omega arith)
    go false b p q r = absurd (let z : ◌≡◌ {A = Bool} false true = r in let w : ◌≡◌ {A = ℕ} 0 1 = cc in omega arith)

pub node-belongs : (h l i : ℕ) → i < nodes h l → belongs h (slot_of l i) (suc i) ≡ true
unfolding belongs
node-belongs h l i p =
    ap (λ (k : ℕ). ltb i (nodes h k) && eqb (slot_of k i) (slot_of l i)) (level-slot l i)
    ∙ ap₂ (λ (a b : Bool). a && b) (lt-ltb i (nodes h l) p) (eq-eqb (slot_of l i) (slot_of l i) refl)

-- the slot as the code computes it
pub slot-fits : (l i m : ℕ) → l ≤ 3 → m ≤ 7 → 4 + 2 * (l - 1) + bit_and i m < 2 ^ 64
slot-fits l i m p q = omega (arith, and_le_r i m)

pub slot-zero : (l i : ℕ) → l ≡ 0 → i % 4 ≡ slot_of l i
unfolding slot_of
slot-zero zero i e = refl
slot-zero (suc l) i e = absurd (omega arith)

pub slot-node : (l i : ℕ) → (l ≡ 0 → ⊥) → 4 + 2 * (l - 1) + i % 2 ≡ slot_of l i
unfolding slot_of
slot-node zero i e = absurd (e refl)
slot-node (suc l) i e = omega arith

-- the three ways `belongs` ends
pub belongs-empty : (h s o : ℕ) → o ≡ 0 → false ≡ belongs h s o
unfolding belongs
belongs-empty h s zero e = refl
belongs-empty h s (suc i) e = absurd (omega arith)

pub belongs-out : (h s o n : ℕ) → (o ≡ 0 → ⊥) → n ≡ nodes h (level_of s) → n ≤ o - 1 → false ≡ belongs h s o
belongs-out h s o n p e q =
    sym (belongs-owner h s o (omega arith) ∙ ap (λ (b : Bool). b && eqb (slot_of (level_of s) (o - 1)) s)
    (le-ltb (o - 1) (nodes h (level_of s)) (subst (λ (k : ℕ). k ≤ o - 1) e q)))

pub belongs-in : (h s o n : ℕ) → (o ≡ 0 → ⊥) → n ≡ nodes h (level_of s) → o - 1 < n → eqb (slot_of (level_of s) (o - 1)) s ≡ belongs h s o
belongs-in h s o n p e q =
    sym (belongs-owner h s o (omega arith) ∙ ap (λ (b : Bool). b && eqb (slot_of (level_of s) (o - 1)) s)
    (lt-ltb (o - 1) (nodes h (level_of s)) (subst (λ (k : ℕ). o - 1 < k) e q)))
