-- Numbers that climb: each is more than the one before it. Assumes nothing.
use mathlib.Core.List.{List, [], ◌∷◌, Memᴰ}
use Prim.Native.Nat.{ℕ, zero, suc, ◌+◌, ◌≤◌, ◌<◌}
use native.Mathlib.Nat.{le_trans}
use native.Mathlib.Omega.{arith}
use lib.ListN.{length, drop, get_or}

-- js climb from lo or above, and stay below hi
pub data Climbs (hi : ℕ) : ℕ → List ℕ → Type 0 where
  end : {lo : ℕ} → Climbs hi lo []
  up : {lo j : ℕ} {js : List ℕ} → lo ≤ j → j < hi → Climbs hi (suc j) js → Climbs hi lo (j ∷ js)

pub climbs-lower : {hi lo : ℕ} {js : List ℕ} (a : ℕ) → a ≤ lo → Climbs hi lo js → Climbs hi a js
climbs-lower a p end = end
climbs-lower a p (up q l rest) = up (le_trans p q) l rest

pub climbs-tail : {hi lo j : ℕ} {js : List ℕ} → Climbs hi lo (j ∷ js) → Climbs hi (suc j) js
climbs-tail (up q l rest) = rest

pub climbs-drop : {hi lo : ℕ} {js : List ℕ} (n : ℕ) → Climbs hi lo js → Climbs hi lo (drop n js)
climbs-drop zero c = c
climbs-drop (suc n) end = end
climbs-drop {lo = lo} (suc n) (up q l rest) = climbs-lower lo (omega arith) (climbs-drop n rest)

pub climbs-length : {hi lo : ℕ} {js : List ℕ} → Climbs hi lo js → lo ≤ hi → lo + length js ≤ hi
climbs-length end p = omega arith
climbs-length (up q l rest) p = omega (arith, climbs-length rest l)

-- what stands among them
pub climbs-mem : {hi lo j : ℕ} {js : List ℕ} → Climbs hi lo js → Memᴰ j js → (lo ≤ j) × (j < hi)
climbs-mem {hi = hi} {j = j} (end {lo = lo}) x4 = elim x4 [ ]
climbs-mem (up q l rest) (Memᴰ.head e) = (omega arith, omega arith)
climbs-mem (up q l rest) (Memᴰ.tail m) = let r = climbs-mem rest m in (omega arith, r.1)

-- the one at an index, and a later one
pub climbs-at : {hi lo : ℕ} {js : List ℕ} → Climbs hi lo js → (i : ℕ) → i < length js → (lo ≤ get_or js i 0) × (get_or js i 0 < hi)
climbs-at end i p = absurd (omega arith)
climbs-at (up q l rest) zero p = (q, l)
climbs-at (up q l rest) (suc i) p = let r = climbs-at rest i (omega arith) in (omega arith, r.1)

pub climbs-later : {hi lo : ℕ} {js : List ℕ} → Climbs hi lo js → (i k : ℕ) → i < k → k < length js → get_or js i 0 < get_or js k 0
climbs-later end i k p q = absurd (omega arith)
climbs-later (up a l rest) i zero p q = absurd (omega arith)
climbs-later (up a l rest) zero (suc k) p q = (climbs-at rest k (omega arith)).0
climbs-later (up a l rest) (suc i) (suc k) p q = climbs-later rest i k (omega arith) (omega arith)
