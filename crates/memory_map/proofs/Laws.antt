-- Laws of the map: different items have different cells, all within the array. Assumes nothing.
use mathlib.Core.Path.{◌≡◌, refl, sym, ap, ap₂, ◌∙◌, subst}
use mathlib.Core.Logic.{◌⊎◌, inl, inr}
use Prim.Native.Nat.{ℕ, zero, suc, ◌+◌, ◌-◌, ◌*◌, ◌/◌, ◌%◌, ◌^◌, ◌<◌, ◌≤◌, suc-le-suc, zero-le}
use native.Mathlib.Nat.{div-one, div-div-eq-div-mul, div-eq_of_lt, pow-suc, div-le_self, div-lt_iff_lt-mul, sub-add_cancel, le_refl}
use native.Mathlib.Nat.{add_left_cancel, pow-succ'}
use native.Mathlib.Decide.{le_ind}
use native.Mathlib.Numerals.{add-one}
use native.Mathlib.Omega.{arith}
use lib.Dec.{lit<}
use lib.Pow.{pow-add}
use Rattle.words.proofs.Digits.{pow_pos}
use Rattle.words.proofs.Order.{lt-eq-gt}
use Rattle.memory_map.specs.Map.{pages, lines, nodes, page_of, on_path, level_start, slots, shadow_start, shadow_cells, cells, Item}
use Rattle.memory_map.specs.Map.{cell_of, InMap}
use Rattle.memory_map.specs.Map.Item.{line, node, shadow}

-- what holds at 0, 1, 2 and 3 holds up to 3
pub up_to3 : (P : ℕ → Type 0) → P 0 → P 1 → P 2 → P 3 → (n : ℕ) → n ≤ 3 → P n
up_to3 P a b c d zero h = a
up_to3 P a b c d (suc zero) h = b
up_to3 P a b c d (suc (suc zero)) h = c
up_to3 P a b c d (suc (suc (suc zero))) h = d
up_to3 P a b c d (suc (suc (suc (suc n)))) h = absurd (omega arith)

-- a power of eight by a shift
pub shift-eight : (n : ℕ) → n ≤ 3 → (1 * 2 ^ (3 * n)) % 2 ^ 64 ≡ 8 ^ n
shift-eight = up_to3 (λ n. (1 * 2 ^ (3 * n)) % 2 ^ 64 ≡ 8 ^ n) refl refl refl refl

pub shift-lines : (h : ℕ) → h ≤ 3 → (64 * 2 ^ (3 * h)) % 2 ^ 64 ≡ lines h
unfolding lines pages
shift-lines = up_to3 (λ n. (64 * 2 ^ (3 * n)) % 2 ^ 64 ≡ lines n) refl refl refl refl

-- octal ones by a shift: 585 is 1111 octal
abbrev ones : ℕ → ℕ
ones k = 585 / 2 ^ k

-- those of the levels from l on, and of level l
ones-next : (h l : ℕ) → h ≤ 3 → l ≤ h → ones (9 - 3 * h + 3 * l) ≡ ones (9 - 3 * h + 3 * suc l) + nodes h l
unfolding nodes
ones-next h l p q =
    let from : 9 - 3 * h + 3 * l ≡ 9 - 3 * (h - l) = omega arith in
    let above : 12 - 3 * (h - l) ≡ 9 - 3 * h + 3 * suc l = omega arith in
    ap ones from ∙ up_to3 (λ k. ones (9 - 3 * k) ≡ ones (12 - 3 * k) + 8 ^ k) refl refl refl refl (h - l) (omega arith)
    ∙ ap (λ (k : ℕ). ones k + 8 ^ (h - l)) above

pub level-ones : (h l : ℕ) → h ≤ 3 → l ≤ h + 1 → level_start h l + ones (9 - 3 * h + 3 * l) ≡ lines h + ones (9 - 3 * h)
unfolding level_start
level-ones h zero p q = let none : 9 - 3 * h + 3 * 0 ≡ 9 - 3 * h = omega arith in ap (λ (k : ℕ). lines h + ones k) none
level-ones h (suc l) p q = omega (arith, level-ones h l p (omega arith), ones-next h l p (omega arith))

-- bounds of what is added and taken away on the way
pub ones_small : (k : ℕ) → ones k ≤ 585
ones_small k = div-le_self 585 (2 ^ k)

pub ones-fit : (x k j : ℕ) → ones (k + j) ≤ x + ones k
ones-fit x k j =
    omega (
      arith,
      ap (λ (n : ℕ). 585 / n) (pow-add 2 k j),
      div-div-eq-div-mul 585 (2 ^ k) (2 ^ j),
      div-le_self (585 / 2 ^ k) (2 ^ j),
    )

pub lines-small : {r h : ℕ} → r ≡ lines h → h ≤ 3 → r ≤ 32768
unfolding lines pages
lines-small {r} {h} e p = omega (arith, up_to3 (λ n. 64 * 8 ^ n ≤ 32768) (omega arith) (omega arith) (omega arith) (omega arith) h p)

pub level-mono : (h l k : ℕ) → l ≤ k → level_start h l ≤ level_start h k
unfolding level_start
level-mono h l k p = le_ind (λ (m : ℕ). level_start h l ≤ level_start h m) (le_refl (level_start h l)) (λ m q e. omega arith) k p

pub level-lines : (h l : ℕ) → lines h ≤ level_start h l
unfolding level_start
level-lines h l = level-mono h 0 l zero-le

pub level-next : (h l : ℕ) → level_start h (suc l) ≡ level_start h l + nodes h l
unfolding level_start
level-next h l = refl

-- eight children each, and the pages at the bottom
pub nodes-below : (h l : ℕ) → suc l ≤ h → nodes h l ≡ 8 * nodes h (suc l)
unfolding nodes
nodes-below h l p =
    let step : h - l ≡ suc (h - suc l) = omega arith in
    ap (λ (k : ℕ). 8 ^ k) step ∙ pow-succ' 8 (h - suc l)

pub nodes-bottom : (h : ℕ) → nodes h 0 ≡ pages h
unfolding nodes pages
nodes-bottom h = let all : h - 0 ≡ h = omega arith in ap (λ (k : ℕ). 8 ^ k) all

pub nodes-some : (h l : ℕ) → 0 < nodes h l
unfolding nodes
nodes-some h l = pow_pos 8 (h - l) (lit< tt)

pub nodes-top : (h : ℕ) → nodes h h ≡ 1
unfolding nodes
nodes-top h = let none : h - h ≡ 0 = omega arith in ap (λ (k : ℕ). 8 ^ k) none

-- the path of a page of the map
pub path-within : (h p l : ℕ) → p < pages h → l ≤ h → on_path p l < nodes h l
unfolding pages nodes
path-within h p l q r =
    (div-lt_iff_lt-mul (pow_pos 8 l (lit< tt))).1
    (subst (λ (n : ℕ). p < n) (ap (λ (k : ℕ). 8 ^ k) (sym (sub-add_cancel r)) ∙ pow-add 8 (h - l) l) q)

pub page-inside : (h n : ℕ) → n < lines h → page_of n < pages h
unfolding lines
page-inside h n p = omega arith

pub page-node : (h n : ℕ) → n < lines h → InMap h (node 0 (page_of n))
unfolding InMap
page-node h n p = (zero-le, subst (λ (k : ℕ). page_of n < k) (sym (nodes-bottom h)) (page-inside h n p))

-- the node above node i is i / 8
pub path-up : (p l : ℕ) → on_path p (suc l) ≡ on_path p l / 8
path-up p l = ap (λ (n : ℕ). p / n) (pow-suc 8 l) ∙ sym (div-div-eq-div-mul p (8 ^ l) 8)

pub path-bottom : (p : ℕ) → on_path p 0 ≡ p
path-bottom p = div-one p

pub path-top : (h p : ℕ) → p < pages h → on_path p h ≡ 0
unfolding pages
path-top h p q = div-eq_of_lt q

pub path-node : (h p l : ℕ) → p < pages h → l ≤ h → InMap h (node l (on_path p l))
unfolding InMap
path-node h p l q r = (r, path-within h p l q r)

pub level-shadow : (h l i : ℕ) → l ≤ h → i < nodes h l → level_start h l + i < shadow_start h
unfolding shadow_start
level-shadow h l i p q = omega (arith, level-mono h (suc l) (suc h) (suc-le-suc p), level-next h l)

pub cells-small : (h : ℕ) → h ≤ 3 → cells h ≤ 33363
unfolding cells shadow_start shadow_cells level_start slots lines pages nodes
cells-small = up_to3 (λ h. cells h ≤ 33363) (omega arith) (omega arith) (omega arith) (omega arith)

pub cells-shadow : (h : ℕ) → level_start h (suc h) ≤ cells h
unfolding cells shadow_start
cells-shadow h = omega arith

pub shadow-cells : (h : ℕ) → shadow_start h ≤ cells h
unfolding cells
shadow-cells h = omega arith

-- bounds of what the functions add, whatever level or depth they ask for
pub start_small : {r h l : ℕ} → r ≡ level_start h l → h ≤ 3 → l ≤ h + 1 → r ≤ 33363
start_small {r} {h} {l} e p q = omega (arith, level-mono h l (suc h) (omega arith), cells-shadow h, cells-small h p)

pub nodes-small : {r h : ℕ} (l : ℕ) → r ≡ nodes h l → h ≤ 3 → r ≤ 512
unfolding nodes
nodes-small {r} {h} l e p =
    omega (arith, up_to3 (λ n. 8 ^ n ≤ 512) (omega arith) (omega arith) (omega arith) (omega arith) (h - l) (omega arith))

pub slots_small : {r h : ℕ} → r ≡ slots h → h ≤ 3 → r ≤ 10
unfolding slots
slots_small e p = omega arith

pub shadow-small : {r h : ℕ} → r ≡ shadow_cells h → h ≤ 3 → r ≤ 10
unfolding shadow_cells
shadow-small e p = slots_small e p

pub cell-within : (h : ℕ) (x : Item) → InMap h x → cell_of h x < cells h
unfolding InMap cell_of cells shadow_start shadow_cells
cell-within h (line n) m = omega (arith, level-lines h (suc h))
cell-within h (node l i) m = omega (arith, level-shadow h l i m.0 m.1)
cell-within h (shadow s) m = omega arith

pub cell-small : {r h : ℕ} (x : Item) → r ≡ cell_of h x → InMap h x → h ≤ 3 → r < 33363
cell-small {r} {h} x e m p = omega (arith, cell-within h x m, cells-small h p)

-- two levels' cells are apart
apart : (h l i k j : ℕ) → l < k → i < nodes h l → level_start h l + i ≡ level_start h k + j → ⊥
apart h l i k j p q e = omega (arith, level-mono h (suc l) k p, level-next h l)

nodes-apart : (h l i k j : ℕ) → i < nodes h l → j < nodes h k → level_start h l + i ≡ level_start h k + j → l ≡ k
nodes-apart h l i k j p q e = go (lt-eq-gt l k)
  where
    go : (l < k) ⊎ ((l ≡ k) ⊎ (k < l)) → l ≡ k
    go (inl a) = absurd (apart h l i k j a p e)
    go (inr (inl a)) = a
    go (inr (inr a)) = absurd (apart h k j l i a q (sym e))

pub cell-injective : (h : ℕ) (x y : Item) → InMap h x → InMap h y → cell_of h x ≡ cell_of h y → x ≡ y
unfolding InMap cell_of shadow_start
cell-injective h (line n) (line m) p q e = ap line e
cell-injective h (line n) (node l i) p q e = absurd (omega (arith, level-lines h l))
cell-injective h (line n) (shadow s) p q e = absurd (omega (arith, level-lines h (suc h)))
cell-injective h (node l i) (line n) p q e = absurd (omega (arith, level-lines h l))
cell-injective h (node l i) (node k j) p q e =
    let a : l ≡ k = nodes-apart h l i k j p.1 q.1 e in
    ap₂ node a (add_left_cancel (level_start h k) (subst (λ (m : ℕ). level_start h m + i ≡ level_start h k + j) a e))
cell-injective h (node l i) (shadow s) p q e = absurd (omega (arith, level-shadow h l i p.0 p.1))
cell-injective h (shadow s) (line n) p q e = absurd (omega (arith, level-lines h (suc h)))
cell-injective h (shadow s) (node l i) p q e = absurd (omega (arith, level-shadow h l i q.0 q.1))
cell-injective h (shadow s) (shadow t) p q e = ap shadow (add_left_cancel (level_start h (suc h)) e)

-- a cell's number as the code computes it
pub node-cell : (h l i : ℕ) → level_start h l + i ≡ cell_of h (node l i)
unfolding cell_of
node-cell h l i = refl

-- shadow cells follow each other, within the array
pub shadow-room : (h : ℕ) → cell_of h (shadow 0) + slots h ≤ cells h
unfolding cell_of cells shadow_cells
shadow-room h = omega arith

pub shadow-after : (h s : ℕ) → cell_of h (shadow s) ≡ cell_of h (shadow 0) + s
unfolding cell_of
shadow-after h s = omega arith

pub shadow-cell : (h s : ℕ) → level_start h (h + 1) + s ≡ cell_of h (shadow s)
unfolding cell_of shadow_start
shadow-cell h s = rw add-one

pub all-cells : (h : ℕ) → level_start h (h + 1) + shadow_cells h ≡ cells h
unfolding cells shadow_start
all-cells h = rw add-one

pub in-map-node : (h l i : ℕ) → InMap h (node l i) → (l ≤ h) × (i < nodes h l)
unfolding InMap
in-map-node h l i m = m

-- the top
pub top-node : (h : ℕ) → InMap h (node h 0)
unfolding InMap
top-node h = (le_refl h, nodes-some h h)

-- the children of a node, and those of the nodes before it
pub child-node : (h l i : ℕ) → InMap h (node (l + 1) i) → (j : ℕ) → j < 8 * i + 8 → InMap h (node l j)
unfolding InMap
child-node h l i m j p =
    let up = subst (λ (n : ℕ). (n ≤ h) × (i < nodes h n)) (add-one l) m in
    (omega (arith, up.0), omega (arith, up.1, nodes-below h l up.0))

pub index-small : (h l i : ℕ) → InMap h (node l i) → h ≤ 3 → i < 512
index-small h l i m p = omega (arith, (in-map-node h l i m).1, nodes-small {h = h} l refl p)
