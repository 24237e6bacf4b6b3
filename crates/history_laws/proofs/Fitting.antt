-- The cell of a line, by the counter that a tree has for it. Assumes nothing.
use mathlib.Core.Path.{◌≡◌, refl, sym, ap, ◌∙◌}
use mathlib.Core.Bool.{true}
use mathlib.Core.List.{List, ◌++◌}
use Prim.Native.Nat.{ℕ, zero, suc, ◌<◌}
use native.Mathlib.Omega.{arith}
use lib.Dec.{lit<}
use lib.ListN.{length, get_or, replicate, get_or-replicate}
use Rattle.memory_map.specs.Map.{page_of, lines}
use Rattle.counter.specs.Counter.{phase_of}
use Rattle.side.specs.Side.{side_bytes, side_fits}
use Rattle.side.proofs.Laws.{side-fits, phase-in}
use Rattle.candidates.specs.Candidates.{all_zero, cell_fits}
use Rattle.cache.specs.Cache.{cell_bytes}
use Rattle.history_laws.proofs.Setting.{Setting, Tree, Opening, sealed}

-- all its bytes are zero where the count is 0, else its side bytes are right for the counter
pub data Fits (S : Setting) (T : Tree) (n : ℕ) (cell : List ℕ) : Type 0 where
  blank : T.count n ≡ 0 → cell ≡ replicate 72 0 → Fits S T n cell
  marked : (b : List ℕ) → 0 < T.count n → length b ≡ 64
      → cell ≡ b ++ side_bytes S.family S.keys b n (T.major (page_of n)) (T.count n) → Fits S T n cell

-- the cells of an array: that of a turned line of an open page fits its counter after the turn
pub record Fitted (S : Setting) (T : Tree) (o : Opening) (a : List ℕ) : Type 0 where
  pub fits : (n : ℕ) → n < lines S.h → Fits S (sealed o T n) n (cell_bytes a n)

-- family 0: the phase is that of the count
pub phase-fits : {S : Setting} {T : Tree} {n : ℕ} {cell : List ℕ} → S.family ≡ 0 → Fits S T n cell → get_or cell 64 0 ≡ phase_of (T.count n)
phase-fits z (blank c e) = ap (λ (l : List ℕ). get_or l 64 0) e ∙ get_or-replicate 72 64 0 0 (lit< tt) ∙ sym (ap phase_of c)
phase-fits {S} {T} {n} z (marked b some full e) =
    ap (λ (l : List ℕ). get_or l 64 0) e ∙ phase-in S.family z S.keys b n (T.major (page_of n)) (T.count n) full

-- family 1: the count is a minor that the cell fits
zeros-fit : all_zero (replicate 72 0) ≡ true
unfolding all_zero
zeros-fit = refl

above_zero : (keys cell : List ℕ) (n ma v : ℕ) → 0 < v → cell_fits keys cell n ma v ≡ side_fits 1 keys cell n ma v
unfolding cell_fits
above_zero keys cell n ma zero p = absurd (omega arith)
above_zero keys cell n ma (suc v) p = refl

pub count_fits : {S : Setting} {T : Tree} {n : ℕ} {cell : List ℕ} → S.family ≡ 1 → Fits S T n cell
    → cell_fits S.keys cell n (T.major (page_of n)) (T.count n) ≡ true
unfolding cell_fits
count_fits {S} {T} {n} {cell} z (blank c e) =
    ap (cell_fits S.keys cell n (T.major (page_of n))) c ∙ ap all_zero e ∙ zeros-fit
count_fits {S} {T} {n} {cell} z (marked b some full e) =
    let ma = T.major (page_of n) in
    let mi = T.count n in
    above_zero S.keys cell n ma mi some ∙ ap (λ (l : List ℕ). side_fits 1 S.keys l n ma mi) e
    ∙ ap (λ (f : ℕ). side_fits f S.keys (b ++ side_bytes S.family S.keys b n ma mi) n ma mi) (sym z)
    ∙ side-fits S.family S.keys b n ma mi full
