-- The size of a cell, and of its content. Assumes nothing.
use mathlib.Core.Path.{◌≡◌}
use mathlib.Core.List.{List}
use Prim.Native.Nat.{ℕ, ◌+◌, ◌*◌, ◌≤◌}
use native.Mathlib.Omega.{arith}
use lib.ListN.{length}
use Rattle.words.proofs.Parts.{length_part}
use Rattle.cache.specs.Cache.{cell_bytes, cell_content}

pub cell_full : (a : List ℕ) (n : ℕ) → 72 * n + 72 ≤ length a → length (cell_bytes a n) ≡ 72
cell_full a n h = length_part a (72 * n) 72 (omega arith)

pub cell-size : (a : List ℕ) (n : ℕ) → 72 * n + 72 ≤ length a → length (cell_content a n) ≡ 64
unfolding cell_content
cell-size a n h = length_part a (72 * n) 64 (omega arith)
