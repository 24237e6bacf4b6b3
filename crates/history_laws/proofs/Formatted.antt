-- A formatted array is what recovery asks for: it keeps the fresh tree of no writes, and lists nothing. Assumes nothing.
use mathlib.Core.Path.{◌≡◌, sym, ap, ◌∙◌}
use mathlib.Core.Bool.{false≢true}
use mathlib.Core.List.{List}
use Prim.Native.Nat.{ℕ, suc, ◌+◌, ◌*◌, ◌<◌, zero-le}
use native.Mathlib.Omega.{arith}
use lib.Dec.{lit<}
use lib.ListN.{replicate, take, drop}
use lib.Seq.{drop_at, drop-drop}
use Rattle.words.specs.Bytes.{from_le, part}
use Rattle.words.proofs.Digits.{below-take, below-drop}
use Rattle.words.proofs.Parts.{part-part, part-replicate}
use Rattle.words.proofs.Zeros.{below-zeros, number-zeros}
use Rattle.memory_map.specs.Map.{pages, lines, level_start, slots, shadow_start, shadow_cells, cell_of, InMap, Item}
use Rattle.memory_map.specs.Map.Item.{line, node, shadow}
use Rattle.memory_map.proofs.Laws.{nodes-bottom}
use Rattle.counter.specs.Counter.{major, minor}
use Rattle.cache.specs.Cache.{cell_bytes, shadow_owner}
use Rattle.calls.specs.Format.{fresh_array}
use Rattle.call_laws.proofs.Fresh.{array-length, fresh-length}
use Rattle.call_laws.proofs.FreshCells.{none, lines-zero, shadows-zero, cell-stored, node-stored}
use Rattle.history_laws.proofs.Setting.{Setting, Tree, Small, tree_node, node_in, closed, opens}
use Rattle.history_laws.proofs.Tree.{fresh-major, fresh-minor}
use Rattle.history_laws.proofs.Durable.{Spare, Durable}

-- no page is turned, and no line is written
abbrev pub no_writes : Tree
no_writes = record { major = none; count = none }

no-counts : Small no_writes
no-counts = record { major = λ p. lit< tt; minor = λ n. lit< tt }

module _ (S : Setting) where
  open S use {keys, h}

  pub none-listed : (s : ℕ) → shadow_owner h (fresh_array keys h) s ≡ 0
  unfolding shadow_owner cell_of shadow_start
  none-listed s =
      let zeros : List ℕ = replicate (72 * shadow_cells h) 0 in
      let at : 72 * (level_start h (suc h) + s) ≡ 72 * level_start h (suc h) + 72 * s = omega arith in
      ap (λ (k : ℕ). from_le (part (fresh_array keys h) k 8)) at
      ∙ ap (λ (l : List ℕ). from_le (take 8 l))
      (sym (drop-drop (72 * s) (72 * level_start h (suc h)) (fresh_array keys h)) ∙ ap (drop (72 * s)) (shadows-zero keys h))
      ∙ number-zeros 256 (part zeros (72 * s) 8) (below-take 8 _ (below-drop (72 * s) zeros (below-zeros (72 * shadow_cells h))))

  -- a line's cell is all zero
  pub no-data : (n : ℕ) → n < lines h → cell_bytes (fresh_array keys h) n ≡ replicate 72 0
  no-data n p =
      let start : 72 * n ≡ 0 + 72 * n = omega arith in
      ap (λ (k : ℕ). part (fresh_array keys h) k 72) start
      ∙ sym (part-part (fresh_array keys h) 0 (72 * lines h) (72 * n) 72 (omega arith))
      ∙ ap (λ (l : List ℕ). part l (72 * n) 72) (lines-zero keys h) ∙ part-replicate 0 (72 * lines h) (72 * n) 72 (omega arith)

  no-spare : (x : Item) → InMap h x → Spare x (cell_bytes (fresh_array keys h) (cell_of h x))
  unfolding Spare InMap cell_of shadow_start shadow_cells
  no-spare (line n) p = tt
  no-spare (node l i) p =
      ap (drop 64) (cell-stored keys h l i p.0 p.1)
      ∙ drop_at (tree_node S no_writes l i) (replicate 8 0) 64 (fresh-length keys none none l i)
  no-spare (shadow s) p =
      let at : 72 * (level_start h (suc h) + s) ≡ 72 * level_start h (suc h) + 72 * s = omega arith in
      ap (λ (k : ℕ). drop 8 (part (fresh_array keys h) k 72)) at
      ∙ ap (λ (l : List ℕ). drop 8 (take 72 l))
      (sym (drop-drop (72 * s) (72 * level_start h (suc h)) (fresh_array keys h)) ∙ ap (drop (72 * s)) (shadows-zero keys h))
      ∙ ap (drop 8) (part-replicate 0 (72 * slots h) (72 * s) 72 (omega arith))

  fresh-page : (p : ℕ) → p < pages h → node_in S (fresh_array keys h) 0 p ≡ tree_node S no_writes 0 p
  fresh-page p q = node-stored keys h 0 p zero-le (omega (arith, nodes-bottom h))

  no-minor : (p j : ℕ) → p < pages h → j < 64 → minor (node_in S (fresh_array keys h) 0 p) j ≡ 0
  no-minor p j q r = ap (λ (b : List ℕ). minor b j) (fresh-page p q) ∙ fresh-minor S no-counts p j r

  pub formatted-durable : Durable S no_writes closed (fresh_array keys h)
  unfolding opens
  formatted-durable =
      record {
        whole = array-length keys h;
        small = no-counts;
        owners = record { belong = λ s i p e. absurd (omega (arith, e, none-listed s)); top = λ z s p. none-listed s };
        stored = λ l i p q o. node-stored keys h l i p q;
        majors = λ p q. ap major (fresh-page p q) ∙ fresh-major S no-counts p;
        behind = λ p j q r. omega (arith, no-minor p j q r);
        near = λ p j q r. omega (arith, no-minor p j q r);
        open_block = λ p q e. absurd (false≢true e);
        spare = no-spare;
      }
