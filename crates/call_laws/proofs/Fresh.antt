-- Format keeps the lengths of the buffers, and leaves bytes. Assumes nothing.
use mathlib.Core.Path.{◌≡◌, refl, sym, ◌∙◌}
use mathlib.Core.List.{List, [], ◌∷◌, ◌++◌}
use Prim.Native.Nat.{ℕ, zero, suc, ◌+◌, ◌*◌, ◌<◌}
use native.Mathlib.Omega.{arith}
use lib.Dec.{lit<}
use lib.ListN.{length, replicate, length-append, length-replicate}
use Rattle.words.specs.Bytes.{digits, to_le}
use Rattle.words.proofs.Digits.{Below, below-nil, below-cons, below-append, below-digits}
use Rattle.memory_map.specs.Map.{lines, nodes, level_start, shadow_start, shadow_cells, cells, array_length}
use Rattle.counter.proofs.Laws.{length-counter_block, below-counter_block}
use Rattle.control.specs.Control.{control_length, mark_of, fresh_control}
use Rattle.cache.proofs.Laws.{length-empty, below-empty}
use Rattle.calls.specs.Call.{Module, Called, refuse}
use Rattle.calls.specs.Format.{counts_from, fresh_node, fresh_root, node_cells, level_cells, fresh_array, formatted, format, format_refusal}
use Rattle.call_laws.proofs.Judged.{Formattable, format-accepted}
use Rattle.call_laws.proofs.Loads.{zeros-bytes}
use Rattle.call_laws.proofs.Kept.{Bytes, Kept, kept_same}
use Rattle.call_laws.proofs.Tags.{tags-length, tags-bytes}

-- ---- the fresh tree

pub fresh-length : (keys : List ℕ) (majors f : ℕ → ℕ) (l i : ℕ) → length (fresh_node keys majors f l i) ≡ 64
unfolding fresh_node
fresh-length keys majors f zero i = length-counter_block (majors i) (counts_from f (64 * i) 64)
fresh-length keys majors f (suc l) i = tags-length keys l (fresh_node keys majors f l) (8 * i) 8

pub fresh-bytes : (keys : List ℕ) (majors f : ℕ → ℕ) (l i : ℕ) → Below 256 (fresh_node keys majors f l i)
unfolding fresh_node
fresh-bytes keys majors f zero i = below-counter_block (majors i) (counts_from f (64 * i) 64)
fresh-bytes keys majors f (suc l) i = tags-bytes keys l (fresh_node keys majors f l) (8 * i) 8

-- ---- its cells

pub node-cells-length : (keys : List ℕ) (l i n : ℕ) → length (node_cells keys l i n) ≡ 72 * n
unfolding node_cells
node-cells-length keys l i zero = refl
node-cells-length keys l i (suc n) =
    let b = fresh_node keys (λ p. 0) (λ n. 0) l i in
    omega (
      arith,
      length-append (b ++ replicate 8 0) (node_cells keys l (suc i) n),
      length-append b (replicate 8 0),
      length-replicate {A = ℕ} 8 0,
      fresh-length keys (λ p. 0) (λ n. 0) l i,
      node-cells-length keys l (suc i) n,
    )

node-cells-bytes : (keys : List ℕ) (l i n : ℕ) → Below 256 (node_cells keys l i n)
unfolding node_cells
node-cells-bytes keys l i zero = below-nil (lit< tt)
node-cells-bytes keys l i (suc n) =
    below-append _ (node_cells keys l (suc i) n) (below-append _ (replicate 8 0) (fresh-bytes keys (λ p. 0) (λ n. 0) l i) (zeros-bytes 8))
    (node-cells-bytes keys l (suc i) n)

pub level-cells-length : (keys : List ℕ) (h n : ℕ) (rest : List ℕ)
    → length (level_cells keys h n rest) + 72 * lines h ≡ 72 * level_start h n + length rest
unfolding level_cells level_start
level-cells-length keys h zero rest = omega arith
level-cells-length keys h (suc l) rest =
    omega (
      arith,
      level-cells-length keys h l (node_cells keys l 0 (nodes h l) ++ rest),
      length-append (node_cells keys l 0 (nodes h l)) rest,
      node-cells-length keys l 0 (nodes h l),
    )

level-cells-bytes : (keys : List ℕ) (h n : ℕ) (rest : List ℕ) → Below 256 rest → Below 256 (level_cells keys h n rest)
unfolding level_cells
level-cells-bytes keys h zero rest p = p
level-cells-bytes keys h (suc l) rest p =
    level-cells-bytes keys h l (node_cells keys l 0 (nodes h l) ++ rest) (below-append _ rest (node-cells-bytes keys l 0 (nodes h l)) p)

pub array-length : (keys : List ℕ) (h : ℕ) → length (fresh_array keys h) ≡ array_length h
unfolding fresh_array array_length cells shadow_start
array-length keys h =
    let rest = level_cells keys h (suc h) (replicate (72 * shadow_cells h) 0) in
    omega (
      arith,
      length-append (replicate (72 * lines h) 0) rest,
      length-replicate {A = ℕ} (72 * lines h) 0,
      length-replicate {A = ℕ} (72 * shadow_cells h) 0,
      level-cells-length keys h (suc h) (replicate (72 * shadow_cells h) 0),
    )

pub array-bytes : (keys : List ℕ) (h : ℕ) → Below 256 (fresh_array keys h)
unfolding fresh_array
array-bytes keys h =
    below-append (replicate (72 * lines h) 0) _ (zeros-bytes (72 * lines h))
    (level-cells-bytes keys h (suc h) _ (zeros-bytes (72 * shadow_cells h)))

pub control-length : (h f r : ℕ) → length (fresh_control h f r) ≡ control_length
unfolding fresh_control digits
control-length h f r = refl

pub control-bytes : (h f r : ℕ) → h < 256 → Below 256 (fresh_control h f r)
unfolding fresh_control
control-bytes h f r p =
    below-append (to_le 4 (mark_of f) ++ (1 ∷ h ∷ 1 ∷ []) ++ to_le 8 r) (replicate 666 0)
    (below-append (to_le 4 (mark_of f) ++ (1 ∷ h ∷ 1 ∷ [])) (to_le 8 r)
    (below-append (to_le 4 (mark_of f)) (1 ∷ h ∷ 1 ∷ []) (below-digits 256 4 (mark_of f) (lit< tt))
    (below-cons (lit< tt) (below-cons p (below-cons (lit< tt) (below-nil (lit< tt))))))
    (below-digits 256 8 r (lit< tt)))
    (zeros-bytes 666)

-- ---- the call

formatted-kept : (keys : List ℕ) (h f : ℕ) (m : Module) → Formattable keys h f m → Kept m (formatted keys h f).after
unfolding formatted
formatted-kept keys h f m ok =
    record {
      array = array-length keys h ∙ sym ok.fits.array;
      control = control-length h f (fresh_root keys (λ p. 0) (λ n. 0) h) ∙ sym ok.control_length;
      cache = length-empty h ∙ sym ok.fits.cache;
      bytes = record {
        array = array-bytes keys h;
        control = control-bytes h f (fresh_root keys (λ p. 0) (λ n. 0) h) (omega (arith, ok.high));
        cache = below-empty h;
      };
    }

pub format-kept : (keys : List ℕ) (h f : ℕ) (m : Module) → Bytes m → Kept m (format keys h f m).after
unfolding format
format-kept keys h f m b = go (format_refusal keys h f m) refl
  where
    go : (k : ℕ) → format_refusal keys h f m ≡ k
        → Kept m (elim k as (λ z. Called) [ zero ↦ formatted keys h f | suc n ↦ refuse m (suc n) 0 0 ]).after
    go zero e = formatted-kept keys h f m (format-accepted keys h f m e)
    go (suc k) e = kept_same m b
