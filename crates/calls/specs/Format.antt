-- Format: the tree of given majors and counts, and what a formatted module is.
-- Assumes nothing.
use Rattle.std.specs.Prelude.{ℕ, zero, suc, ◌*◌, ◌&&◌, not, List, [], ◌∷◌, ◌++◌, leb, length, replicate}
use Rattle.memory_map.specs.Map.{lines, nodes, shadow_cells}
use Rattle.counter.specs.Counter.{counter_block}
use Rattle.tag.specs.Tag.{node_tag}
use Rattle.answer.specs.declared.Answer.TheVariants.{Done}
use Rattle.control.specs.Control.{control_length, fresh_control}
use Rattle.cache.specs.Cache.{empty_cache}
use Rattle.calls.specs.Path.{child_tags}
use Rattle.calls.specs.Call.{Module, Called, judged, unlike, length_tests, refuse}

unfoldable pub counts_from : (ℕ → ℕ) → ℕ → ℕ → List ℕ
counts_from f n zero = []
counts_from f n (suc k) = f n ∷ counts_from f (suc n) k

-- the tree of majors and counts: level 0 has a block for each page, with its counts as minors, a node the tags of its children
unfoldable pub fresh_node : List ℕ → (ℕ → ℕ) → (ℕ → ℕ) → ℕ → ℕ → List ℕ
fresh_node keys majors f zero i = counter_block (majors i) (counts_from f (64 * i) 64)
fresh_node keys majors f (suc l) i = child_tags keys l (fresh_node keys majors f l) i

-- the cells of n nodes of level l from node i on, of the tree of no turns and no writes, each with zero side bytes
unfoldable pub node_cells : List ℕ → ℕ → ℕ → ℕ → List ℕ
node_cells keys l i zero = []
node_cells keys l i (suc n) = fresh_node keys (λ p. 0) (λ n. 0) l i ++ replicate 8 0 ++ node_cells keys l (suc i) n

-- the cells of the levels below l, then rest
unfoldable pub level_cells : List ℕ → ℕ → ℕ → List ℕ → List ℕ
level_cells keys h zero rest = rest
level_cells keys h (suc l) rest = level_cells keys h l (node_cells keys l 0 (nodes h l) ++ rest)

unfoldable pub fresh_array : List ℕ → ℕ → List ℕ
fresh_array keys h = replicate (72 * lines h) 0 ++ level_cells keys h (suc h) (replicate (72 * shadow_cells h) 0)

abbrev pub fresh_root : List ℕ → (ℕ → ℕ) → (ℕ → ℕ) → ℕ → ℕ
fresh_root keys majors f h = node_tag keys (fresh_node keys majors f h 0) h 0

-- 1 2 3 4 5; h is the depth, f the family
unfoldable pub format_refusal : List ℕ → ℕ → ℕ → Module → ℕ
format_refusal keys h f m = judged
    ((not (leb 1 h && leb h 3 && leb f 1), 1) ∷ (unlike (length keys) 48, 2) ∷ (unlike (length m.control) control_length, 3)
    ∷ length_tests h m)

unfoldable pub formatted : List ℕ → ℕ → ℕ → Called
formatted keys h f =
    record {
      answer = Done 0 0;
      after = record {
        array = fresh_array keys h;
        control = fresh_control h f (fresh_root keys (λ p. 0) (λ n. 0) h);
        cache = empty_cache h;
      };
    }

unfoldable pub format : List ℕ → ℕ → ℕ → Module → Called
format keys h f m =
    elim (format_refusal keys h f m) [ zero ↦ formatted keys h f | suc n ↦ refuse m (suc n) 0 0 ]
