-- The path of a page held in the cache; and the array once the page's block is stored as another tree has it, which differs on that page
-- alone. Assumes nothing.
use mathlib.Core.Path.{◌≡◌, refl, sym, ap, ◌∙◌, subst}
use mathlib.Core.Logic.{◌⊎◌, inl, inr}
use mathlib.Core.Bool.{Bool, true, false, cond, false≢true}
use mathlib.Core.List.{List, [], ◌∷◌}
use Prim.Native.Nat.{ℕ, suc, ◌+◌, ◌*◌, ◌≤◌, ◌<◌, zero-le}
use native.Mathlib.Nat.{le_refl}
use native.Mathlib.Omega.{arith}
use lib.ListN.{length, replicate}
use lib.Seq.{take_at}
use Rattle.words.specs.Bytes.{part, put}
use Rattle.words.proofs.Order.{eq-or-not}
use Rattle.memory_map.specs.Map.{pages, lines, nodes, slots, array_length, cell_of, on_path, InMap, Item}
use Rattle.memory_map.specs.Map.Item.{line, node}
use Rattle.memory_map.proofs.Laws.{path-bottom, path-top}
use Rattle.slot_map.specs.Slots.{slot_of}
use Rattle.slot_map.proofs.Laws.{slot-within, level-slot}
use Rattle.counter.specs.Counter.{major, minor}
use Rattle.control.specs.Control.{Cell}
use Rattle.cache.specs.Cache.{owner, content, shadow_owner, cell_bytes, cell_content}
use Rattle.cache.proofs.Laws.{owned-same, Owned}
use Rattle.journal.proofs.Again.{put-cells}
use Rattle.calls.specs.Path.{node_cell, renew_path, renewed_root}
use Rattle.history_laws.proofs.Setting.{Setting, Tree, Agree, tree_node, tree_root, node_in, tag_of, Opening}
use Rattle.history_laws.proofs.Tree.{tree-length, fresh-major, fresh-minor, Path, off-path, renewed-fresh}
use Rattle.history_laws.proofs.Durable.{Spare, Durable}
use Rattle.history_laws.proofs.Stores.{kind, first, second, page-in, Put, length-after, same-part, node_bytes, node-put}
use Rattle.history_laws.proofs.Stores.{node-apart, lines-apart, nodes-apart, shadows-apart, spare-put, node-spare}
use Rattle.history_laws.proofs.Live.{Live}
use Rattle.history_laws.proofs.Renewed.{Renewal, live-renewed}

-- array and cache go together, and the cache holds the path of page p
pub record Reached (S : Setting) (T : Tree) (o : Opening) (a c : List ℕ) (p : ℕ) : Type 0 where
  pub live : Live S T o a c
  pub page : p < pages S.h
  pub held : (k : ℕ) → k ≤ S.h → owner c (slot_of k (on_path p k)) ≡ suc (on_path p k)

-- the cell of the page's block in a tree, where stop says so
abbrev pub block_cells : Setting → Tree → ℕ → Bool → List Cell
block_cells S U p stop = cond stop (node_cell S.h 0 p (tree_node S U 0 p) ∷ []) []

module _ {S : Setting} {T : Tree} {o : Opening} {a c : List ℕ} {p : ℕ} (w : Reached S T o a c p) where
  open S use {keys, h}
  open w use {live as v, page, held}

  node-held : (k : ℕ) → k ≤ h → content c (slot_of k (on_path p k)) ≡ tree_node S T k (on_path p k)
  node-held k q =
      v.fresh (slot_of k (on_path p k)) (on_path p k) (slot-within h k (on_path p k) q) (held k q)
      ∙ ap (λ (j : ℕ). tree_node S T j (on_path p k)) (level-slot k (on_path p k))

  pub block-is : content c (slot_of 0 p) ≡ tree_node S T 0 p
  block-is = subst (λ (q : ℕ). content c (slot_of 0 q) ≡ tree_node S T 0 q) (path-bottom p) (node-held 0 zero-le)

  pub minor-at : (j : ℕ) → j < 64 → minor (content c (slot_of 0 p)) j ≡ T.count (64 * p + j)
  minor-at j q = ap (λ (b : List ℕ). minor b j) block-is ∙ fresh-minor S v.durable.small p j q

  pub major-at : major (content c (slot_of 0 p)) ≡ T.major p
  major-at = ap major block-is ∙ fresh-major S v.durable.small p

  -- ---- another tree

  module _ {U : Tree} (same : (q : ℕ) → (q ≡ p → ⊥) → Agree T U q) where
    path : Path S T U p c
    path = record { fresh = node-held; same = same }

    pub root-renewed : renewed_root h keys c p (tree_node S U 0 p) ≡ tree_root S U
    root-renewed = ap (λ (b : List ℕ). tag_of S b h 0) (renewed-fresh path h (le_refl h) ∙ ap (tree_node S U h) (path-top h p page))

    -- the array b has its block of the page where stop says so, else that of a; its other nodes and its shadow are those of a
    pub record Blocked (stop : Bool) (b : List ℕ) : Type 0 where
      pub whole : length b ≡ array_length h
      pub shadows : (s : ℕ) → s < slots h → shadow_owner h b s ≡ shadow_owner h a s
      pub others : (k i : ℕ) → k ≤ h → i < nodes h k → (node k i ≡ node 0 p → ⊥) → node_in S b k i ≡ node_in S a k i
      pub now : stop ≡ true → node_in S b 0 p ≡ tree_node S U 0 p
      pub stay : stop ≡ false → node_in S b 0 p ≡ node_in S a 0 p
      pub spare : (x : Item) → InMap h x → Spare x (cell_bytes b (cell_of h x))

    there : Put h a (node 0 p) (node_bytes S U 0 p)
    there = node-put S U a 0 p v.durable.whole zero-le (page-in h p page)

    pub blocked : (stop : Bool) → Blocked stop (put-cells a (block_cells S U p stop))
    unfolding put-cells cell_content kind
    blocked true =
        record {
          whole = length-after there ∙ v.durable.whole;
          shadows = shadows-apart there (λ (z : ◌≡◌ {A = ℕ} 1 2). omega arith);
          others = node-apart there;
          now = λ e. same-part there 64 (omega arith)
              ∙ take_at (tree_node S U 0 p) (replicate 8 0) 64 (tree-length S U 0 p);
          stay = λ e. absurd (false≢true (sym e));
          spare = spare-put there v.durable.spare (node-spare S U 0 p);
        }
    blocked false =
        record {
          whole = v.durable.whole;
          shadows = λ s q. refl;
          others = λ k i q r e. refl;
          now = λ e. absurd (false≢true e);
          stay = λ e. refl;
          spare = v.durable.spare;
        }

    pub block-rows : (stop : Bool) (x : ℕ) → x < lines h → part (put-cells a (block_cells S U p stop)) (72 * x) 72 ≡ part a (72 * x) 72
    unfolding put-cells kind
    block-rows true = lines-apart there (λ (z : ◌≡◌ {A = ℕ} 1 0). omega arith)
    block-rows false = λ x q. refl

    module _ {stop : Bool} {b : List ℕ} (k : Blocked stop b) where
      -- and with another data cell
      module _ {n : ℕ} {bytes : List ℕ} (u : Put h b (line n) bytes) where
        nodes-same : (l i : ℕ) → l ≤ h → i < nodes h l → node_in S (put b (72 * cell_of h (line n)) bytes) l i ≡ node_in S b l i
        unfolding kind
        nodes-same = nodes-apart u (λ (z : ◌≡◌ {A = ℕ} 0 1). omega arith)

        pub with-line : Blocked stop (put b (72 * cell_of h (line n)) bytes)
        unfolding kind Spare
        with-line =
            let own = nodes-same 0 p zero-le (page-in h p page) in
            record {
              whole = length-after u ∙ k.whole;
              shadows = λ s q. shadows-apart u (λ (z : ◌≡◌ {A = ℕ} 0 2). omega arith) s q ∙ k.shadows s q;
              others = λ l i q r e. nodes-same l i q r ∙ k.others l i q r e;
              now = λ e. own ∙ k.now e;
              stay = λ e. own ∙ k.stay e;
              spare = spare-put u k.spare tt;
            }

      -- a page's block: the new one where it is stored, else that of a
      pub page-cases : (P : List ℕ → Type 0) (q : ℕ) → q < pages h → (q ≡ p → P (tree_node S U 0 q))
          → ((q ≡ p → stop ≡ false) → P (node_in S a 0 q)) → P (node_in S b 0 q)
      unfolding second
      page-cases P q r new old = go (eq-or-not q p) stop refl
        where
          go : (q ≡ p) ⊎ (q ≡ p → ⊥) → (s : Bool) → stop ≡ s → P (node_in S b 0 q)
          go (inr e) s z = subst P (sym (k.others 0 q zero-le (page-in h q r) (λ x. e (ap second x)))) (old (λ x. absurd (e x)))
          go (inl e) true z = subst P (sym (subst (λ (i : ℕ). node_in S b 0 i ≡ tree_node S U 0 i) (sym e) (k.now z))) (new e)
          go (inl e) false z = subst P (sym (subst (λ (i : ℕ). node_in S b 0 i ≡ node_in S a 0 i) (sym e) (k.stay z))) (old (λ x. z))

      pub owners-new : Owned h (shadow_owner h b)
      owners-new = owned-same v.durable.owners k.shadows

      pub stored-new : (l i : ℕ) → l ≤ h → i < nodes h l → (shadow_owner h b (slot_of l i) ≡ suc i → ⊥) → node_in S b l i ≡ tree_node S U l i
      unfolding first second
      stored-new l i q r e =
          let within = slot-within h l i q in
          let away : i ≡ on_path p l → ⊥ = λ z. e (k.shadows (slot_of l i) within ∙ sym (v.listed (slot_of l i) within)
          ∙ subst (λ (j : ℕ). owner c (slot_of l j) ≡ suc j) (sym z) (held l q)) in
          k.others l i q r (λ z. away (ap second z ∙ sym (path-bottom p) ∙ ap (on_path p) (sym (ap first z))))
          ∙ v.durable.stored l i q r (λ z. e (k.shadows (slot_of l i) within ∙ z)) ∙ off-path S T U p same l i away

      -- it goes with the cache that has the path renewed
      pub live-blocked : {r : Opening} → Durable S U r b → Live S U r b (renew_path keys c p (tree_node S U 0 p) (cond stop 0 1) h)
      live-blocked {r} d = live-renewed renewal
        where
          small : (s : Bool) → cond s 0 1 ≤ 1
          small true = zero-le
          small false = le_refl 1

          stored : (s : Bool) → ◌≡◌ {A = ℕ} (cond s 0 1) 0 → s ≡ true
          stored true e = refl
          stored false e = absurd (let z : ◌≡◌ {A = ℕ} 1 0 = e in omega arith)

          renewal : Renewal S T U o r p a c (cond stop 0 1) b
          renewal =
              record {
                live = v;
                renewing = record { fit = v.fit; page = page; held = held; path = path; small = small stop };
                durable = d;
                shadows = k.shadows;
                others = k.others;
                now = λ e. k.now (stored stop e);
              }
