-- The batch of a write, run under an allowance, and the cache after it. Assumes nothing.
use mathlib.Core.Path.{◌≡◌, ap, ◌∙◌}
use mathlib.Core.Bool.{Bool, true, false, cond}
use mathlib.Core.List.{List, [], ◌∷◌}
use Prim.Native.Nat.{ℕ, suc, ◌+◌, ◌*◌, ◌≤◌, ◌<◌}
use native.Mathlib.Nat.{le_refl}
use native.Mathlib.Omega.{arith}
use lib.Dec.{eqb}
use lib.ListN.{length, get_or}
use Rattle.words.proofs.Digits.{Below}
use Rattle.memory_map.specs.Map.{lines, page_of, on_path, cell_of, InMap}
use Rattle.memory_map.specs.Map.Item.{line, node}
use Rattle.memory_map.proofs.Laws.{cell-injective, page-inside, page-node, path-node}
use Rattle.counter.specs.Counter.{lag}
use Rattle.answer.specs.declared.Answer.TheVariants.{Done, Cut}
use Rattle.control.specs.Control.{control_length, Cell}
use Rattle.batch.specs.Batch.{staged_from}
use Rattle.cache.specs.Cache.{cell_content, formed, holds}
use Rattle.node.specs.Sized.{Sized}
use Rattle.journal.specs.Journal.{Store, Media, media, store_all, batch_stores, made as takes}
use Rattle.journal.proofs.Each.{Each, none, more, each_append}
use Rattle.journal.proofs.Steps.{Ran}
use Rattle.calls.specs.Path.{node_cell, renew_path, renewed_root}
use Rattle.calls.specs.Call.{Called, buffers, ended, storing}
use Rattle.calls.specs.Write.{line_cell}
use Rattle.call_laws.specs.Line.{block_cells, line_cells}
use Rattle.call_laws.specs.Walk.{missing, path_cells, with_path}
use Rattle.call_laws.proofs.Loads.{Sound, cells-sound}
use Rattle.call_laws.proofs.Apart.{Other, node-avoids, stored-length, content-kept}
use Rattle.call_laws.proofs.Line.{Lent, all_sound, block-few}
use Rattle.call_laws.proofs.Staged.{Staged, stored, staged-cut, staged_done}
use Rattle.path.proofs.Ready.{Ready, fit, few}
use Rattle.line_batch.proofs.Laws.{cells-length}
use Rattle.renewal.specs.Renewed.{renewed_tag, renewed_by}
use Rattle.line_store.proofs.Renewed.{root-renewed, same-renewed}

-- ---- what storing a line asks for, of buffers of bytes

pub ready : {h : ℕ} {a k c : List ℕ} {n j : ℕ}
    → (length k ≡ control_length) × (Sized h a c × ((formed h c ≡ true) × ((n < lines h) × (j ≡ missing c (page_of n) (suc h)))))
    → Below 256 a → Below 256 k → Below 256 c → Ready h a k c (page_of n)
ready {h} {n = n} q x y z =
    record {
      sized = q.1.0;
      control = q.0;
      shaped = q.1.1.0;
      page = page-inside h n q.1.1.1.0;
      array-bytes = x;
      control-bytes = y;
      cache-bytes = z;
    }

pub lent : {h n : ℕ} {text b : List ℕ} → n < lines h → length text ≡ 64 → length b ≡ 64 → Below 256 text → Below 256 b → Lent h n text b
lent i t w x y = record { inside = i; full = t; text-bytes = x; wide = w; block-bytes = y }

module _ {h : ℕ} {a k c : List ℕ} {n : ℕ} (y : Ready h a k c (page_of n)) (fam : ℕ) (keys : List ℕ) {text b : List ℕ} (v : Lent h n text b)
    (ma mi : ℕ) where
  abbrev p : ℕ
  p = page_of n

  abbrev cs : List Cell
  cs = line_cells h fam keys c n text ma mi b

  -- ---- its cells are sound, and at most eight

  batch-sound : Each (Sound h) cs
  unfolding line_cells
  batch-sound =
      all_sound h fam keys n text ma mi b (path_cells h c p (suc h)) v (cells-sound h c (fit y) p y.page (suc h) (le_refl (suc h)))

  pub batch-length : (1 ≤ length cs) × (length cs ≤ 8)
  batch-length =
      let all = cells-length h fam keys c n text ma mi b in
      (omega (arith, all), omega (arith, all, few y, y.sized.flat, block-few h p mi b))

  pub staging : {allowance : ℕ} {k₁ : List ℕ} {m : ℕ} → k₁ ≡ staged_from allowance 0 cs k → m ≡ length cs → Staged h allowance a k cs k₁ m
  staging held number =
      record {
        flat = y.sized.flat;
        array = y.sized.array;
        control = y.control;
        sound = batch-sound;
        some = batch-length.0;
        few = batch-length.1;
        cells = held;
        number = number;
      }

  -- ---- none of them is a node above the block that the path loads

  block-other : (l : ℕ) → 1 ≤ l → l ≤ h → (t : Bool) → Each (Other h (node l (on_path p l))) (cond t (node_cell h 0 p b ∷ []) [])
  block-other l q lh true =
      more {x = node_cell h 0 p b}
      (λ e. let same = cell-injective h (node 0 p) (node l (on_path p l)) (page-node h n v.inside) (path-node h p l y.page lh) e in
      let z : 0 ≡ l = cc in omega arith)
      none
  block-other l q lh false = none

  data-other : (l : ℕ) → l ≤ h → Other h (node l (on_path p l)) (line_cell fam keys n text ma mi)
  unfolding line_cell InMap cell_of
  data-other l lh e =
      let same = cell-injective h (line n) (node l (on_path p l)) v.inside (path-node h p l y.page lh) e in
      let z : ◌≡◌ {A = ℕ} 0 1 = cc in omega arith

  batch-other : (l : ℕ) → 1 ≤ l → l ≤ h → holds c l (on_path p l) ≡ false → Each (Other h (node l (on_path p l))) cs
  unfolding line_cells block_cells
  batch-other l q lh e =
      each_append (each_append (node-avoids h c (fit y).formed p y.page l lh e) (block-other l q lh (eqb (lag mi) 0)))
      (more {x = line_cell fam keys n text ma mi} (data-other l lh) none)

  -- ---- run, with the tags of the renewed path

  abbrev d : List ℕ
  d = with_path h a p (suc h) c

  module _ (tags : List ℕ) (known : (l : ℕ) → l ≤ h → get_or tags l 0 ≡ renewed_tag h keys a c p b l) where
    top-renewed : get_or tags h 0 ≡ renewed_root h keys d p b
    top-renewed = root-renewed y keys b v.wide tags known

    module _ {allowance : ℕ} {k₁ : List ℕ} {m : ℕ} (s : Staged h allowance a k cs k₁ m) where
      abbrev xs : List Store
      xs = batch_stores cs (renewed_root h keys d p b)

      abbrev called : ℕ → Called
      called f = storing allowance (buffers a k c) xs (Done (length xs) 0) (renew_path keys d p b f h)

      module _ {r : ℕ} (top : r ≡ get_or tags h 0) {a' k' : List ℕ} {told : ℕ} (ran : Ran a k₁ m r allowance (media a' k') told) where
        pub write-cut : (f : ℕ) → told < 2 * m + 3 → ended (Cut told) a' k' c ≡ called f
        write-cut f q = staged-cut s (top ∙ top-renewed) ran c (renew_path keys d p b f h) q

        abbrev d' : List ℕ
        d' = with_path h a' p (suc h) c

        array-is : a' ≡ (store_all (media a k) (takes allowance xs)).array
        array-is = ap (λ (x : Media). x.array) (stored s (top ∙ top-renewed) ran).left

        pub whole' : length a' ≡ length a
        whole' =
            ap length array-is
            ∙ stored-length h y.sized.flat a k y.sized.array y.control y.array-bytes y.control-bytes cs batch-sound
            batch-length.1 allowance
            (renewed_root h keys d p b)

        kept : (l : ℕ) → 1 ≤ l → l ≤ h → holds c l (on_path p l) ≡ false
            → cell_content a' (cell_of h (node l (on_path p l))) ≡ cell_content a (cell_of h (node l (on_path p l)))
        kept l q lh e =
            ap (λ (x : List ℕ). cell_content x (cell_of h (node l (on_path p l)))) array-is
            ∙ content-kept h y.sized.flat a k y.sized.array y.control y.array-bytes y.control-bytes cs batch-sound
            batch-length.1 allowance
            (renewed_root h keys d p b) (node l (on_path p l)) (batch-other l q lh e)

        pub write_done : (f : ℕ) → 2 * m + 3 ≤ told → (c' : List ℕ) → c' ≡ renewed_by d' p b f tags h → ended (Done told 0) a' k' c'
            ≡ called f
        write_done f q c' e =
            ap (λ (l : List ℕ). ended (Done told 0) a' k' l) (e ∙ same-renewed y keys b v.wide tags known a' whole' kept f)
            ∙ staged_done s (top ∙ top-renewed) ran c (renew_path keys d p b f h) q
