-- The stores of a turn and the cache after them, as the turn's definition says it. Assumes nothing.
use mathlib.Core.Path.{◌≡◌, refl, sym, ap, ap₂, ◌∙◌}
use mathlib.Core.Bool.{Bool, true, false}
use mathlib.Core.List.{List, map, Memᴰ}
use Prim.Native.Nat.{ℕ, suc, ◌/◌, ◌≤◌}
use native.Mathlib.Nat.{le_refl}
use native.Mathlib.Omega.{arith}
use borrow.Author.Tests.{leb-true, leb-false}
use lib.ListN.{length, get_or}
use Rattle.bits.proofs.Climbs.{climbs-mem}
use Rattle.memory_map.specs.Map.{on_path, cell_of, InMap}
use Rattle.memory_map.specs.Map.Item.{line, node}
use Rattle.memory_map.proofs.Laws.{cell-injective, path-node}
use Rattle.counter.specs.Counter.{counter_block, turned_minor, turned}
use Rattle.turn_block.proofs.Laws.{length-turned}
use Rattle.answer.specs.declared.Answer.TheVariants.{Done, Cut}
use Rattle.control.specs.Control.{Cell, family, depth, root}
use Rattle.cache.specs.Cache.{cell_content, holds, current}
use Rattle.std.specs.Prelude.{None}
use Rattle.journal.specs.Journal.{Store, Media, media}
use Rattle.journal.proofs.Each.{Each}
use Rattle.journal.proofs.Kept.{Within}
use Rattle.calls.specs.Path.{renew_path, renewed_root}
use Rattle.calls.specs.Call.{Called, buffers, ended, storing}
use Rattle.calls.specs.Write.{line_cell}
use Rattle.calls.specs.Turn.{Batch, line_at, turn_places, turn_front, turned_cell, turned_root, batches_of, stores_for}
use Rattle.calls.specs.Turn.{turn_batches, turned_cache, turn_checked}
use Rattle.call_laws.specs.Walk.{path_cells, with_path}
use Rattle.call_laws.proofs.Apart.{node-avoids, made-content}
use Rattle.call_laws.proofs.Kept.{array-cells}
use Rattle.call_laws.proofs.Loads.{cells-sound, path-fit}
use Rattle.call_laws.proofs.Storing.{all_told, storing-cut, storing-done}
use Rattle.call_laws.proofs.Turn.{Proper, Spares, block_inside, line-inside, front-spares, turn-proper, batches-spare, places-climb}
use Rattle.call_laws.proofs.Turn.{stores-within, stores-avoid}
use Rattle.path.proofs.Ready.{Ready, fit, few, block-loaded}
use Rattle.renewal.specs.Renewed.{renewed_tag, renewed_by}
use Rattle.line_store.proofs.Renewed.{root-renewed, same-renewed}
use Rattle.turn_store.specs.Page.{Page, page_stores, Made}

module _ {h : ℕ} {a k c : List ℕ} {p missing ma : ℕ} {ms : List ℕ} {mask : ℕ} (y : Ready h a k c p) (g : Page h a k c p missing ma ms mask)
    (keys : List ℕ) where
  abbrev d : List ℕ
  d = with_path h a p (suc h) c

  abbrev x : List Cell
  x = path_cells h c p (suc h)

  -- the page's block after the turn
  abbrev new : List ℕ
  new = turned (current h a c 0 p)

  pub new-block : {b : List ℕ} → b ≡ counter_block (suc ma) (map turned_minor ms) → b ≡ new
  unfolding turned
  new-block e =
      e ∙ ap₂ {C = List ℕ} (λ (m : ℕ) (l : List ℕ). counter_block (suc m) (map turned_minor l)) g.major_is g.minors_is

  abbrev xs : List Store
  xs = page_stores h keys a k c p

  -- ---- the stores leave the nodes above the block alone where the cache lacks them

  abbrev batches : List Batch
  batches = batches_of h (family k) keys a d p (root k) (turn_front h k d p x) (turn_places k d p)

  proper : Each (Proper h) batches
  proper =
      turn-proper h (family k) keys a d p (root k) y.page y.sized.array y.array-bytes k x
      (path-fit h y.sized.flat a y.sized.array y.array-bytes p y.page (suc h) c (le_refl (suc h)) (fit y) (λ e. refl))
      (cells-sound h c (fit y) p y.page (suc h) (le_refl (suc h))) (few y)

  within : Each (Within (length a / 72)) xs
  unfolding page_stores
  within = rw (array-cells h (length a) y.sized.array) (stores-within h y.sized.flat proper)

  module _ (l : ℕ) (up : 1 ≤ l) (lh : l ≤ h) where
    abbrev n : ℕ
    n = cell_of h (node l (on_path p l))

    block-other : cell_of h (node 0 p) ≡ n → ⊥
    block-other e =
        let same = cell-injective h (node 0 p) (node l (on_path p l)) (block_inside h p y.page) (path-node h p l y.page lh) e in
        let z : 0 ≡ l = cc in omega arith

    line_other : (j : ℕ) → Memᴰ j (turn_places k d p) → (turned_cell (family k) keys a d p j).number ≡ n → ⊥
    unfolding line_cell InMap cell_of
    line_other j m e =
        let same = cell-injective h (line (line_at p j)) (node l (on_path p l))
        (line-inside h p j (climbs-mem (places-climb k d p) m).1 y.page)
        (path-node h p l y.page lh) e in
        let z : ◌≡◌ {A = ℕ} 0 1 = cc in omega arith

    spare : holds c l (on_path p l) ≡ false → Each (Spares n) batches
    spare e =
        batches-spare h (family k) keys a d p (root k) n block-other (turn_front h k d p x)
        (front-spares h k d p x n block-other (node-avoids h c (fit y).formed p y.page l lh e)) (turn_places k d p) line_other

  -- ---- the call

  module _ (deep : h ≡ depth k) (allowance : ℕ) where
    abbrev called : Called
    called = turn_checked keys p allowance (buffers a k c) d x None

    called_is : storing allowance (buffers a k c) xs (Done (length xs) 0) (renew_path keys d p new 0 h) ≡ called
    unfolding turn_checked turn_batches turned_cache page_stores
    called_is =
        ap₂ {C = Called} (λ (n : ℕ) (b : List ℕ).
        let zs = stores_for (batches_of n (family k) keys a d p (root k) (turn_front n k d p x) (turn_places k d p)) in
        storing allowance (buffers a k c) zs (Done (length zs) 0) (renew_path keys d p (turned b) 0 n))
        deep (sym (block-loaded y))

    module _ (tags : List ℕ) (known : (l : ℕ) → l ≤ h → get_or tags l 0 ≡ renewed_tag h keys a c p new l) where
      pub new-root : get_or tags h 0 ≡ turned_root h keys d p
      new-root =
          root-renewed y keys new (length-turned (current h a c 0 p)) tags known
          ∙ ap (λ (b : List ℕ). renewed_root h keys d p (turned b)) (sym (block-loaded y))

      module _ {a' k' : List ℕ} {told : ℕ} {w : Bool} (m : Made allowance xs (media a k) (media a' k') told w) where
        pub page-cut : w ≡ false → ended (Cut told) a' k' c ≡ called
        page-cut e =
            storing-cut allowance (buffers a k c) xs (Done (length xs) 0) (renew_path keys d p new 0 h) a' k' told m.stored
            (leb-false _ _ (sym m.all ∙ e))
            ∙ called_is

        kept : (l : ℕ) → 1 ≤ l → l ≤ h → holds c l (on_path p l) ≡ false
            → cell_content a' (cell_of h (node l (on_path p l))) ≡ cell_content a (cell_of h (node l (on_path p l)))
        unfolding page_stores
        kept l up lh e =
            ap (λ (z : Media). cell_content z.array (n l up lh)) m.stored.left
            ∙ made-content allowance (n l up lh)
            (record { array-length = refl; control_length = y.control; array-bytes = y.array-bytes; control-bytes = y.control-bytes })
            within (stores-avoid (n l up lh) (spare l up lh e))

        pub page-done : length a' ≡ length a → w ≡ true → (c' : List ℕ) → c' ≡ renewed_by (with_path h a' p (suc h) c) p new 0 tags h
            → ended (Done told 0) a' k' c' ≡ called
        page-done same e c' f =
            let b = buffers a k c in
            let e' = renew_path keys d p new 0 h in
            let whole : length xs ≤ told = leb-true _ _ (sym m.all ∙ e) in
            ap₂ {C = Called} (λ (i : ℕ) (l : List ℕ). ended (Done i 0) a' k' l)
            (all_told allowance b xs (Done (length xs) 0) e' a' k' told m.stored whole)
            (f ∙ same-renewed y keys new (length-turned (current h a c 0 p)) tags known a' same kept 0)
            ∙ storing-done allowance b xs (Done (length xs) 0) e' a' k' told m.stored whole ∙ called_is
