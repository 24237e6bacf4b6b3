-- A line encrypted afresh by the counters of its page is what the turn's definition says of it. Assumes nothing.
use mathlib.Core.Path.{◌≡◌, refl, sym, ap, ap₂, ◌∙◌}
use mathlib.Core.List.{List, [], ◌∷◌, map, Memᴰ}
use Prim.Native.Nat.{ℕ, suc, ◌<◌}
use lib.ListN.{get_or}
use Rattle.slot_map.specs.Slots.{slot_of}
use Rattle.counter.specs.Counter.{major, minors}
use Rattle.pad.specs.Pad.{pad, xor_bytes}
use Rattle.control.specs.Control.{Cell}
use Rattle.cache.specs.Cache.{content, cell_content, current}
use Rattle.calls.specs.Read.{page_block, line_minor, line_text}
use Rattle.calls.specs.Write.{line_cell}
use Rattle.calls.specs.Turn.{line_at, turned_cell}
use Rattle.call_laws.specs.Walk.{with_path}
use Rattle.call_laws.proofs.Turn.{line-page, line-place}
use Rattle.path.proofs.Ready.{Ready, block-loaded}
use Rattle.turn_batch.specs.Fresh.{fresh_cell, fresh_line}

module _ {h : ℕ} {a k c : List ℕ} {p : ℕ} (y : Ready h a k c p) (f : ℕ) (keys : List ℕ) {ma : ℕ} {ms : List ℕ}
    (first : ma ≡ major (current h a c 0 p)) (others : ms ≡ minors (current h a c 0 p)) (b : List ℕ) where
  abbrev d : List ℕ
  d = with_path h a p (suc h) c

  -- from an array b that still has the line
  pub fresh-turned : (j : ℕ) → j < 64 → cell_content b (line_at p j) ≡ cell_content a (line_at p j)
      → fresh_line f keys b p ma ms j ≡ turned_cell f keys a d p j
  unfolding fresh_cell line_text
  fresh-turned j q same =
      let n = line_at p j in
      let block : page_block d n ≡ current h a c 0 p = ap (λ (i : ℕ). content d (slot_of 0 i)) (line-page h p j q) ∙ block-loaded y in
      let ma-is : ma ≡ major (page_block d n) = first ∙ ap major (sym block) in
      let mi-is : get_or ms j 0 ≡ line_minor d n =
      ap₂ (λ (l : List ℕ) (i : ℕ). get_or l i 0) (others ∙ ap minors (sym block)) (sym (line-place h p j q)) in
      ap₂ {C = Cell} (λ (text : List ℕ) (m : ℕ). line_cell f keys n text m 1)
      (ap₂ {C = List ℕ} xor_bytes same (ap₂ {C = List ℕ} (pad keys n) ma-is mi-is)) (ap suc (first ∙ ap major (sym (block-loaded y))))

  pub all-turned : (js : List ℕ)
      → ((j : ℕ) → Memᴰ j js → (j < 64) × (cell_content b (line_at p j) ≡ cell_content a (line_at p j)))
      → map (fresh_line f keys b p ma ms) js ≡ map (turned_cell f keys a d p) js
  all-turned [] e = refl
  all-turned (j ∷ js) e =
      let one = e j (Memᴰ.head refl) in
      ap₂ {C = List Cell} ◌∷◌ (fresh-turned j one.0 one.1) (all-turned js (λ i m. e i (Memᴰ.tail m)))
