-- How a write of an accepted module ends. Assumes nothing.
use mathlib.Core.Path.{◌≡◌, refl, sym, ap, ap₂, ◌∙◌}
use mathlib.Core.Bool.{Bool, true, false, cond}
use mathlib.Core.List.{List, [], ◌∷◌, ◌++◌}
use Prim.Native.Nat.{ℕ, zero, suc, ◌+◌}
use native.Mathlib.Numerals.{add-one}
use borrow.Author.Tests.{eq-eqb, ne_eqb}
use lib.Dec.{eqb}
use lib.ListN.{length}
use Rattle.memory_map.specs.Map.{page_of, place_of}
use Rattle.counter.specs.Counter.{with_minor, lag}
use Rattle.answer.specs.declared.Answer.{Answer}
use Rattle.answer.specs.declared.Answer.TheVariants.{Done, Refused}
use Rattle.control.specs.Control.{Cell, family}
use Rattle.cache.specs.Cache.{current}
use Rattle.journal.specs.Journal.{batch_stores}
use Rattle.calls.specs.Path.{differs, renew_path, renewed_root}
use Rattle.calls.specs.Call.{Module, Called, buffers, ended, storing, path_of, access_refusal}
use Rattle.calls.specs.Read.{line_minor}
use Rattle.calls.specs.Write.{new_minor, new_block, stop_loss, line_cell, data_cell, write_batch, write_stores}
use Rattle.calls.specs.Write.{written_cache, write_loaded, write_path, write_judged, write}
use Rattle.call_laws.specs.Line.{block_cells, line_cells}
use Rattle.call_laws.specs.Walk.{path_cells, with_path}
use Rattle.path.specs.declared.Line.{Line}
use Rattle.path.proofs.Ready.{Found, block-found, major-found, minor-found}
use Rattle.line_store.specs.Stored.{stored_line}

pub write-differs : (keys : List ℕ) (line : ℕ) (text : List ℕ) (allowance : ℕ) (m : Module) {l i : ℕ} → path_of keys line m ≡ differs l i
    → {r : Answer} → r ≡ Refused 24 0 l i
    → ended r m.array m.control m.cache ≡ write_path keys line text allowance m (path_of keys line m)
unfolding write_path
write-differs keys line text allowance m e f = rw f (sym (ap (write_path keys line text allowance m) e))

-- the path is loaded, and n is the line's counter
module _ {h : ℕ} {keys a k c : List ℕ} {line : ℕ} {n : Line} (found : Found h keys a k c line n) (text : List ℕ) (allowance : ℕ) where
  abbrev m : Module
  m = buffers a k c

  abbrev p : ℕ
  p = page_of line

  abbrev d : List ℕ
  d = with_path h a p (suc h) c

  abbrev x : List Cell
  x = path_cells h c p (suc h)

  abbrev whole : Called
  whole = write_path keys line text allowance m (path_of keys line m)

  -- what its next counter gives
  abbrev next : List ℕ
  next = with_minor (current h a c 0 p) (place_of line) (n.minor + 1)

  next-minor : new_minor d line ≡ n.minor + 1
  next-minor = ap (λ (i : ℕ). suc i) (minor-found found) ∙ sym (add-one n.minor)

  next-block : new_block d line ≡ next
  unfolding new_block
  next-block = ap₂ {C = List ℕ} (λ (b : List ℕ) (i : ℕ). with_minor b (place_of line) i) (block-found found) next-minor

  abbrev f : ℕ
  f = family k

  next-cell : data_cell f keys line text d ≡ line_cell f keys line text n.major (n.minor + 1)
  unfolding line_cell
  next-cell = ap₂ {C = Cell} (λ (i j : ℕ). line_cell f keys line text i j) (major-found found) next-minor

  next-batch : write_batch h f keys line text d x ≡ line_cells h f keys c line text n.major (n.minor + 1) next
  unfolding write_batch line_cells block_cells
  next-batch =
      ap₂ {C = List Cell} (λ (i : ℕ) (b : List ℕ). (x ++ block_cells h p i b) ++ (data_cell f keys line text d ∷ [])) next-minor next-block
      ∙ ap (λ (z : Cell). (x ++ block_cells h p (n.minor + 1) next) ++ (z ∷ [])) next-cell

  -- full, or the batch bs stored and the path renewed by the block b; t tells whether the block is stored
  abbrev stored : Bool → List Cell → List ℕ → Bool → Called
  stored full bs b t =
      let xs = batch_stores bs (renewed_root h keys d p b) in
      cond full (ended (Refused 26 0 0 0) a k c) (storing allowance m xs (Done (length xs) 0) (renew_path keys d p b (cond t 0 1) h))

  by-minor : (full : Bool) → eqb n.minor 127 ≡ full
      → whole ≡ cond full (ended (Refused 26 0 0 0) a k c) (stored_line h f keys line text n.major (n.minor + 1) next allowance m)
  unfolding write_path write_loaded write_stores written_cache
  by-minor full e =
      ap (write_path keys line text allowance m) found.path
      ∙ ap (λ (i : ℕ). let xs = write_stores i f keys line text d x in cond (eqb (line_minor d line) 127) (ended (Refused 26 0 0 0) a k c)
      (storing allowance m xs (Done (length xs) 0) (written_cache i keys line d))) (sym found.deep)
      ∙ ap (λ (t : Bool). stored t (write_batch h f keys line text d x) (new_block d line) (stop_loss d line))
      (ap (λ (i : ℕ). eqb i 127) (minor-found found) ∙ e)
      ∙ ap₂ {C = Called} (λ (bs : List Cell) (b : List ℕ). stored full bs b (stop_loss d line)) next-batch next-block
      ∙ ap (λ (i : ℕ). stored full (line_cells h f keys c line text n.major (n.minor + 1) next) next (eqb (lag i) 0)) next-minor

  -- 26
  pub write-full : n.minor ≡ 127 → {r : Answer} → r ≡ Refused 26 0 0 0 → ended r a k c ≡ whole
  write-full e g = rw g (sym (by-minor true (eq-eqb n.minor 127 e)))

  pub write-stored : (n.minor ≡ 127 → ⊥) → {x : Called} → x ≡ stored_line h f keys line text n.major (n.minor + 1) next allowance m
      → x ≡ whole
  write-stored e g = g ∙ sym (by-minor false (ne_eqb n.minor 127 e))

-- ---- refused, or accepted

module _ (keys : List ℕ) (line : ℕ) (text : List ℕ) (allowance : ℕ) (a k c : List ℕ) where
  pub write-refused : (n : ℕ) → n ≡ access_refusal keys line text (buffers a k c) → (n ≡ 0 → ⊥) → {r : Answer} → r ≡ Refused n 0 0 0
      → ended r a k c ≡ write keys line text allowance (buffers a k c)
  unfolding write_judged
  write-refused zero e p f = absurd (p refl)
  write-refused (suc n) e p f = rw f (ap (λ (i : ℕ). write_judged i keys line text allowance (buffers a k c)) e)

  pub write-accepted : 0 ≡ access_refusal keys line text (buffers a k c)
      → write_path keys line text allowance (buffers a k c) (path_of keys line (buffers a k c))
      ≡ write keys line text allowance (buffers a k c)
  unfolding write_judged
  write-accepted e = ap (λ (i : ℕ). write_judged i keys line text allowance (buffers a k c)) e
