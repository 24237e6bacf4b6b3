-- A read or a write on a module that is ready: what it answers and leaves, for every allowance. Assumes nothing.
use mathlib.Core.Path.{◌≡◌, refl, sym, ap, ap₂, ◌∙◌, subst, subst₂}
use mathlib.Core.Logic.{◌⊎◌, inl, inr}
use mathlib.Core.Bool.{Bool, true, cond}
use mathlib.Core.List.{List, [], ◌∷◌, ◌++◌}
use mathlib.Core.Option.{Option, some}
use Prim.Native.Nat.{ℕ, suc, ◌+◌, ◌*◌, ◌≤◌, ◌<◌}
use native.Mathlib.Omega.{arith}
use borrow.Author.Tests.{ne_eqb}
use lib.Dec.{eqb}
use lib.ListN.{length, length-append}
use Rattle.words.specs.Bytes.{put}
use Rattle.words.proofs.Digits.{Below}
use Rattle.words.proofs.Order.{lt-or-ge, eq-or-not}
use Rattle.words.proofs.Words.{part-lt}
use Rattle.memory_map.specs.Map.{page_of, lines}
use Rattle.counter.specs.Counter.{lag}
use Rattle.pad.specs.Pad.{pad, xor_bytes}
use Rattle.answer.specs.declared.Answer.{Answer}
use Rattle.answer.specs.declared.Answer.TheVariants.{Done}
use Rattle.control.specs.Control.{Cell, root}
use Rattle.control.proofs.Laws.{root-at}
use Rattle.journal.specs.Journal.{Store, Media, store_all, batch_stores}
use Rattle.journal.proofs.Each.{Each}
use Rattle.journal.proofs.Laws.{batch-empty, made_all, store-none}
use Rattle.journal.proofs.Again.{put-cells, put-cells-append}
use Rattle.side.specs.Side.{side_bytes}
use Rattle.calls.specs.Call.{Module, Called, media_of, with_media, storing, refuse, access_refusal}
use Rattle.calls.specs.Read.{line_minor}
use Rattle.calls.specs.Write.{new_block, stop_loss, line_cell, data_cell, write_batch, write_stores}
use Rattle.calls.specs.Write.{written_cache, write_loaded, write_path, write_judged, write}
use Rattle.calls.specs.Path.{node_cell, renew_path, renewed_root}
use Rattle.history_laws.specs.History.{Book, entered}
use Rattle.call_laws.proofs.Judged.{access-accepted}
use Rattle.call_laws.proofs.Kept.{Given, batch-sound, batch-bound}
use Rattle.call_laws.proofs.Loads.{Sound}
use Rattle.history_laws.proofs.Setting.{Setting, Tree, tree_of, raised, tree_node, tree_root, Opening, sealed}
use Rattle.history_laws.proofs.Tree.{tree-tag, changed-same, changed-other, raised-same, raised-other}
use Rattle.history_laws.proofs.Opening.{section-open, sealed-alike}
use Rattle.history_laws.proofs.Stores.{line-cell}
use Rattle.history_laws.proofs.Live.{Live}
use Rattle.history_laws.proofs.Written.{new-block, new-root, Entry, own-counter}
use Rattle.history_laws.proofs.Written.{written, row_kept, row_written, live_written}
use Rattle.history_laws.proofs.Data.{data_bytes}
use Rattle.history_laws.proofs.State.{RowOk, row_moved, row-some, Settled, Holds, settled-holds, all-bytes}
use Rattle.history_laws.proofs.Batch.{Payload, plain-batch}
use Rattle.history_laws.proofs.Outcome.{no-elements, Outcome, done, cases, outcome, one_batch}
use Rattle.history_laws.proofs.Page.{path-is, loads, keeps}
use Rattle.history_laws.proofs.Reading.{Access, was, paged, walk, reached, minor_is, major_is}

module _ {S : Setting} {b : Book} {o : Opening} {m : Module} {n : ℕ} (w : Access S b o m n) where
  open S use {keys, keyed, h}
  open w use {ready, inside}

  abbrev held : Holds S b o m
  held = ready.holds

  abbrev x : List Cell
  x = (walk w).cells

  abbrev c : List ℕ
  c = (walk w).cache

  abbrev s : Settled S b o (media_of m)
  s = was w

  abbrev v : Live S (tree_of b) o (put-cells m.array x) c
  v = (walk w).live

  -- ---- a read

  module _ (answer : Answer) (allowance : ℕ) where
    abbrev r : ℕ
    r = root m.control

    abbrev ReadEnds : Called → Type 0
    ReadEnds = Outcome S b b (length x) answer

    nothing : x ≡ [] → ReadEnds (storing allowance m (batch_stores x r) answer c)
    unfolding put-cells
    nothing e =
        let none-stored : batch_stores x r ≡ [] = ap (λ (y : List Cell). batch_stores y r) e ∙ batch-empty r in
        cases ReadEnds allowance m (batch_stores x r) answer c (λ p. absurd (omega (arith, p, ap (length {A = Store}) none-stored, empty)))
        (λ p. subst (λ (d : Media). ReadEnds (record { answer = answer; after = with_media d c }))
        (sym (ap (store_all (media_of m)) (made_all allowance (batch_stores x r) p ∙ none-stored) ∙ store-none (media_of m)))
        (done refl (record {
          holds = settled-holds c v.fit.sized v.fit.bytes s;
          idle = ready.idle;
          live = subst (λ (a : List ℕ). Live S (tree_of b) o a c) (ap (put-cells m.array) e) v;
        })))
      where
        empty : length {A = Store} [] ≡ 0
        empty = refl

    path-payload : 0 < length x → Payload S b o m.array x r
    path-payload p =
        record {
          sound = (loads (paged w)).sound;
          few = omega (arith, (loads (paged w)).few, S.high);
          filled = p;
          word = omega (arith, root-at m.control, part-lt 8 m.control 7 held.formed.control-bytes);
          keeps = keeps (paged w);
          top = s.top;
        }

    pub read-outcome : ReadEnds (storing allowance m (batch_stores x r) answer c)
    read-outcome = go (lt-or-ge 0 (length x))
      where
        go : (0 < length x) ⊎ (length x ≤ 0) → ReadEnds (storing allowance m (batch_stores x r) answer c)
        go (inl p) = outcome (one_batch (plain-batch held ready.idle (path-payload p)) v) answer allowance
        go (inr p) = nothing (no-elements x p)

  -- ---- a write

  -- a text that may be written there
  pub record Writable (text : List ℕ) : Type 0 where
    pub room : b.count n < 127
    pub full : length text ≡ 64
    pub plain : Below 256 text
    pub open-now : access_refusal keys n text m ≡ 0

  module _ {text : List ℕ} (t : Writable text) where
    abbrev booked : Book
    booked = entered true n text b

    abbrev U : Tree
    U = raised (tree_of b) n

    abbrev stop : Bool
    stop = stop_loss c n

    entry : Entry (reached w) text stop
    entry =
        record {
          not-open = sym (section-open s.section (page_of n)) ∙ (access-accepted keys n text m t.open-now).closed;
          room = t.room;
          full = t.full;
          when = ap (λ (k : ℕ). eqb (lag (suc k)) 0) (minor_is w);
        }

    data_is : data_cell S.family keys n text c ≡ record { number = n; bytes = data_bytes S U n text }
    unfolding line_cell data_bytes
    data_is =
        ap₂ {C = Cell} (λ (ma mi : ℕ). record {
          number = n;
          bytes = xor_bytes text (pad keys n ma mi) ++ side_bytes S.family keys (xor_bytes text (pad keys n ma mi)) n ma mi;
        }) (major_is w) (ap suc (minor_is w) ∙ sym (raised-same (tree_of b) n))

    abbrev pub cells : List Cell
    cells = write_batch h S.family keys n text c x

    abbrev block_cell : List ℕ → List Cell
    block_cell l = cond stop (node_cell h 0 (page_of n) l ∷ []) []

    array-is : put-cells m.array cells ≡ written (reached w) entry
    unfolding write_batch put-cells
    array-is =
        put-cells-append m.array (x ++ block_cell (new_block c n)) (data_cell S.family keys n text c ∷ [])
        ∙ ap (λ (a : List ℕ). put-cells a (data_cell S.family keys n text c ∷ []))
        (put-cells-append m.array x (block_cell (new_block c n)))
        ∙ ap₂ (λ (l : List ℕ) (d : Cell). put-cells (put-cells (put-cells m.array x) (block_cell l)) (d ∷ []))
        (new-block (reached w)) data_is
        ∙ ap (λ (k : ℕ). put (put-cells (put-cells m.array x) (block_cell (tree_node S U 0 (page_of n)))) (72 * k) (data_bytes S U n text))
        (sym (line-cell h n))

    rows_new : (i : ℕ) → i < lines h → RowOk S (sealed o U i) i (booked.text i) (put-cells m.array cells)
    unfolding entered
    rows_new i q = subst (RowOk S (sealed o U i) i (booked.text i)) (sym array-is) (go (eq-or-not i n))
      where
        new : List ℕ
        new = written (reached w) entry

        own : RowOk S (sealed o U n) n (booked.text n) new
        own =
            subst₂ (λ (W : Tree) (y : Option (List ℕ)). RowOk S W n y new) (sym (own-counter (reached w) entry))
            (sym (changed-same b.text n (some text)))
            (row-some S U n new text (omega (arith, raised-same (tree_of b) n)) t.full t.plain (row_written (reached w) entry))

        go : (i ≡ n) ⊎ (i ≡ n → ⊥) → RowOk S (sealed o U i) i (booked.text i) new
        go (inl z) = subst (λ (k : ℕ). RowOk S (sealed o U k) k (booked.text k) new) (sym z) own
        go (inr z) =
            subst (λ (y : Option (List ℕ)). RowOk S (sealed o U i) i y new) (sym (changed-other b.text n (some text) i z))
            (row_moved S (sealed-alike o (tree_of b) U i refl (raised-other (tree_of b) n i z)) _ _ (b.text i)
            (row_kept (reached w) entry i q z) ((keeps (paged w)).rows i q))

    abbrev pub root-new : ℕ
    root-new = renewed_root h keys c (page_of n) (new_block c n)

    root_is : root-new ≡ tree_root S U
    root_is = new-root (reached w)

    given : Given keys n text m
    given = record { bytes = all-bytes held; plain = t.plain; ok = access-accepted keys n text m t.open-now }

    sound-new : Each (Sound h) cells
    sound-new =
        subst (λ (d : ℕ). Each (Sound d) (write_batch d S.family keys n text c x)) held.deep
        (batch-sound given c S.family x (subst (λ (d : ℕ). Each (Sound d) x) (sym held.deep) (loads (paged w)).sound))

    pub few-new : length cells ≤ 8
    few-new =
        let bound : length cells ≤ 2 * h + 2 =
        subst (λ (d : ℕ). length (write_batch d S.family keys n text c x) ≤ 2 * d + 2) held.deep
        (batch-bound given c S.family x (omega (arith, held.deep, (loads (paged w)).few))) in
        omega (arith, S.high, bound)

    pub some-new : 0 < length cells
    unfolding write_batch
    some-new = omega (arith, length-append (x ++ block_cell (new_block c n)) (data_cell S.family keys n text c ∷ []))

    abbrev pub cache-new : List ℕ
    cache-new = renew_path keys c (page_of n) (tree_node S U 0 (page_of n)) (cond stop 0 1) h

    live-new : Live S U o (put-cells m.array cells) cache-new
    live-new = subst (λ (a : List ℕ). Live S U o a cache-new) (sym array-is) (live_written (reached w) entry)

    write-payload : Payload S booked o m.array cells root-new
    unfolding entered
    write-payload =
        record {
          sound = sound-new;
          few = few-new;
          filled = some-new;
          word = omega (arith, root_is, tree-tag S U h 0);
          keeps = record { durable = live-new.durable; rows = rows_new };
          top = root_is;
        }

    pub write-outcome : (answer : Answer) (allowance : ℕ)
        → Outcome S b (entered true n text b) (length cells) answer (storing allowance m (batch_stores cells root-new) answer cache-new)
    unfolding entered
    write-outcome answer allowance = outcome (one_batch (plain-batch held ready.idle write-payload) live-new) answer allowance

    pub write-is : (allowance : ℕ)
        → write keys n text allowance m
        ≡ storing allowance m (batch_stores cells root-new) (Done (length (batch_stores cells root-new)) 0) cache-new
    unfolding write_judged write_path write_loaded write_stores written_cache
    write-is allowance =
        ap (λ (k : ℕ). write_judged k keys n text allowance m) t.open-now ∙ ap (write_path keys n text allowance m) (path-is (paged w))
        ∙ ap₂ {C = Called} (λ (d f : ℕ). cond (eqb (line_minor c n) 127) (refuse m 26 0 0) (stores_at d f)) held.deep s.alike
        ∙ ap (λ (y : Bool). cond y (refuse m 26 0 0) (stores_at h S.family))
        (ne_eqb (line_minor c n) 127 (λ z. omega (arith, minor_is w, z, t.room)))
        ∙ ap (λ (l : List ℕ). storing allowance m (batch_stores cells root-new) (Done (length (batch_stores cells root-new)) 0)
        (renew_path keys c (page_of n) l (cond stop 0 1) h)) (new-block (reached w))
      where
        stores_at : ℕ → ℕ → Called
        stores_at d f =
            let xs = write_stores d f keys n text c x in storing allowance m xs (Done (length xs) 0) (written_cache d keys n c)
