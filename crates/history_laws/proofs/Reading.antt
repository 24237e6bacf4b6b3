-- A call on a line of a module that is ready: its path loads, its counter is the book's count, and a read gives the book's text.
-- Assumes nothing.
use mathlib.Core.Path.{◌≡◌, ap, ◌∙◌, subst}
use mathlib.Core.Bool.{Bool, false, cond}
use mathlib.Core.List.{List}
use mathlib.Core.Option.{Option, none, some}
use Prim.Native.Nat.{ℕ, ◌<◌}
use native.Mathlib.Omega.{arith}
use borrow.Author.Tests.{eq-eqb, ne_eqb}
use lib.ListN.{length}
use Rattle.memory_map.proofs.Laws.{page-inside}
use Rattle.memory_map.specs.Map.{page_of, lines}
use Rattle.counter.specs.Counter.{major}
use Rattle.answer.specs.declared.Answer.TheVariants.{Done, Blank}
use Rattle.control.specs.Control.{family, root, count}
use Rattle.journal.specs.Journal.{Store, batch_stores}
use Rattle.journal.proofs.Again.{put-cells}
use Rattle.calls.specs.Call.{Module, media_of, refuse, access_refusal}
use Rattle.calls.specs.Read.{Reading, blank_text, side_ok, line_text, page_block, line_minor}
use Rattle.calls.specs.Read.{answered, read_loaded, read_path, read_judged, read, refused_read}
use Rattle.history_laws.specs.History.{Book}
use Rattle.history_laws.proofs.Setting.{Setting, Tree, tree_of, Opening, is_done}
use Rattle.history_laws.proofs.Opening.{sealed-tree}
use Rattle.history_laws.proofs.Walked.{Walked}
use Rattle.history_laws.proofs.Data.{side-ok, text-is}
use Rattle.history_laws.proofs.Written.{AtLine, minor_is as minor-held, major_is as major-held}
use Rattle.history_laws.proofs.State.{RowOk, Settled, Ready}
use Rattle.history_laws.proofs.Page.{Paged, settled, whole, walk as page-walk, path-is, reached as page-reached}

-- a line of a module that is ready, and not of those that an unfinished turn has turned
pub record Access (S : Setting) (b : Book) (o : Opening) (m : Module) (n : ℕ) : Type 0 where
  pub ready : Ready S b o m
  pub inside : n < lines S.h
  pub not-turned : is_done o n ≡ false

module _ {S : Setting} {b : Book} {o : Opening} {m : Module} {n : ℕ} (w : Access S b o m n) where
  open S use {keys, h}
  open w use {ready, inside}

  pub paged : Paged S b o m (page_of n)
  paged = record { ready = ready; page = page-inside h n inside }

  abbrev pub was : Settled S b o (media_of m)
  was = settled paged

  abbrev pub walk : Walked (tree_of b) o (whole paged) (page_of n) paged.page m.cache
  walk = page-walk paged

  pub reached : AtLine S (tree_of b) o (put-cells m.array walk.cells) walk.cache n
  reached = record { path = page-reached paged; inside = inside }

  pub minor_is : line_minor walk.cache n ≡ b.count n
  minor_is = minor-held reached

  pub major_is : major (page_block walk.cache n) ≡ b.turns (page_of n)
  major_is = major-held reached

  abbrev pub stores : List Store
  stores = batch_stores walk.cells (root m.control)

  -- ---- the text

  row_is : RowOk S (tree_of b) n (b.text n) m.array
  row_is =
      subst (λ (T : Tree). RowOk S T n (b.text n) m.array) (sealed-tree o (tree_of b) n w.not-turned) (was.keeps.rows n inside)

  -- ---- what a read answers

  module _ (out : List ℕ) (open-now : access_refusal keys n out m ≡ 0) (allowance : ℕ) where
    opened : read keys n allowance out m ≡ read_loaded keys n allowance m out walk.cache walk.cells
    unfolding read_judged read_path
    opened = ap (λ (k : ℕ). read_judged k keys n allowance m out) open-now ∙ ap (read_path keys n allowance m out) (path-is paged)

    chosen : Bool → Bool → Reading
    chosen x y =
        cond x (answered allowance m stores (Blank (length stores)) walk.cache blank_text out)
        (cond y (answered allowance m stores (Done (length stores) 0) walk.cache (line_text keys m.array walk.cache n) out)
        (refused_read (refuse m 25 n 0) out))

    pub reads-blank : b.text n ≡ none
        → read keys n allowance out m ≡ answered allowance m stores (Blank (length stores)) walk.cache blank_text out
    unfolding read_loaded chosen RowOk
    reads-blank e =
        let none_yet : b.count n ≡ 0 = (subst (λ (x : Option (List ℕ)). RowOk S (tree_of b) n x m.array) e row_is).0 in
        opened ∙ ap (λ (x : Bool). chosen x (side_ok (family m.control) keys m.array walk.cache n))
        (eq-eqb (line_minor walk.cache n) 0 (minor_is ∙ none_yet))

    pub reads-text : (t : List ℕ) → b.text n ≡ some t
        → read keys n allowance out m ≡ answered allowance m stores (Done (length stores) 0) walk.cache t out
    unfolding read_loaded chosen RowOk
    reads-text t e =
        let row = subst (λ (x : Option (List ℕ)). RowOk S (tree_of b) n x m.array) e row_is in
        opened
        ∙ ap (λ (x : Bool). chosen x (side_ok (family m.control) keys m.array walk.cache n))
        (ne_eqb (line_minor walk.cache n) 0 (λ z. omega (arith, minor_is, row.0, z)))
        ∙ ap (chosen false) (ap (λ (f : ℕ). side_ok f keys m.array walk.cache n) was.alike
        ∙ side-ok S (tree_of b) n m.array t row.1 row.3 walk.cache major_is minor_is)
        ∙ ap (λ (l : List ℕ). answered allowance m stores (Done (length stores) 0) walk.cache l out)
        (text-is S (tree_of b) n m.array t row.1 row.3 walk.cache major_is minor_is)
