-- How a read of an accepted module ends. Assumes nothing.
use mathlib.Core.Path.{◌≡◌, refl, sym, ap, ap₂, ◌∙◌}
use mathlib.Core.Logic.{◌⊎◌, inl, inr}
use mathlib.Core.Bool.{Bool, true, false, cond, false≢true}
use mathlib.Core.List.{List}
use Prim.Native.Nat.{ℕ, zero, suc, ◌<◌}
use lib.Dec.{eqb}
use lib.ListN.{length}
use borrow.Author.Tests.{eq-eqb, ne_eqb}
use Rattle.memory_map.specs.Map.{lines, page_of}
use Rattle.pad.specs.Pad.{pad, xor_bytes}
use Rattle.side.specs.Side.{side_fits}
use Rattle.answer.specs.declared.Answer.{Answer}
use Rattle.answer.specs.declared.Answer.TheVariants.{Done, Blank, Refused}
use Rattle.control.specs.Control.{family, root}
use Rattle.cache.specs.Cache.{cell_bytes, cell_content}
use Rattle.journal.specs.Journal.{Store}
use Rattle.calls.specs.Path.{differs}
use Rattle.calls.specs.Call.{Module, Called, buffers, ended, storing, path_of, access_refusal}
use Rattle.calls.specs.Read.{Reading, side_ok, line_text, blank_text, ended_read, answered}
use Rattle.calls.specs.Read.{read_loaded, read_path, read_judged, read}
use Rattle.call_laws.specs.Walk.{path_stores, with_path}
use Rattle.call_laws.proofs.Apart.{line-content}
use Rattle.call_laws.proofs.Storing.{storing-array, settled, broken}
use Rattle.path.specs.declared.Line.{Line}
use Rattle.path.proofs.Ready.{Found, fit, major-found, minor-found}

-- whether a line's side bytes are those of a counter in a module of family f, and its text at that counter
abbrev pub side_is : ℕ → List ℕ → List ℕ → ℕ → Line → Bool
side_is f keys a line n = side_fits f keys (cell_bytes a line) line n.major n.minor

-- a test of it, by the family that the control record tells
pub side-told : {h : ℕ} {keys a k c : List ℕ} {line : ℕ} {n : Line} → Found h keys a k c line n → {f : ℕ} {t b : Bool} → f ≡ family k
    → t ≡ side_is f keys a line n → t ≡ b → side_is (family k) keys a line n ≡ b
side-told {h} {keys} {a} {k} {c} {line} {n} found e g q = ap (λ (i : ℕ). side_is i keys a line n) (sym e) ∙ sym g ∙ q

abbrev plain : List ℕ → List ℕ → ℕ → Line → List ℕ
plain keys a line n = xor_bytes (cell_content a line) (pad keys line n.major n.minor)

pub read-differs : (keys : List ℕ) (line allowance : ℕ) (out : List ℕ) (m : Module) {l i : ℕ} → path_of keys line m ≡ differs l i
    → {r : Answer} → r ≡ Refused 24 0 l i
    → ended_read r m.array m.control m.cache out ≡ read_path keys line allowance m out (path_of keys line m)
unfolding read_path
read-differs keys line allowance out m e f = rw f (sym (ap (read_path keys line allowance m out) e))

-- the path is loaded, and n is the line's counter
module _ {h : ℕ} {keys a k c : List ℕ} {line : ℕ} {n : Line} (found : Found h keys a k c line n) (allowance : ℕ) (out : List ℕ) where
  abbrev m : Module
  m = buffers a k c

  abbrev xs : List Store
  xs = path_stores h c (page_of line) (root k)

  abbrev d : List ℕ
  d = with_path h a (page_of line) (suc h) c

  abbrev whole : Reading
  whole = read_path keys line allowance m out (path_of keys line m)

  -- whether its side bytes are those of its counter
  abbrev fits : Bool
  fits = side_is (family k) keys a line n

  side_same : side_ok (family k) keys a d line ≡ fits
  unfolding side_ok
  side_same = ap₂ (λ (x z : ℕ). side_fits (family k) keys (cell_bytes a line) line x z) (major-found found) (minor-found found)

  text_same : line_text keys a d line ≡ plain keys a line n
  unfolding line_text
  text_same =
      ap₂ {C = List ℕ} (λ (x z : ℕ). xor_bytes (cell_content a line) (pad keys line x z)) (major-found found) (minor-found found)

  -- by its tests: blank, then the side bytes
  abbrev tested : Bool → Bool → List ℕ → Reading
  tested b t text =
      cond b (answered allowance m xs (Blank (length xs)) d blank_text out)
      (cond t (answered allowance m xs (Done (length xs) 0) d text out) (ended_read (Refused 25 0 line 0) a k c out))

  by_tests : (b t : Bool) → eqb n.minor 0 ≡ b → fits ≡ t → whole ≡ tested b t (plain keys a line n)
  unfolding read_path read_loaded
  by_tests b t e f =
      ap (read_path keys line allowance m out) found.path
      ∙ ap (λ (x : Bool). tested x (side_ok (family k) keys a d line) (line_text keys a d line))
      (ap (λ (i : ℕ). eqb i 0) (minor-found found) ∙ e)
      ∙ ap₂ {C = Reading} (tested b) (side_same ∙ f) text_same

  -- 25
  pub read-side : (n.minor ≡ 0 → ⊥) → fits ≡ false → {r : Answer} → r ≡ Refused 25 0 line 0 → ended_read r a k c out ≡ whole
  read-side some e f = rw f (sym (by_tests false false (ne_eqb n.minor 0 some) e))

  -- what a read that passes gives
  abbrev answer : Bool → ℕ → Answer
  answer b j = cond b (Blank j) (Done j 0)

  abbrev text : Bool → List ℕ → List ℕ
  text b x = cond b blank_text (plain keys x line n)

  abbrev given : Bool → Reading
  given b = answered allowance m xs (answer b (length xs)) d (text b a) out

  passed : (n.minor ≡ 0) ⊎ (fits ≡ true) → whole ≡ given (eqb n.minor 0)
  passed o = go o (eqb n.minor 0) refl
    where
      go : (n.minor ≡ 0) ⊎ (fits ≡ true) → (b : Bool) → eqb n.minor 0 ≡ b → whole ≡ given b
      go o true e = by_tests true _ e refl
      go (inl z) false e = absurd (false≢true (sym e ∙ eq-eqb n.minor 0 z))
      go (inr f) false e = by_tests false true e f

  -- under the allowance: cut, or the stores made and the output written
  module _ (o : (n.minor ≡ 0) ⊎ (fits ≡ true)) {r : Answer} {a' k' c' : List ℕ} {p : ℕ} (page : p ≡ page_of line)
      (its : ended r a' k' c' ≡ storing allowance m (path_stores h c p (root k)) (Done (length (path_stores h c p (root k))) 0)
      (with_path h a p (suc h) c)) where
    e : ended r a' k' c' ≡ storing allowance m xs (Done (length xs) 0) d
    e =
        its
        ∙ ap (λ (i : ℕ). storing allowance m (path_stores h c i (root k)) (Done (length (path_stores h c i (root k))) 0)
        (with_path h a i (suc h) c)) page

    abbrev z : Bool
    z = eqb n.minor 0

    abbrev read_as : Called → Bool → Reading
    read_as x t = record { called = x; output = cond t out (text z a) }

    pub read-cut : (r ≡ Done (length xs) 0 → ⊥) → ended_read r a' k' c' out ≡ whole
    unfolding answered
    read-cut no· =
        let b = broken allowance m xs (length xs) d r a' k' c' e no· in
        ap₂ {C = Reading} read_as (b.called (answer z (length xs))) (sym b.short) ∙ sym (passed o)

    -- the line's cell is as it was
    cell-kept : line < lines h → cell_content a' line ≡ cell_content a line
    cell-kept q =
        let y = found.ready in
        ap (λ (x : Called). cell_content x.after.array line) e
        ∙ ap (λ (l : List ℕ). cell_content l line) (storing-array allowance m xs (Done (length xs) 0) d)
        ∙ line-content h y.sized.deep y.sized.flat a k c y.sized.array y.control y.array-bytes y.control-bytes (fit y)
        (page_of line) y.page allowance (root k) line q

    pub read_done : {j s : ℕ} → r ≡ Done j s → line < lines h → {q : Answer} {out' : List ℕ} → q ≡ answer z j → out' ≡ text z a'
        → ended_read q a' k' c' out' ≡ whole
    unfolding answered
    read_done {j} {s} f inside u v =
        let b = settled allowance m xs (length xs) d r a' k' c' e j s f in
        ap₂ {C = Reading} (λ (x : Answer) (w : List ℕ). ended_read x a' k' c' w) (u ∙ ap (answer z) b.stores)
        (v ∙ ap (λ (w : List ℕ). cond z blank_text (xor_bytes w (pad keys line n.major n.minor))) (cell-kept inside))
        ∙ ap₂ {C = Reading} read_as (b.called (answer z (length xs))) (sym b.whole) ∙ sym (passed o)

-- ---- refused, or accepted

module _ (keys : List ℕ) (line allowance : ℕ) (out a k c : List ℕ) where
  pub read-refused : (n : ℕ) → n ≡ access_refusal keys line out (buffers a k c) → (n ≡ 0 → ⊥) → {r : Answer} → r ≡ Refused n 0 0 0
      → ended_read r a k c out ≡ read keys line allowance out (buffers a k c)
  unfolding read_judged
  read-refused zero e p f = absurd (p refl)
  read-refused (suc n) e p f = rw f (ap (λ (i : ℕ). read_judged i keys line allowance (buffers a k c) out) e)

  pub read-accepted : 0 ≡ access_refusal keys line out (buffers a k c)
      → read_path keys line allowance (buffers a k c) out (path_of keys line (buffers a k c)) ≡ read keys line allowance out (buffers a k c)
  unfolding read_judged
  read-accepted e = ap (λ (i : ℕ). read_judged i keys line allowance (buffers a k c) out) e
