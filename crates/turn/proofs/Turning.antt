-- How a turn of an accepted module ends. Assumes nothing.
use mathlib.Core.Path.{◌≡◌, refl, sym, ap, ◌∙◌, subst}
use mathlib.Core.Bool.{Bool, true, false, cond}
use mathlib.Core.List.{List}
use Prim.Native.Nat.{ℕ, zero, suc, ◌+◌, ◌-◌, ◌*◌, ◌^◌, ◌≤◌, ◌<◌}
use native.Mathlib.Omega.{arith}
use borrow.Author.Tests.{eq-eqb, ne_eqb}
use lib.Dec.{eqb, lit<}
use lib.ListN.{length}
use Rattle.words.proofs.Digits.{Below}
use Rattle.bits.specs.Bits.{set_bits}
use Rattle.memory_map.specs.Map.{pages}
use Rattle.counter.specs.Counter.{major, minors, written_from}
use Rattle.answer.specs.declared.Answer.{Answer}
use Rattle.answer.specs.declared.Answer.TheVariants.{Refused}
use Rattle.control.specs.Control.{Cell, control_length, family, depth, is_open, turn_mask}
use Rattle.cache.specs.Cache.{formed, current}
use Rattle.std.specs.Prelude.{Option, None, Some}
use Rattle.node.specs.Sized.{Sized}
use Rattle.node.proofs.Laws.{line-room, current-length}
use Rattle.calls.specs.Path.{loaded, differs}
use Rattle.calls.specs.Call.{Module, Called, buffers, ended}
use Rattle.calls.specs.Turn.{turn_refusal, line_at, block_of, turn_places, bad_line, page_path}
use Rattle.calls.specs.Turn.{turn_checked, turn_loaded, turn_path, turn_judged, turn}
use Rattle.call_laws.specs.Walk.{path_cells, with_path}
use Rattle.call_laws.proofs.Judged.{TurnAccepted}
use Rattle.call_laws.proofs.Turn.{line-inside, block_inside}
use Rattle.path.proofs.Ready.{Ready, sized_of, block-loaded}
use Rattle.turn_check.specs.FirstBad.{first_bad}
use Rattle.turn_check.proofs.Laws.{places_same, bad-of}

-- what going on requires
abbrev pub Takes : ℕ → List ℕ → List ℕ → List ℕ → List ℕ → ℕ → Type 0
Takes h keys k a c p =
    (length keys ≡ 48) × ((length k ≡ control_length) × ((h ≡ depth k) × (Sized h a c × ((formed h c ≡ true) × (p < pages h)))))

pub takes : {keys : List ℕ} {p : ℕ} {m : Module} {h : ℕ} → TurnAccepted keys p m → h ≡ depth m.control
    → Takes h keys m.control m.array m.cache p
takes {keys} {p} {m} {h} ok deep =
    let shaped : formed h m.cache ≡ true = ap (λ (k : ℕ). formed k m.cache) deep ∙ ok.shaped in
    let inside : p < pages h = subst (λ (k : ℕ). p < pages k) (sym deep) ok.inside in
    (ok.opening.keys_length, (ok.opening.control_length, (deep, (sized_of ok.opening deep, (shaped, inside)))))

pub page-ready : (keys : List ℕ) {h : ℕ} {k a c : List ℕ} {p : ℕ} → Takes h keys k a c p → Below 256 a → Below 256 k → Below 256 c
    → Ready h a k c p
page-ready keys t array-bytes control-bytes cache-bytes =
    record {
      sized = t.1.1.1.0;
      control = t.1.0;
      shaped = t.1.1.1.1.0;
      page = t.1.1.1.1.1;
      array-bytes = array-bytes;
      control-bytes = control-bytes;
      cache-bytes = cache-bytes;
    }

module _ {h : ℕ} {a k c : List ℕ} {p : ℕ} (y : Ready h a k c p) where
  -- the cells of its lines are in the array
  pub page-room : 72 * (64 * p + 64) ≤ length a
  page-room =
      omega (arith, line-room h a (line_at p 63) y.sized.array (line-inside h p 63 (lit< tt) y.page))

  pub block_size : length (current h a c 0 p) ≡ 64
  block_size = current-length 0 p y.sized (block_inside h p y.page)

  -- its minors, once its path is loaded, and the places still to turn
  minors-loaded : {ms : List ℕ} → ms ≡ minors (current h a c 0 p) → ms ≡ minors (block_of (with_path h a p (suc h) c) p)
  minors-loaded are-minors = are-minors ∙ ap minors (sym (block-loaded y))

  pub turn-places : {ms js : List ℕ} → ms ≡ minors (current h a c 0 p)
      → js ≡ cond (is_open k p) (set_bits (turn_mask k)) (written_from 0 ms) → js ≡ turn_places k (with_path h a p (suc h) c) p
  turn-places are-minors e = places_same k (with_path h a p (suc h) c) p (minors-loaded are-minors) e

module _ (keys : List ℕ) (p allowance : ℕ) (m : Module) where
  pub turn-differs : {l i : ℕ} → page_path keys p m ≡ differs l i → {r : Answer} → r ≡ Refused 24 0 l i
      → ended r m.array m.control m.cache ≡ turn_path keys p allowance m (page_path keys p m)
  unfolding turn_path
  turn-differs e f = rw f (sym (ap (turn_path keys p allowance m) e))

  pub turn-loads : {c : List ℕ} {x : List Cell} → page_path keys p m ≡ loaded c x
      → turn_loaded keys p allowance m c x ≡ turn_path keys p allowance m (page_path keys p m)
  unfolding turn_path
  turn-loads e = sym (ap (turn_path keys p allowance m) e)

  -- refused, or accepted
  pub turn-refused : (n : ℕ) → n ≡ turn_refusal keys p m → (n ≡ 0 → ⊥) → {r : Answer} → r ≡ Refused n 0 0 0
      → ended r m.array m.control m.cache ≡ turn keys p allowance m
  unfolding turn_judged
  turn-refused zero e q f = absurd (q refl)
  turn-refused (suc n) e q f = rw f (ap (λ (i : ℕ). turn_judged i keys p allowance m) e)

  pub turn-judged : 0 ≡ turn_refusal keys p m → turn_path keys p allowance m (page_path keys p m) ≡ turn keys p allowance m
  unfolding turn_judged
  turn-judged e = ap (λ (i : ℕ). turn_judged i keys p allowance m) e

-- the path is loaded, and ma is the page's major
module _ {h : ℕ} {a k c : List ℕ} {p : ℕ} (y : Ready h a k c p) (keys : List ℕ) (allowance : ℕ) {ma : ℕ}
    (is-major : ma ≡ major (current h a c 0 p)) where
  abbrev m : Module
  m = buffers a k c

  abbrev d : List ℕ
  d = with_path h a p (suc h) c

  abbrev whole : Called
  whole = turn_loaded keys p allowance m d (path_cells h c p (suc h))

  major-same : ma ≡ major (block_of d p)
  major-same = is-major ∙ ap major (sym (block-loaded y))

  abbrev checked : Option ℕ → Called
  checked f = turn_checked keys p allowance m d (path_cells h c p (suc h)) f

  by-major : (b : Bool) → eqb ma (2 ^ 64 - 1) ≡ b
      → whole ≡ cond b (ended (Refused 31 0 0 0) a k c) (checked (bad_line (family k) keys a d p (turn_places k d p)))
  unfolding turn_loaded
  by-major b e =
      ap (λ (t : Bool). cond t (ended (Refused 31 0 0 0) a k c) (checked (bad_line (family k) keys a d p (turn_places k d p))))
      (ap (λ (i : ℕ). eqb i (2 ^ 64 - 1)) (sym major-same) ∙ e)

  -- 31
  pub turn-full : ma ≡ 2 ^ 64 - 1 → {r : Answer} → r ≡ Refused 31 0 0 0 → ended r a k c ≡ whole
  turn-full e f = rw f (sym (by-major true (eq-eqb ma (2 ^ 64 - 1) e)))

  -- ms are the page's minors, the places still to turn are the mask's, fam is the family, and f is the first line that does not fit
  module _ (more : ma ≡ 2 ^ 64 - 1 → ⊥) {ms : List ℕ} (are-minors : ms ≡ minors (current h a c 0 p)) (mask : ℕ)
      (at : set_bits mask ≡ cond (is_open k p) (set_bits (turn_mask k)) (written_from 0 ms)) {fam : ℕ} (is-family : fam ≡ family k) {f : Option ℕ}
      (searched : f ≡ first_bad fam keys a p ma ms (set_bits mask)) where
    by-line : checked f ≡ whole
    by-line =
        ap checked
        (searched ∙ ap (λ (i : ℕ). first_bad i keys a p ma ms (set_bits mask)) is-family
        ∙ bad-of (family k) keys a d p major-same (minors-loaded y are-minors) k mask (turn-places y are-minors at))
        ∙ sym (by-major false (ne_eqb ma (2 ^ 64 - 1) more))

    -- 25
    pub turn-bad : {n : ℕ} → f ≡ Some n → {r : Answer} → r ≡ Refused 25 0 n 0 → ended r a k c ≡ whole
    unfolding turn_checked
    turn-bad e g = rw g (sym (ap checked e) ∙ by-line)

    pub turn-stored : f ≡ None → checked None ≡ whole
    turn-stored e = sym (ap checked e) ∙ by-line
