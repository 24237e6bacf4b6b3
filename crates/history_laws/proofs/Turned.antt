-- The call that turns a page, on a module that is ready: the state that its first batch starts from, and how it ends. Assumes nothing.
use mathlib.Core.Path.{◌≡◌, refl, sym, ap, ap₂, ◌∙◌, subst, subst₂}
use mathlib.Core.Bool.{Bool, true, false, ◌&&◌, ◌||◌, not, cond, false≢true, and-false, and-eq-true_iff}
use mathlib.Core.List.{List, [], ◌∷◌, ◌++◌, append-nil}
use Prim.Native.Nat.{ℕ, ◌+◌, ◌-◌, ◌*◌, ◌^◌, ◌≤◌, ◌<◌, zero-le}
use native.Mathlib.Omega.{arith}
use borrow.Author.Tests.{eq-eqb, eqb-true, eqb-false, le-leb, lt-leb, not-true, not-false}
use lib.Dec.{eqb, leb}
use lib.ListN.{length, length-append}
use Rattle.words.proofs.Digits.{Below}
use Rattle.bits.specs.Bits.{set_bits}
use Rattle.counter.specs.Counter.{major, written}
use Rattle.answer.specs.declared.Answer.TheVariants.{Done}
use Rattle.control.specs.Control.{Cell, family, root, turn_mask, is_open, other_open}
use Rattle.std.specs.Prelude.{Option, None, Some}
use Rattle.journal.proofs.Each.{Each, none, more, each_append}
use Rattle.journal.proofs.Again.{put-cells, put-cells-append}
use Rattle.calls.specs.Path.{node_cell, renew_path}
use Rattle.calls.specs.Call.{Module, Called, refuse, storing}
use Rattle.calls.specs.Read.{line_minor, side_ok}
use Rattle.calls.specs.Turn.{Batch, turn_refusal, line_at, block_of, turn_places, bad_line, batches_of, turn_front, turn_batches, stores_for}
use Rattle.calls.specs.Turn.{turned_cache, turn_checked, turn_loaded, turn_path, turn_judged, turn, page_path, before_last, before_finished}
use Rattle.history_laws.specs.History.{Book, turn_entered}
use Rattle.call_laws.proofs.Judged.{turn-accepted}
use Rattle.call_laws.proofs.Loads.{Sound, sound-node}
use Rattle.call_laws.proofs.Turn.{Proper, block_inside, line-page, line-place, batches-proper, places-climb}
use Rattle.history_laws.proofs.Setting.{Setting, Tree, tree_of, tree_node, node_in}
use Rattle.history_laws.proofs.Setting.{Opening, closed, turning, among, opens, Says, Section}
use Rattle.history_laws.proofs.Tree.{tree-length, tree-bytes}
use Rattle.history_laws.proofs.Opening.{section-open, Still, still-turning, still-closed, among-climbs}
use Rattle.history_laws.proofs.Stores.{page-in, with-node, node-same, node_lines, node-durable}
use Rattle.history_laws.proofs.Live.{Live, live-node}
use Rattle.history_laws.proofs.Reached.{block-is, major-at}
use Rattle.history_laws.proofs.State.{row_moved, Keeps}
use Rattle.history_laws.proofs.Outcome.{Outcome, outcome}
use Rattle.history_laws.proofs.Page.{Paged, settled, whole, walk, path-is, loads, reached, keeps}
use Rattle.history_laws.proofs.Turn.{c, Fresh, fresh, batches, new-block, cache-new, Stage, course}

-- ---- the lines that may be turned

is_nothing : Option ℕ → Bool
is_nothing None = true
is_nothing (Some n) = false

-- where none is bad, each has a minor
line-written : (f : ℕ) (keys a c : List ℕ) (p : ℕ) (js : List ℕ) → bad_line f keys a c p js ≡ None → (j : ℕ) → among j js ≡ true
    → line_minor c (line_at p j) ≡ 0 → ⊥
unfolding bad_line among is_nothing
line-written f keys a c p [] e j m z = false≢true m
line-written f keys a c p (k ∷ ks) e j m z =
    go (not (eqb (line_minor c (line_at p k)) 0) && side_ok f keys a c (line_at p k)) refl e (eqb j k) refl
    (λ e m. line-written f keys a c p ks e j m z) m
  where
    go : (t : Bool) → (not (eqb (line_minor c (line_at p k)) 0) && side_ok f keys a c (line_at p k)) ≡ t
        → cond t (bad_line f keys a c p ks) (Some (line_at p k)) ≡ None → (s : Bool) → eqb j k ≡ s
        → (bad_line f keys a c p ks ≡ None → among j ks ≡ true → ⊥) → (s || among j ks) ≡ true → ⊥
    go false t e s q later m = false≢true (ap is_nothing e)
    go true t e true q later m =
        let both = (and-eq-true_iff (not (eqb (line_minor c (line_at p k)) 0)) (side_ok f keys a c (line_at p k))).0 t in
        eqb-false (line_minor c (line_at p k)) 0 (not-true _ both.0) (ap (λ (i : ℕ). line_minor c (line_at p i)) (sym (eqb-true j k q)) ∙ z)
    go true t e false q later m = later e m

module _ {S : Setting} {b : Book} {o : Opening} {m : Module} {p : ℕ} (w : Paged S b o m p) where
  open S use {keys, h}
  open w use {ready, page}

  abbrev T : Tree
  T = tree_of b

  abbrev k : List ℕ
  k = m.control

  abbrev x : List Cell
  x = (walk w).cells

  -- ---- the cells that come first

  -- the path's, and the block as it is where y says so
  abbrev front : Bool → List Cell
  front y = x ++ cond y (node_cell h 0 p (block_of (c w) p) ∷ []) []

  record Fronted (y : Bool) : Type 0 where
    keeps : Keeps S b o (put-cells m.array (front y))
    live : Live S T o (put-cells m.array (front y)) (c w)
    block : y ≡ true → node_in S (put-cells m.array (front y)) 0 p ≡ tree_node S T 0 p
    sound : Each (Sound h) (front y)
    few : length (front y) ≤ 2 * h + cond y 1 0

  fronted : (y : Bool) → Fronted y
  unfolding put-cells
  fronted false =
      let same : x ≡ front false = sym (append-nil x) in
      let array = ap (put-cells m.array) same in
      record {
        keeps = subst (Keeps S b o) array (keeps w);
        live = subst (λ (a : List ℕ). Live S T o a (c w)) array (walk w).live;
        block = λ e. absurd (false≢true e);
        sound = subst (Each (Sound h)) same (loads w).sound;
        few = omega (arith, (loads w).few, ap length same);
      }
  fronted true =
      let before = put-cells m.array x in
      let d = (walk w).live.durable in
      let Node-in = page-in h p page in
      let is = block-is (reached w) in
      let array : with-node d 0 p zero-le Node-in ≡ put-cells m.array (front true) =
      sym (put-cells-append m.array x (node_cell h 0 p (block_of (c w) p) ∷ [])
      ∙ ap (λ (l : List ℕ). put-cells before (node_cell h 0 p l ∷ [])) is) in
      record {
        keeps = subst (Keeps S b o) array (record {
          durable = node-durable d 0 p zero-le Node-in;
          rows = λ n q. row_moved S (record { count = refl; major = λ z. refl }) _ _ (b.text n) (node_lines d 0 p zero-le Node-in n q)
              ((keeps w).rows n q);
        });
        live = subst (λ (a : List ℕ). Live S T o a (c w)) array (live-node (walk w).live 0 p zero-le Node-in);
        block = λ e. subst (λ (a : List ℕ). node_in S a 0 p ≡ tree_node S T 0 p) array (node-same d 0 p zero-le Node-in);
        sound = each_append (loads w).sound
            (more (sound-node h 0 p (block_of (c w) p) (block_inside h p page) (ap length is ∙ tree-length S T 0 p)
            (subst (Below 256) (sym is) (tree-bytes S T 0 p))) none);
        few = omega (arith, length-append x (node_cell h 0 p (block_of (c w) p) ∷ []), (loads w).few);
      }

  -- ---- the places to turn

  abbrev places : List ℕ
  places = turn_places k (c w) p

  -- where no other page is open
  module _ (own : other_open k p ≡ false) where
    still : Still T o p places
    unfolding turn_places other_open opens Says
    still = go o (settled w).section
      where
        chosen : Bool → List ℕ
        chosen y = cond y (set_bits (turn_mask k)) (written (block_of (c w) p))

        go : (v : Opening) → Section v k → Still T v p (chosen (is_open k p))
        go closed s =
            subst (Still T closed p) (sym (ap chosen (section-open s p) ∙ ap written (block-is (reached w))))
            (still-closed S (walk w).live.durable.small p)
        go (turning q js) s =
            let same : q ≡ p = eqb-true q p (not-false (eqb q p)
            (sym (ap₂ (λ (n i : ℕ). eqb n 1 && not (eqb i p)) s.says.0 s.says.1) ∙ own)) in
            subst (λ (i : ℕ). Still T (turning i js) p (chosen (is_open k p))) (sym same)
            (subst (Still T (turning p js) p)
            (sym (ap chosen (section-open s p ∙ eq-eqb q p same) ∙ s.says.2)) (still-turning T p js))

    -- the block joins the first batch
    abbrev joins : Bool
    joins = not (is_open k p) && leb 2 (length places)

    f : Fronted joins
    f = fronted joins

    stage : Stage w m o (front joins) places
    stage =
        record {
          held = ready.holds;
          idle = ready.idle;
          keeps = f.keeps;
          live = f.live;
          still = still;
          climb = (places-climb k (c w) p);
          block = λ q. at q (is_open k p) refl;
        }
      where
        at : 2 ≤ length places → (y : Bool) → is_open k p ≡ y → node_in S (put-cells m.array (front joins)) 0 p ≡ tree_node S T 0 p
        at q true e = f.keeps.durable.open_block p page (sym (section-open (settled w).section p) ∙ e)
        at q false e = f.block (ap₂ (λ (s t : Bool). not s && t) e (le-leb 2 (length places) q))

    proper : Each (Proper h) (batches w (front joins) places)
    proper =
        batches-proper h S.family keys m.array (c w) p (root k) page (whole w).whole (whole w).plain (front joins) places
        (places-climb k (c w) p)
        f.sound (omega (arith, f.few, one joins)) (λ q. omega (arith, f.few, ap {B = ℕ} (λ (y : Bool). cond y 1 0) (never q)))
      where
        one : (y : Bool) → cond y 1 0 ≤ 1
        one true = omega arith
        one false = omega arith

        never : length places < 2 → joins ≡ false
        never q = ap (λ (y : Bool). not (is_open k p) && y) (lt-leb 2 (length places) q) ∙ and-false (not (is_open k p))

    -- ---- how it ends

    abbrev bs : List Batch
    bs = batches w (front joins) places

    abbrev size : ℕ
    size = length (stores_for bs)

    stores-end : major (block_of (c w) p) < 2 ^ 64 - 1 → bad_line (family k) keys m.array (c w) p places ≡ None → (allowance : ℕ)
        → Outcome S b (turn_entered true p b) (before_last bs) (Done size 0) (storing allowance m (stores_for bs) (Done size 0) (cache-new w))
    stores-end room good allowance =
        outcome (course w (omega (arith, room, major-at (reached w))) places (front joins) stage lines proper) _ allowance
      where
        lines : (j : ℕ) → among j places ≡ true → Fresh w j
        lines j e =
            let place = among-climbs j (places-climb k (c w) p) e in
            fresh w j place
            (still.yet (line_at p j) (line-page h p j place) (ap (λ (i : ℕ). among i places) (line-place h p j place) ∙ e))
            (line-written (family k) keys m.array (c w) p places good j e)

    -- the stores and the cache of the call
    done-is : (allowance : ℕ)
        → turn_checked keys p allowance m (c w) x None ≡ storing allowance m (stores_for bs) (Done size 0) (cache-new w)
    unfolding turn_checked turn_batches turn_front turned_cache
    done-is allowance =
        ap₂ {C = Called} (λ (d i : ℕ). stored d i) ready.holds.deep (settled w).alike
        ∙ ap (λ (l : List ℕ). storing allowance m (stores_for bs) (Done size 0) (renew_path keys (c w) p l 0 h)) (new-block w)
      where
        stored : ℕ → ℕ → Called
        stored d i =
            let xs = stores_for (batches_of d i keys m.array (c w) p (root k) (turn_front d k (c w) p x) places) in
            storing allowance m xs (Done (length xs) 0) (turned_cache d keys (c w) p)

    before-is : before_finished keys p m (page_path keys p m) ≡ before_last bs
    unfolding before_finished turn_batches turn_front
    before-is =
        ap (before_finished keys p m) (path-is w)
        ∙ ap₂ {C = ℕ} (λ (d i : ℕ). before_last (batches_of d i keys m.array (c w) p (root k) (turn_front d k (c w) p x) places))
        ready.holds.deep (settled w).alike

  -- refused, with the module as it was, or as far as its stores went
  pub data Turns (out : Called) : Type 0 where
    refused : (n i j : ℕ) → out ≡ refuse m n i j → Turns out
    went : (n : ℕ) → Outcome S b (turn_entered true p b) (before_finished keys p m (page_path keys p m)) (Done n 0) out → Turns out

  pub turn-ends : turn_refusal keys p m ≡ 0 → (allowance : ℕ) → Turns (turn keys p allowance m)
  unfolding turn_judged turn_path turn_loaded turn_checked
  turn-ends open-now allowance = worn (eqb (major (block_of (c w) p)) (2 ^ 64 - 1)) refl
    where
      own : other_open k p ≡ false
      own = (turn-accepted keys p m open-now).closed

      bad : Option ℕ
      bad = bad_line (family k) keys m.array (c w) p places

      checked : Option ℕ → Called
      checked = turn_checked keys p allowance m (c w) x

      opened : turn keys p allowance m ≡ cond (eqb (major (block_of (c w) p)) (2 ^ 64 - 1)) (refuse m 31 0 0) (checked bad)
      opened = ap (λ (n : ℕ). turn_judged n keys p allowance m) open-now ∙ ap (turn_path keys p allowance m) (path-is w)

      lines : (turn keys p allowance m ≡ checked bad) → major (block_of (c w) p) < 2 ^ 64 - 1 → (f : Option ℕ) → bad ≡ f
          → Turns (turn keys p allowance m)
      lines e room (Some n) z = refused 25 n 0 (e ∙ ap checked z)
      lines e room None z =
          went (size own)
          (subst₂ (λ (n : ℕ) (out : Called). Outcome S b (turn_entered true p b) n (Done (size own) 0) out) (sym (before-is own))
          (sym (e ∙ ap checked z ∙ done-is own allowance)) (stores-end own room z allowance))

      worn : (y : Bool) → eqb (major (block_of (c w) p)) (2 ^ 64 - 1) ≡ y → Turns (turn keys p allowance m)
      worn true e = refused 31 0 0 (opened ∙ ap (λ (y : Bool). cond y (refuse m 31 0 0) (checked bad)) e)
      worn false e =
          lines (opened ∙ ap (λ (y : Bool). cond y (refuse m 31 0 0) (checked bad)) e)
          (omega (arith, eqb-false (major (block_of (c w) p)) (2 ^ 64 - 1) e, major-at (reached w), (walk w).live.durable.small.major p))
          bad refl
