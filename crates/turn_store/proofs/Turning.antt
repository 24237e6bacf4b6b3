-- The batches of a turn, made one after the other under an allowance. Assumes nothing.
use mathlib.Core.Path.{◌≡◌, refl, sym, ap, ap₂, ◌∙◌, subst, subst₂}
use mathlib.Core.Bool.{Bool, true}
use mathlib.Core.Logic.{◌⊎◌, inl, inr}
use mathlib.Core.List.{List, [], ◌∷◌, ◌++◌, map, append-nil, Memᴰ}
use Prim.Native.Nat.{ℕ, suc, ◌+◌, ◌-◌, ◌*◌, ◌/◌, ◌^◌, ◌≤◌, ◌<◌, zero-le}
use native.Mathlib.Nat.{le_refl, zero-add}
use native.Mathlib.Omega.{arith}
use lib.Dec.{leb}
use borrow.Author.Tests.{le-leb, lt-leb}
use lib.ListN.{length, get_or, drop, length-append, length-take, length-map}
use lib.Seq.{drop-cons}
use Rattle.words.proofs.Digits.{Below}
use Rattle.words.proofs.Order.{lt-or-ge}
use Rattle.bits.specs.Bits.{set_bits}
use Rattle.bits.proofs.Climbs.{Climbs, climbs-mem, climbs-tail}
use Rattle.bits.proofs.Laws.{bits-climb, bits_none, with-of}
use Rattle.memory_map.specs.Map.{lines, array_length, cell_of}
use Rattle.counter.specs.Counter.{turned}
use Rattle.counter.proofs.Laws.{length-minors}
use Rattle.control.specs.Control.{Cell, control_length, family, root, place_at, places, turn_bytes, in_map}
use Rattle.batch.specs.Batch.{staged, staged_from}
use Rattle.batch.proofs.Laws.{staged-none, staged-one, staged-append}
use Rattle.cache.specs.Cache.{cell_content, current}
use Rattle.journal.specs.Journal.{Store, Media, media, turn_stores, Stored}
use Rattle.journal.proofs.Each.{Each, none, more, each_append}
use Rattle.journal.proofs.Kept.{Formed, Within, made_kept, avoids-turn}
use Rattle.journal.proofs.Several.{stored-both}
use Rattle.journal.proofs.Turns.{RanTurn, length-turn-stores}
use Rattle.calls.specs.Path.{node_cell}
use Rattle.calls.specs.Write.{line_cell}
use Rattle.calls.specs.Turn.{Batch, line_at, block_of, turn_places, turn_front, turned_cell, turned_root, new_block_cell, left_bytes, last_batch}
use Rattle.calls.specs.Turn.{batches_of, stores_for}
use Rattle.call_laws.specs.Walk.{path_cells, with_path}
use Rattle.call_laws.proofs.Apart.{line-avoids, made-content}
use Rattle.call_laws.proofs.Kept.{array-cells}
use Rattle.call_laws.proofs.Loads.{Sound, cells-sound, path-fit}
use Rattle.call_laws.proofs.Staged.{Staged, staged-inside, staged-turn}
use Rattle.call_laws.proofs.Turn.{Proper, front-sound, front-spares, front-few, front-lean, batches-proper, batches-more, batches-last}
use Rattle.call_laws.proofs.Turn.{batch-within, batch-then, block-line, line-inside}
use Rattle.path.proofs.Ready.{Ready, fit, few, block-loaded}
use Rattle.turn_batch.specs.Fresh.{fresh_line}
use Rattle.turn_store.specs.Page.{Page, page_stores, Made}
use Rattle.turn_store.proofs.Fresh.{fresh-turned, all-turned}

pub some_bits : (x : ℕ) → 0 < length (set_bits x) → 0 < x
some_bits x q = go (lt-or-ge 0 x)
  where
    go : (0 < x) ⊎ (x ≤ 0) → 0 < x
    go (inl l) = l
    go (inr l) = let none : x ≡ 0 = omega arith in absurd (omega (arith, ap (λ (z : ℕ). length (set_bits z)) none, ap length bits_none))

-- what running a batch of n cells asks of the record that they are staged in
pub record Runs (array control : List ℕ) (n left : ℕ) : Type 0 where
  pub some : 1 ≤ n
  pub few : n ≤ 8
  pub inside : n < left → in_map (length array / 72) (places control (place_at 0) n) ≡ true

runs : {h left : ℕ} {a k : List ℕ} {cs : List Cell} {k₁ : List ℕ} {n : ℕ} → Staged h left a k cs k₁ n → Runs a k₁ n left
runs s = record { some = omega (arith, s.some, s.number); few = omega (arith, s.few, s.number); inside = staged-inside s }

pub minors-size : {h : ℕ} {a k c : List ℕ} {p missing ma : ℕ} {ms : List ℕ} {mask : ℕ} → Page h a k c p missing ma ms mask → length ms ≡ 64
minors-size {h} {a} {k} {c} {p} y = ap length y.minors_is ∙ length-minors (current h a c 0 p)

each-head : {A : Type 0} {P : A → Type 0} {x : A} {xs : List A} → Each P (x ∷ xs) → P x
each-head (more p ps) = p

-- what is known before the first batch: the cells that it starts with are staged in k as far as the allowance goes
pub record Begins (h : ℕ) (a k c : List ℕ) (p missing ma : ℕ) (ms : List ℕ) (mask allowance : ℕ) (control : List ℕ) (cells : ℕ)
    : Type 0 where
  pub page : Page h a k c p missing ma ms mask
  pub ready : Ready h a k c p
  pub staged : control
      ≡ staged_from allowance 0 (turn_front h k (with_path h a p (suc h) c) p (path_cells h c p (suc h))) k
  pub number : cells ≡ length (turn_front h k (with_path h a p (suc h) c) p (path_cells h c p (suc h)))
  pub size : length control ≡ control_length

pub ready : {h : ℕ} {a k c : List ℕ} {p missing ma : ℕ} {ms : List ℕ} {mask : ℕ} → Page h a k c p missing ma ms mask
    → Below 256 a → Below 256 k → Below 256 c → Ready h a k c p
ready g x y z =
    record {
      sized = g.sized;
      control = g.control;
      shaped = g.shaped;
      page = g.page;
      array-bytes = x;
      control-bytes = y;
      cache-bytes = z;
    }

pub begins : {h : ℕ} {a k c : List ℕ} {p missing ma : ℕ} {ms : List ℕ} {mask allowance : ℕ} {control : List ℕ} {cells : ℕ}
    → (g : Page h a k c p missing ma ms mask) → Below 256 a → Below 256 k → Below 256 c
    → control ≡ staged_from allowance 0 (turn_front h k (with_path h a p (suc h) c) p (path_cells h c p (suc h))) k
    → cells ≡ length (turn_front h k (with_path h a p (suc h) c) p (path_cells h c p (suc h))) → length control ≡ length k
    → Begins h a k c p missing ma ms mask allowance control cells
begins g x y z staged number size =
    record { page = g; ready = ready g x y z; staged = staged; number = number; size = size ∙ g.control }

-- the stores of the batches that turn these places, the first of which starts with the cells front
abbrev pub stores_of : ℕ → ℕ → List ℕ → List ℕ → List ℕ → ℕ → ℕ → List Cell → List ℕ → List Store
stores_of h f keys a c p r front js = stores_for (batches_of h f keys a (with_path h a p (suc h) c) p r front js)

-- those of the turn
abbrev pub all_stores : ℕ → ℕ → List ℕ → List ℕ → List ℕ → List ℕ → ℕ → ℕ → List Store
all_stores h f keys a k c p r =
    let d = with_path h a p (suc h) c in stores_of h f keys a c p r (turn_front h k d p (path_cells h c p (suc h))) (turn_places k d p)

-- after some of the batches: of the record before, the cells front of the next one are staged as far as what is left of the allowance goes
pub record Turning (h f : ℕ) (keys a k c : List ℕ) (p r allowance : ℕ) (control array : List ℕ) (left cells rest : ℕ) : Type 0 where
  pub front : List Cell
  pub before : List ℕ
  pub staged : control ≡ staged_from left 0 front before
  pub number : cells ≡ length front
  pub size : length control ≡ control_length
  pub sound : Each (Sound h) front
  pub few : length front ≤ 2 * h + 1
  pub lean : length (set_bits rest) < 2 → length front ≤ 2 * h
  pub spares : (n : ℕ) → n < lines h → Each (λ (x : Cell). x.number ≡ n → ⊥) front
  pub formed : Formed (array_length h) (media array before)
  pub texts : (j : ℕ) → Memᴰ j (set_bits rest) → cell_content array (line_at p j) ≡ cell_content a (line_at p j)
  pub within : left ≤ allowance
  pub so_far : allowance - left + length (stores_of h f keys a c p r front (set_bits rest)) ≤ length (all_stores h f keys a k c p r)
  pub whole : 0 < left → length (all_stores h f keys a k c p r) ≤ allowance - left + length (stores_of h f keys a c p r front (set_bits rest))
  pub goes : (after : Media) (told : ℕ) → Stored left (stores_of h f keys a c p r front (set_bits rest)) (media array before) after told
      → Stored allowance (all_stores h f keys a k c p r) (media a k) after (allowance - left + told)

module _ (f : ℕ) (keys : List ℕ) (r : ℕ) {h : ℕ} {a k c : List ℕ} {p missing ma : ℕ} {ms : List ℕ} {mask allowance : ℕ} {control₀ : List ℕ}
    {cells₀ : ℕ} (g : Begins h a k c p missing ma ms mask allowance control₀ cells₀) where
  abbrev d : List ℕ
  d = with_path h a p (suc h) c

  abbrev y : Ready h a k c p
  y = g.ready

  -- ---- before the first

  path-spares : (n : ℕ) → n < lines h → Each (λ (x : Cell). x.number ≡ n → ⊥) (path_cells h c p (suc h))
  unfolding cell_of
  path-spares n q = line-avoids h c (fit y).formed p y.page n q

  pub turning-none : Turning h f keys a k c p r allowance control₀ a allowance cells₀ mask
  turning-none =
      let x = path_cells h c p (suc h) in
      let js = g.page.places in
      let same : length (stores_of h f keys a c p r (turn_front h k d p x) (set_bits mask)) ≡ length (all_stores h f keys a k c p r) =
      ap (λ (l : List ℕ). length (stores_of h f keys a c p r (turn_front h k d p x) l)) js in
      record {
        front = turn_front h k d p x;
        before = k;
        staged = g.staged;
        number = g.number;
        size = g.size;
        sound =
            front-sound h k d p x
            (path-fit h y.sized.flat a y.sized.array y.array-bytes p y.page (suc h) c (le_refl (suc h)) (fit y) (λ e. refl))
            y.page (cells-sound h c (fit y) p y.page (suc h) (le_refl (suc h)));
        few = omega (arith, front-few h k d p x, few y);
        lean = λ q. omega (arith, front-lean h k d p x (omega (arith, ap length js)), few y);
        spares = λ n q. front-spares h k d p x n (block-line h p n q) (path-spares n q);
        formed =
            record {
              array-length = y.sized.array;
              control_length = y.control;
              array-bytes = y.array-bytes;
              control-bytes = y.control-bytes;
            };
        texts = λ j m. refl;
        within = le_refl allowance;
        so_far = omega (arith, same);
        whole = λ z. omega (arith, same);
        goes = λ after told s.
            let none : told ≡ allowance - allowance + told = omega arith in
            subst₂ (λ (l : List ℕ) (n : ℕ). Stored allowance (stores_of h f keys a c p r (turn_front h k d p x) l) (media a k) after n) js
            none s;
      }

  -- ---- a batch before the last

  module _ {control array : List ℕ} {left cells rest : ℕ} (t : Turning h f keys a k c p r allowance control array left cells rest) where
    abbrev front : List Cell
    front = t.front

    proper : Each (Proper h) (batches_of h f keys a d p r front (set_bits rest))
    proper =
        batches-proper h f keys a d p r y.page y.sized.array y.array-bytes front (set_bits rest) (bits-climb rest) t.sound
        t.few t.lean

    -- a batch of the turn, staged
    staging : (b : Batch) → Proper h b → (control₁ : List ℕ) (n : ℕ) → control₁ ≡ staged_from left 0 b.cells t.before
        → n ≡ length b.cells → Staged h left array t.before b.cells control₁ n
    staging b w control₁ n e q =
        record {
          flat = y.sized.flat;
          array = t.formed.array-length;
          control = t.formed.control_length;
          sound = w.sound;
          some = w.some;
          few = omega (arith, w.few, y.sized.flat);
          cells = e;
          number = q;
        }

    module _ (more_left : 2 ≤ length (set_bits rest)) {j next : ℕ} (low : j ≡ get_or (set_bits rest) 0 0) (place : j < 64)
        (cleared : set_bits next ≡ drop 1 (set_bits rest)) (word : next < 2 ^ 64) where
      pub split : set_bits rest ≡ j ∷ set_bits next
      split =
          drop-cons (set_bits rest) 0 0 (omega arith)
          ∙ ap₂ {C = List ℕ} (λ (i : ℕ) (js : List ℕ). i ∷ js) (sym low) (sym cleared)

      others : 0 < length (set_bits next)
      others = omega (arith, ap length split)

      abbrev batch : Batch
      batch = record { cells = front ++ (turned_cell f keys a d p j ∷ []); root = r; section = left_bytes p (set_bits next) }

      batches-are : batches_of h f keys a d p r front (set_bits rest) ≡ batch ∷ batches_of h f keys a d p r [] (set_bits next)
      batches-are = ap (batches_of h f keys a d p r front) split ∙ batches-more h f keys a d p r front j (set_bits next) others

      batch-proper : Proper h batch
      batch-proper = each-head (subst (Each (Proper h)) batches-are proper)

      line-is : fresh_line f keys array p ma ms j ≡ turned_cell f keys a d p j
      line-is =
          fresh-turned y f keys g.page.major_is g.page.minors_is array j place
          (t.texts j (subst (Memᴰ j) (sym split) (Memᴰ.head refl)))

      module _ {control₁ : List ℕ} (put : control₁ ≡ staged left cells (fresh_line f keys array p ma ms j) control) where
        line-staged : Staged h left array t.before batch.cells control₁ (cells + 1)
        line-staged =
            let x = turned_cell f keys a d p j in
            let at : cells ≡ 0 + length front = t.number ∙ sym (zero-add (length front)) in
            staging batch batch-proper control₁ (cells + 1)
            (put ∙ ap (λ (z : Cell). staged left cells z control) line-is ∙ staged-one left cells x control
            ∙ ap₂ {C = List ℕ} (λ (n : ℕ) (l : List ℕ). staged_from left n (x ∷ []) l) at t.staged
            ∙ sym (staged-append left 0 front (x ∷ []) t.before))
            (omega (arith, t.number, length-append front (x ∷ [])))

        pub line-runs : Runs array control₁ (cells + 1) left
        line-runs = runs line-staged

        module _ {array₂ control₂ : List ℕ} {told : ℕ}
            (ran : RanTurn array control₁ (cells + 1) r (turn_bytes 1 p next) left (media array₂ control₂) told) where
          abbrev xs : List Store
          xs = turn_stores batch.cells r batch.section

          stored : Stored left xs (media array t.before) (media array₂ control₂) told
          stored =
              subst (λ (m : ℕ).
              Stored left (turn_stores batch.cells r (turn_bytes 1 p m)) (media array t.before) (media array₂ control₂) told)
              (with-of next word refl)
              (staged-turn line-staged r (turn_bytes 1 p next) (media array₂ control₂) told ran)

          told-few : told ≤ left
          told-few = omega (arith, stored.number, length-take left xs)

          within : Each (Within (array_length h / 72)) xs
          within = rw (array-cells h (array_length h) refl) (batch-within h y.sized.flat {b = batch} batch-proper)

          -- it leaves the other lines alone
          spared : (i : ℕ) → suc j ≤ i → i < 64 → Each (λ (x : Cell). x.number ≡ line_at p i → ⊥) batch.cells
          unfolding line_cell
          spared i q l =
              each_append (t.spares (line_at p i) (line-inside h p i l y.page))
              (more {x = turned_cell f keys a d p j} (λ z. omega arith) none)

          kept : (i : ℕ) → Memᴰ i (set_bits next) → cell_content array₂ (line_at p i) ≡ cell_content a (line_at p i)
          kept i m =
              let above = climbs-mem (climbs-tail (subst (Climbs 64 0) split (bits-climb rest))) m in
              ap (λ (x : Media). cell_content x.array (line_at p i)) stored.left
              ∙ made-content left (line_at p i) t.formed within
              (avoids-turn (line_at p i) r batch.section (spared i above.0 above.1))
              ∙ t.texts i (subst (Memᴰ i) (sym split) (Memᴰ.tail m))

          abbrev ys : List Store
          ys = stores_of h f keys a c p r [] (set_bits next)

          many : length (stores_of h f keys a c p r front (set_bits rest)) ≡ length xs + length ys
          many =
              ap (λ (bs : List Batch). length (stores_for bs)) batches-are ∙ batch-then batch (batches_of h f keys a d p r [] (set_bits next))
              ∙ ap (λ (n : ℕ). n + length ys) (sym (length-turn-stores batch.cells r batch.section))

          after_both : (after : Media) (n : ℕ) → Stored (left - told) ys (media array₂ control₂) after n
              → Stored allowance (all_stores h f keys a k c p r) (media a k) after (allowance - (left - told) + n)
          unfolding stores_for
          after_both after n s =
              let sum : allowance - left + (told + n) ≡ allowance - (left - told) + n = omega (arith, told-few, t.within) in
              subst (λ (m : ℕ). Stored allowance (all_stores h f keys a k c p r) (media a k) after m) sum
              (t.goes after (told + n)
              (subst (λ (bs : List Batch). Stored left (stores_for bs) (media array t.before) after (told + n)) (sym batches-are)
              (stored-both left xs ys stored s)))

          formed-after : Formed (array_length h) (media array₂ control₂)
          formed-after = subst (Formed (array_length h)) (sym stored.left) (made_kept left t.formed within)

          pub turning-more : Turning h f keys a k c p r allowance control₂ array₂ (left - told) 0 next
          turning-more =
              let told_is = stored.number ∙ length-take left xs in
              record {
                front = [];
                before = control₂;
                staged = staged-none (left - told) 0 control₂;
                number = refl;
                size = formed-after.control_length;
                sound = none;
                few = zero-le;
                lean = λ q. zero-le;
                spares = λ n q. none;
                formed = formed-after;
                texts = kept;
                within = omega (arith, t.within);
                so_far = omega (arith, t.so_far, many, told_is, t.within);
                whole = λ z. omega (arith, t.whole (omega (arith, z)), many, told_is, t.within);
                goes = after_both;
              }

    -- ---- the last batch

    module _ (few-left : length (set_bits rest) < 2) {block : List ℕ} (new : block ≡ turned (current h a c 0 p)) where
      abbrev line : List Cell
      line = map (turned_cell f keys a d p) (set_bits rest)

      abbrev last : Batch
      last = last_batch h keys d p front line

      last-is : batches_of h f keys a d p r front (set_bits rest) ≡ last ∷ []
      last-is = batches-last h f keys a d p r front (set_bits rest) few-left

      lines_are : map (fresh_line f keys array p ma ms) (set_bits rest) ≡ line
      lines_are =
          all-turned y f keys g.page.major_is g.page.minors_is array (set_bits rest)
          (λ j m. ((climbs-mem (bits-climb rest) m).1, t.texts j m))

      module _ {control₁ : List ℕ} {n : ℕ}
          (put : control₁ ≡ staged_from left cells (node_cell h 0 p block ∷ map (fresh_line f keys array p ma ms) (set_bits rest)) control)
          (count : n ≡ cells + suc (length (set_bits rest))) where
        last-staged : Staged h left array t.before last.cells control₁ n
        last-staged =
            let x = new_block_cell h d p ∷ line in
            let at : cells ≡ 0 + length front = t.number ∙ sym (zero-add (length front)) in
            let block-is : block ≡ turned (block_of d p) = new ∙ ap turned (sym (block-loaded y)) in
            staging last (each-head (subst (Each (Proper h)) last-is proper)) control₁ n
            (put
            ∙ ap₂ {C = List ℕ} (λ (b : List ℕ) (ls : List Cell). staged_from left cells (node_cell h 0 p b ∷ ls) control) block-is lines_are
            ∙ ap₂ {C = List ℕ} (λ (i : ℕ) (l : List ℕ). staged_from left i x l) at t.staged
            ∙ sym (staged-append left 0 front x t.before))
            (omega (arith, t.number, length-append front x, length-map (set_bits rest) (turned_cell f keys a d p)))

        pub last_runs : Runs array control₁ n left
        last_runs = runs last-staged

        module _ {array₂ control₂ : List ℕ} {told top : ℕ} (root_is : top ≡ turned_root h keys d p)
            (ran : RanTurn array control₁ n top (turn_bytes 0 0 0) left (media array₂ control₂) told) where
          abbrev zs : List Store
          zs = turn_stores last.cells last.root last.section

          stored_last : Stored left zs (media array t.before) (media array₂ control₂) told
          stored_last =
              subst (λ (m : ℕ).
              Stored left (turn_stores last.cells m (turn_bytes 0 0 0)) (media array t.before) (media array₂ control₂) told)
              root_is
              (staged-turn last-staged top (turn_bytes 0 0 0) (media array₂ control₂) told ran)

          last-few : told ≤ left
          last-few = omega (arith, stored_last.number, length-take left zs)

          are : stores_of h f keys a c p r front (set_bits rest) ≡ zs
          unfolding stores_for
          are = ap stores_for last-is ∙ append-nil zs

          -- all the stores of the turn, as far as the allowance goes
          turned-stores : Stored allowance (all_stores h f keys a k c p r) (media a k) (media array₂ control₂) (allowance - left + told)
          turned-stores =
              t.goes (media array₂ control₂) told
              (subst (λ (xs : List Store). Stored left xs (media array t.before) (media array₂ control₂) told) (sym are) stored_last)

          last-length : length (stores_of h f keys a c p r front (set_bits rest)) ≡ 2 * n + 3
          last-length =
              ap length are ∙ length-turn-stores last.cells last.root last.section
              ∙ ap (λ (i : ℕ). 2 * i + 3) (sym last-staged.number)

          -- whether they are all is seen by the last batch
          turned-all : leb (2 * n + 3) told ≡ leb (length (all_stores h f keys a k c p r)) (allowance - left + told)
          turned-all = go (lt-or-ge told (2 * n + 3))
            where
              all : ℕ
              all = length (all_stores h f keys a k c p r)

              sum : ℕ
              sum = allowance - left + told

              go : (told < 2 * n + 3) ⊎ (2 * n + 3 ≤ told) → leb (2 * n + 3) told ≡ leb all sum
              go (inl q) = lt-leb (2 * n + 3) told q ∙ sym (lt-leb all sum (omega (arith, t.so_far, last-length)))
              go (inr q) =
                  le-leb (2 * n + 3) told q ∙ sym (le-leb all sum (omega (arith, t.whole (omega (arith, last-few)), last-length)))

          pub turned-makes : f ≡ family k → r ≡ root k → {w : Bool} → leb (2 * n + 3) told ≡ w
              → Made allowance (page_stores h keys a k c p) (media a k) (media array₂ control₂) (allowance - left + told) w
          unfolding page_stores
          turned-makes i e {w} q =
              subst₂ (λ (u x : ℕ). Made allowance (all_stores h u keys a k c p x) (media a k) (media array₂ control₂) (allowance - left + told) w)
              i e (record { stored = turned-stores; all = sym q ∙ turned-all })
