-- Each event of an allowed history leads from what holds before it to what holds after it, for the book after it; and so a list of them.
-- Assumes nothing.
use mathlib.Core.Path.{◌≡◌, refl, sym, ap, ◌∙◌, subst}
use mathlib.Core.Logic.{◌⊎◌, inl, inr}
use mathlib.Core.Bool.{Bool, true, false, cond, false≢true}
use mathlib.Core.List.{List, [], ◌∷◌, ◌++◌}
use mathlib.Core.Option.{Option, none, some}
use Prim.Native.Nat.{ℕ, zero, suc, ◌+◌, ◌-◌, ◌*◌, ◌/◌, ◌^◌, ◌<◌}
use native.Mathlib.Omega.{arith}
use borrow.Author.Tests.{eq-eqb, lt-ltb, le-ltb}
use lib.Dec.{ltb}
use lib.ListN.{length}
use Rattle.words.proofs.Digits.{Below}
use Rattle.words.proofs.Order.{eq-or-not}
use Rattle.memory_map.specs.Map.{pages, lines}
use Rattle.answer.specs.declared.Answer.{Answer}
use Rattle.answer.specs.declared.Answer.TheVariants.{Done, Cut, Refused}
use Rattle.answer.specs.Answer.{stores_of}
use Rattle.control.specs.Control.{family, depth}
use Rattle.journal.specs.Journal.{Store, batch_stores}
use Rattle.journal.proofs.Laws.{length-batch}
use Rattle.calls.specs.Call.{Module, Called, storing, refuse, access_refusal}
use Rattle.calls.specs.Read.{Reading, blank_text, answered, line_minor, read_judged, read}
use Rattle.calls.specs.Write.{write_stores, written_cache, write_loaded, write_path, write_judged, write}
use Rattle.calls.specs.Turn.{turn_refusal, turn_judged, turn, page_path, before_finished}
use Rattle.calls.specs.Recovery.{recover}
use Rattle.calls.specs.Format.{format_refusal, formatted, format}
use Rattle.calls.specs.DirtyPages.{list_refusal, list_judged}
use Rattle.history_laws.specs.History.{Event, reads, writes, turns, recovers, lists, formats, power_cut, step, Book, pending_made}
use Rattle.history_laws.specs.History.{commits, entered, finishes, turn_entered, book_after, Keyed, Admitted, awaits, Allowed}
use Rattle.history_laws.specs.History.{module_after, book_of}
use Rattle.call_laws.proofs.Judged.{access-accepted, turn-accepted}
use Rattle.history_laws.proofs.Setting.{Setting, Opening}
use Rattle.history_laws.proofs.Opening.{closed-line}
use Rattle.history_laws.proofs.State.{Holds, Ready, none-pending, settled-now, settled-holds}
use Rattle.history_laws.proofs.Outcome.{Outcome, done, dropped, kept, cases}
use Rattle.history_laws.proofs.Page.{Paged, path-is}
use Rattle.history_laws.proofs.Reading.{Access, was, paged, walk, stores, minor_is, reads-blank, reads-text}
use Rattle.history_laws.proofs.Writing.{read-outcome, Writable, cells, root-new, few-new, some-new, write-outcome, write-is}
use Rattle.history_laws.proofs.Turned.{Turns, refused, went, turn-ends}
use Rattle.history_laws.proofs.Recovery.{Ends, cut, rebuilt, doubted, ends}
use Rattle.history_laws.proofs.Refused.{Same, read_same, write_same, turn-same, recover-same}

-- a write that makes 2m + 3 stores with stores enough is committed by a cut after more than m
cut-commits : (m full : ℕ) → full ≡ 2 * m + 3 → (k : ℕ) → commits (Cut k) full ≡ ltb m k
unfolding commits
cut-commits m full e k = let half : (full - 3) / 2 ≡ m = omega arith in ap (λ (i : ℕ). ltb i k) half

module _ (S : Setting) where
  open S use {keys, h}

  pub record Inv (aw : Bool) (b : Book) (m : Module) : Type 0 where
    pub opening : Opening
    pub holds : Holds S b opening m
    pub ready : aw ≡ false → Ready S b opening m

  -- a call that leads from the one to the other, the book unchanged
  abbrev Leads : Bool → Book → Called → Type 0
  Leads aw b out = Inv (awaits aw out.answer) b out.after

  pub ready-inv : {aw : Bool} {b : Book} {o : Opening} {m : Module} → Ready S b o m → Inv aw b m
  ready-inv {o = o} r = record { opening = o; holds = r.holds; ready = λ z. r }

  cut-only : {b : Book} {o : Opening} {m : Module} → Holds S b o m → Inv true b m
  cut-only {o = o} v = record { opening = o; holds = v; ready = λ e. absurd (false≢true (sym e)) }

  refused-inv : {aw : Bool} {b : Book} {m : Module} (out : Called) → Inv aw b m → Same m out
      → (n : ℕ) × (x : ℕ) × (y : ℕ) × (out.answer ≡ Refused n 0 x y) → Leads aw b out
  unfolding awaits
  refused-inv {aw} {b} out v same r =
      subst (λ (a : Answer). Inv (awaits aw a) b out.after) (sym r.3) (subst (Inv aw b) (sym (same r.0 r.1 r.2 r.3)) v)

  cut-inv : (aw : Bool) {b : Book} {o : Opening} (out : Called) (n : ℕ) → out.answer ≡ Cut n → Holds S b o out.after → Leads aw b out
  unfolding awaits
  cut-inv aw {b} out n r v = subst (λ (a : Answer). Inv (awaits aw a) b out.after) (sym r) (cut-only v)

  -- a call that enters something into the book, where it is done and where more than size of its stores are made
  module _ (book : Bool → Book) (enters : Answer → Bool) (out : Called) where
    abbrev By : Answer → Type 0
    By a = Inv (awaits false a) (book (enters a)) out.after

    ended : {size : ℕ} {answer : Answer} → enters answer ≡ true → ((k : ℕ) → enters (Cut k) ≡ ltb size k)
        → Outcome S (book false) (book true) size answer out → By out.answer
    unfolding awaits
    ended {answer = answer} yea nay (done e y) =
        subst By (sym e) (subst (λ (s : Bool). Inv (awaits false answer) (book s) out.after) (sym yea) (ready-inv y))
    ended {size} yea nay (dropped i p e x) =
        subst By (sym e) (subst (λ (s : Bool). Inv true (book s) out.after) (sym (nay i ∙ le-ltb size i p)) (cut-only x))
    ended {size} yea nay (kept i p e x) =
        subst By (sym e) (subst (λ (s : Bool). Inv true (book s) out.after) (sym (nay i ∙ lt-ltb size i p)) (cut-only x))

  -- ---- a read with the module's keys

  read-ended : (b : Book) (size : ℕ) (answer : Answer) (out : Called) → Outcome S b b size answer out → Leads false b out
  read-ended b size answer out (done e y) = ready-inv y
  read-ended b size answer out (dropped i p e x) = cut-inv false out i e x
  read-ended b size answer out (kept i p e x) = cut-inv false out i e x

  module _ {b : Book} {o : Opening} {m : Module} (r : Ready S b o m) where
    open-line : (n : ℕ) (buffer : List ℕ) → access_refusal keys n buffer m ≡ 0 → Access S b o m n
    open-line n buffer e =
        let ok = access-accepted keys n buffer m e in
        record {
          ready = r;
          inside = subst (λ (d : ℕ). n < lines d) r.holds.deep ok.entry.inside;
          not-turned = closed-line (settled-now r.holds r.idle).section n ok.closed;
        }

    module _ (n allowance : ℕ) (out : List ℕ) where
      read-stored : (w : Access S b o m n) (answer : Answer) (t : List ℕ)
          → Leads false b (answered allowance m (stores w) answer (walk w).cache t out).called
      unfolding answered
      read-stored w answer t = read-ended b _ answer _ (read-outcome w answer allowance)

      read-text : Access S b o m n → access_refusal keys n out m ≡ 0 → (x : Option (List ℕ)) → b.text n ≡ x
          → Leads false b (read keys n allowance out m).called
      read-text w e none z =
          subst (λ (x : Reading). Leads false b x.called) (sym (reads-blank w out e allowance z)) (read-stored w _ blank_text)
      read-text w e (some t) z =
          subst (λ (x : Reading). Leads false b x.called) (sym (reads-text w out e allowance t z)) (read-stored w _ t)

      read-own : Leads false b (read keys n allowance out m).called
      unfolding read_judged awaits
      read-own = go (access_refusal keys n out m) refl
        where
          go : (k : ℕ) → access_refusal keys n out m ≡ k → Leads false b (read keys n allowance out m).called
          go zero e = read-text (open-line n out e) e (b.text n) refl
          go (suc k) e =
              subst (λ (x : Reading). Leads false b x.called) (sym (ap (λ (i : ℕ). read_judged i keys n allowance m out) e)) (ready-inv r)

    -- ---- a write

    module _ (n : ℕ) (text : List ℕ) (plain : Below 256 text) (allowance : ℕ) where
      abbrev Entered : ℕ → Called → Type 0
      Entered full out = Inv (awaits false out.answer) (entered (commits out.answer full) n text b) out.after

      not_entered : (full k x y : ℕ) → Entered full (refuse m k x y)
      unfolding awaits commits entered
      not_entered full k x y = ready-inv r

      write-ended : (size full : ℕ) → full ≡ 2 * size + 3 → (answer : Answer) → ((k : ℕ) → commits answer k ≡ true) → (out : Called)
          → Outcome S b (entered true n text b) size answer out → Entered full out
      unfolding entered
      write-ended size full f answer yea out =
          ended (λ s. entered s n text b) (λ a. commits a full) out (yea full) (cut-commits size full f)

      abbrev most : ℕ
      most = stores_of (write keys n text (2 ^ 64 - 1) m).answer

      module _ (open-now : access_refusal keys n text m ≡ 0) where
        w : Access S b o m n
        w = open-line n text open-now

        -- its minor is 127
        worn : b.count n ≡ 127 → write keys n text allowance m ≡ refuse m 26 0 0
        unfolding write_judged write_path write_loaded
        worn e =
            ap (λ (k : ℕ). write_judged k keys n text allowance m) open-now ∙ ap (write_path keys n text allowance m) (path-is (paged w))
            ∙ ap (λ (y : Bool). cond y (refuse m 26 0 0) (storing allowance m batch (Done (length batch) 0)
            (written_cache (depth m.control) keys n (walk w).cache))) (eq-eqb (line_minor (walk w).cache n) 127 (minor_is w ∙ e))
          where
            batch : List Store
            batch = write_stores (depth m.control) (family m.control) keys n text (walk w).cache (walk w).cells

        module _ (room : b.count n < 127) where
          t : Writable w text
          t = record { room = room; full = (access-accepted keys n text m open-now).entry.buffer; plain = plain; open-now = open-now }

          abbrev xs : List Store
          xs = batch_stores (cells w t) (root-new w t)

          stores-of : length xs ≡ 2 * length (cells w t) + 3
          stores-of = length-batch _ _ (some-new w t)

          most-is : most ≡ length xs
          unfolding stores_of
          most-is =
              ap (λ (c : Called). stores_of c.answer) (write-is w t (2 ^ 64 - 1))
              ∙ cases (λ c. stores_of c.answer ≡ length xs) (2 ^ 64 - 1) m xs (Done (length xs) 0) _
              (λ p. absurd (omega (arith, p, stores-of, few-new w t))) (λ p. refl)

          write_done : Entered most (write keys n text allowance m)
          unfolding commits
          write_done =
              subst (Entered most) (sym (write-is w t allowance))
              (write-ended _ most (most-is ∙ stores-of) (Done (length xs) 0) (λ a. refl) _
              (write-outcome w t (Done (length xs) 0) allowance))

        write-opened : Entered most (write keys n text allowance m)
        write-opened = go (eq-or-not (b.count n) 127)
          where
            go : (b.count n ≡ 127) ⊎ (b.count n ≡ 127 → ⊥) → Entered most (write keys n text allowance m)
            go (inl z) = subst (Entered most) (sym (worn z)) (not_entered most 26 0 0)
            go (inr z) = write_done (omega (arith, (was w).keeps.durable.small.minor n, z))

      write-own : Entered most (write keys n text allowance m)
      unfolding write_judged
      write-own = go (access_refusal keys n text m) refl
        where
          go : (k : ℕ) → access_refusal keys n text m ≡ k → Entered most (write keys n text allowance m)
          go zero e = write-opened e
          go (suc k) e =
              subst (Entered most) (sym (ap (λ (i : ℕ). write_judged i keys n text allowance m) e)) (not_entered most (suc k) 0 0)

    -- ---- a turn

    module _ (p allowance : ℕ) where
      abbrev before : ℕ
      before = before_finished keys p m (page_path keys p m)

      abbrev Finished : Called → Type 0
      Finished out = Inv (awaits false out.answer) (turn_entered (finishes out.answer before) p b) out.after

      not-finished : (k x y : ℕ) → Finished (refuse m k x y)
      unfolding awaits finishes turn_entered
      not-finished k x y = ready-inv r

      turn-own : Finished (turn keys p allowance m)
      unfolding turn_judged finishes turn_entered
      turn-own = go (turn_refusal keys p m) refl
        where
          ends_so : {w : Paged S b o m p} → Turns w (turn keys p allowance m) → Finished (turn keys p allowance m)
          ends_so (refused n i j e) = subst Finished (sym e) (not-finished n i j)
          ends_so (went n x) = ended (λ s. turn_entered s p b) (λ a. finishes a before) _ refl (λ i. refl) x

          go : (k : ℕ) → turn_refusal keys p m ≡ k → Finished (turn keys p allowance m)
          go zero e =
              let inside = subst (λ (d : ℕ). p < pages d) r.holds.deep (turn-accepted keys p m e).inside in
              ends_so (turn-ends (record { ready = r; page = inside }) e allowance)
          go (suc k) e = subst Finished (sym (ap (λ (i : ℕ). turn_judged i keys p allowance m) e)) (not-finished (suc k) 0 0)

  -- ---- a recovery

  recover-own : (aw : Bool) {b : Book} {m : Module} → Inv aw b m → (allowance : ℕ) → Leads aw b (recover keys allowance m)
  unfolding awaits
  recover-own aw {b} {m} v allowance = go (ends v.holds allowance)
    where
      -- the pending stores stand
      stands : Inv aw b (pending_made m)
      stands =
          let h = v.holds in
          record {
            opening = v.opening;
            holds = settled-holds m.cache h.sized h.plain h.settled;
            ready = λ z. subst (Ready S b v.opening) (sym (none-pending m (v.ready z).idle)) (v.ready z);
          }

      go : Ends S b m (recover keys allowance m) → Leads aw b (recover keys allowance m)
      go (cut n e x) = cut-inv aw (recover keys allowance m) n e x
      go (doubted n x e same one nay) =
          subst (λ (a : Answer). Inv (awaits aw a) b (recover keys allowance m).after) (sym e) (subst (Inv aw b) (sym same) stands)
      go (rebuilt n t e s y) = subst (λ (a : Answer). Inv (awaits aw a) b (recover keys allowance m).after) (sym e) (ready-inv y)

  -- ---- each event

  module _ {aw : Bool} {b : Book} {m : Module} (v : Inv aw b m) where
    read-event : aw ≡ false → (given : List ℕ) (n allowance : ℕ) (out : List ℕ)
        → Keyed keys given (read given n allowance out m).called.answer → Leads aw b (read given n allowance out m).called
    read-event idle given n allowance out (inl z) =
        subst (λ (g : List ℕ). Leads aw b (read g n allowance out m).called) (sym z)
        (subst (λ (s : Bool). Leads s b (read keys n allowance out m).called) (sym idle) (read-own (v.ready idle) n allowance out))
    read-event idle given n allowance out (inr s) = refused-inv _ v (read_same m given n allowance out) s

    WriteInv : Bool → List ℕ → ℕ → List ℕ → ℕ → Answer → Type 0
    WriteInv s given n text allowance a =
        Inv (awaits s a) (entered (commits a (stores_of (write given n text (2 ^ 64 - 1) m).answer)) n text b)
        (write given n text allowance m).after

    write-event : aw ≡ false → (given : List ℕ) (n : ℕ) (text : List ℕ) → Below 256 text → (allowance : ℕ)
        → Keyed keys given (write given n text allowance m).answer
        → WriteInv aw given n text allowance (write given n text allowance m).answer
    unfolding WriteInv awaits commits entered
    write-event idle given n text plain allowance (inl z) =
        subst (λ (g : List ℕ). WriteInv aw g n text allowance (write g n text allowance m).answer) (sym z)
        (subst (λ (s : Bool). WriteInv s keys n text allowance (write keys n text allowance m).answer) (sym idle)
        (write-own (v.ready idle) n text plain allowance))
    write-event idle given n text plain allowance (inr s) =
        subst (WriteInv aw given n text allowance) (sym s.3)
        (subst (Inv aw b) (sym (write_same m given n text allowance s.0 s.1 s.2 s.3)) v)

    TurnInv : Bool → List ℕ → ℕ → ℕ → Answer → Type 0
    TurnInv s given p allowance a =
        Inv (awaits s a) (turn_entered (finishes a (before_finished given p m (page_path given p m))) p b) (turn given p allowance m).after

    turn-event : aw ≡ false → (given : List ℕ) (p allowance : ℕ) → Keyed keys given (turn given p allowance m).answer
        → TurnInv aw given p allowance (turn given p allowance m).answer
    unfolding TurnInv awaits finishes turn_entered
    turn-event idle given p allowance (inl z) =
        subst (λ (g : List ℕ). TurnInv aw g p allowance (turn g p allowance m).answer) (sym z)
        (subst (λ (s : Bool). TurnInv s keys p allowance (turn keys p allowance m).answer) (sym idle)
        (turn-own (v.ready idle) p allowance))
    turn-event idle given p allowance (inr s) =
        subst (TurnInv aw given p allowance) (sym s.3)
        (subst (Inv aw b) (sym (turn-same m given p allowance s.0 s.1 s.2 s.3)) v)

    recover-event : (given : List ℕ) (allowance : ℕ) → Keyed keys given (recover given allowance m).answer
        → Leads aw b (recover given allowance m)
    recover-event given allowance (inl z) = subst (λ (g : List ℕ). Leads aw b (recover g allowance m)) (sym z) (recover-own aw v allowance)
    recover-event given allowance (inr s) = refused-inv _ v (recover-same given allowance m) s

    list-event : aw ≡ false → (out : List ℕ) (k : ℕ) → Inv (awaits aw (list_judged k m.control m.cache out).answer) b m
    unfolding list_judged awaits
    list-event idle out zero = ready-inv (v.ready idle)
    list-event idle out (suc k) = v

    abbrev chosen : List ℕ → ℕ → ℕ → ℕ → Called
    chosen given d f k = elim k as (λ z. Called) [ zero ↦ formatted given d f | suc n ↦ refuse m (suc n) 0 0 ]

    format-event : (given : List ℕ) (d f k : ℕ) → ((chosen given d f k).answer ≡ Done 0 0 → ⊥) → Leads aw b (chosen given d f k)
    unfolding formatted awaits
    format-event given d f zero nay = absurd (nay refl)
    format-event given d f (suc k) nay = v

    power-event : (c : List ℕ) → length c ≡ length m.cache → Below 256 c
        → Inv true b (record { array = m.array; control = m.control; cache = c })
    power-event c size plain =
        let s = v.holds in
        cut-only (record {
          sized = size ∙ s.sized;
          plain = plain;
          formed = s.formed;
          right = s.right;
          deep = s.deep;
          settled = s.settled;
        })

    event : (e : Event) → Admitted keys aw m e → Inv (awaits aw (step e m).answer) (book_after e m b) (step e m).after
    unfolding Admitted step book_after awaits WriteInv TurnInv format
    event (reads given n allowance out) ok = read-event ok.0 given n allowance out ok.1
    event (writes given n text allowance) ok = write-event ok.0 given n text (record { at = ok.4 }) allowance ok.1
    event (turns given p allowance) ok = turn-event ok.0 given p allowance ok.1
    event (recovers given allowance) ok = recover-event given allowance ok.0
    event (lists out) ok = list-event ok.0 out (list_refusal m.control m.cache out)
    event (formats given d f) ok = format-event given d f (format_refusal given d f m) ok.2
    event (power_cut c) ok = power-event c ok.0 (record { at = ok.1 })

  -- ---- and a list of them

  pub record Led (m : Module) (b : Book) (es : List Event) : Type 0 where
    pub awaited : Bool
    pub inv : Inv awaited (book_of m b es) (module_after m es)

  pub led : (es rest : List Event) (aw : Bool) (b : Book) (m : Module) → Inv aw b m → Allowed keys aw m (es ++ rest) → Led m b es
  unfolding Allowed book_of module_after
  led [] rest aw b m v ok = record { awaited = aw; inv = v }
  led (e ∷ es) rest aw b m v ok =
      let r = led es rest (awaits aw (step e m).answer) (book_after e m b) (step e m).after (event v e ok.0) ok.1 in
      record { awaited = r.awaited; inv = r.inv }
