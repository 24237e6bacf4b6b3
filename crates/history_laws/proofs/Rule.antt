-- The history rule: in every allowed list from a done format of either family, a recovery with the same keys returns to what the book
-- of the list up to it says. Assumes nothing.
use mathlib.Core.Path.{◌≡◌, refl, sym, ap, ap₂, ◌∙◌, subst}
use mathlib.Core.Bool.{Bool, true, false, not, cond}
use mathlib.Core.List.{List, ◌∷◌, ◌++◌}
use mathlib.Core.Option.{Option, none, some}
use Prim.Native.Nat.{ℕ, zero, suc, ◌+◌, ◌-◌, ◌*◌, ◌≤◌, ◌<◌, zero-le}
use native.Mathlib.Omega.{arith}
use lib.ListN.{length}
use Rattle.memory_map.specs.Map.{page_of, place_of, lines}
use Rattle.memory_map.proofs.Laws.{nodes-bottom, page-inside}
use Rattle.counter.specs.Counter.{minor, lag}
use Rattle.answer.specs.declared.Answer.{Answer}
use Rattle.answer.specs.declared.Answer.TheVariants.{Done, Cut, Refused}
use Rattle.answer.specs.Answer.{code_of, stores_of, first_of}
use Rattle.control.specs.Control.{is_open}
use Rattle.cache.specs.Cache.{formed}
use Rattle.cache.proofs.Laws.{facts-formed}
use Rattle.journal.specs.Journal.{Store, is_cut}
use Rattle.calls.specs.Call.{Module, Called, NotCut, media_of, storing, judged, access_refusal, refuse}
use Rattle.calls.specs.Read.{Reading, answered, read}
use Rattle.calls.specs.Recovery.{recover}
use Rattle.calls.specs.Format.{format_refusal, formatted, format, counts_from}
use Rattle.history_laws.specs.History.{Event, recovers, Book, empty_book, AreBytes, Allowed, module_after, book_of, counter}
use Rattle.history_laws.specs.History.{stored_minor, total, Gives, Restored, NotRefused, pending_made, OnlyCounts, Returns, HistoryRule}
use Rattle.call_laws.proofs.Judged.{entry-on, format-accepted}
use Rattle.history_laws.proofs.Setting.{Setting, Opening}
use Rattle.history_laws.proofs.Opening.{closed-line}
use Rattle.history_laws.proofs.Tree.{counts-agree, fresh-minor}
use Rattle.history_laws.proofs.Live.{live-current}
use Rattle.history_laws.proofs.State.{Settled, Holds, Ready, settled-now, tests-pass}
use Rattle.history_laws.proofs.First.{first-ready}
use Rattle.history_laws.proofs.Outcome.{cut_among, all_stored}
use Rattle.history_laws.proofs.Reading.{Access, walk, stores, reads-blank, reads-text}
use Rattle.history_laws.proofs.Recovery.{Ends, cut, rebuilt, doubted, ends}
use Rattle.history_laws.proofs.Refused.{done-not, cut-not}
use Rattle.history_laws.proofs.Events.{ready-inv, led}

-- ---- what a read shows

-- one that is not cut gives what it answers and puts out with stores enough
gives : (o : Option (List ℕ)) (allowance : ℕ) (m : Module) (xs : List Store) (answer : Answer) (c t out : List ℕ)
    → Gives o (record { called = all_stored allowance m xs answer c; output = t })
    → NotCut (answered allowance m xs answer c t out).called.answer → Gives o (answered allowance m xs answer c t out)
unfolding answered storing NotCut
gives o allowance m xs answer c t out ok = go (is_cut allowance xs)
  where
    called : Bool → Called
    called x = cond x (cut_among allowance m xs) (all_stored allowance m xs answer c)

    go : (x : Bool) → NotCut (called x).answer → Gives o (record { called = called x; output = cond x out t })
    go true nay = absurd (nay _ refl)
    go false nay = ok

module _ {S : Setting} {b : Book} {o : Opening} {m : Module} (r : Ready S b o m) where
  open S use {keys, h}

  abbrev v : Holds S b o m
  v = r.holds

  was : Settled S b o (media_of m)
  was = settled-now v r.idle

  counter-is : (n : ℕ) → n < lines h → counter h m n ≡ b.count n
  unfolding counter
  counter-is n q =
      let place : 64 * page_of n + place_of n ≡ n = omega arith in
      ap (λ (l : List ℕ). minor l (place_of n))
      (live-current r.live 0 (page_of n) zero-le (omega (arith, page-inside h n q, nodes-bottom h)))
      ∙ fresh-minor S was.keeps.durable.small (page_of n) (place_of n) (omega arith) ∙ ap b.count place

  opened : (n : ℕ) (out : List ℕ) → n < lines h → is_open m.control (page_of n) ≡ false → length out ≡ 64 → access_refusal keys n out m ≡ 0
  unfolding judged
  opened n out q u e =
      let fit = ap (λ (d : ℕ). formed d m.cache) v.deep ∙ facts-formed h m.cache r.live.fit.formed in
      sym (entry-on keys n out m
      (record { opening = tests-pass v; buffer = e; inside = subst (λ (d : ℕ). n < lines d) (sym v.deep) q; idle = r.idle })
      (sym (ap₂ {C = ℕ} (λ (s t : Bool). cond (not s) 23 (cond t 30 0)) fit u)))

  module _ (n allowance : ℕ) (out : List ℕ) (q : n < lines h) (u : is_open m.control (page_of n) ≡ false) (e : length out ≡ 64) where
    w : Access S b o m n
    w = record { ready = r; inside = q; not-turned = closed-line was.section n u }

    -- what a read of it shows, if it is not cut
    abbrev Shows : Option (List ℕ) → Reading → Type 0
    Shows t x = NotCut x.called.answer → Gives t x

    text-is : Shows (b.text n) (read keys n allowance out m)
    unfolding Gives stores_of
    text-is = go (b.text n) refl
      where
        go : (x : Option (List ℕ)) → b.text n ≡ x → Shows x (read keys n allowance out m)
        go none z =
            subst (Shows none) (sym (reads-blank w out (opened n out q u e) allowance z))
            (gives none allowance m (stores w) _ (walk w).cache _ out (refl, refl))
        go (some t) z =
            subst (Shows (some t)) (sym (reads-text w out (opened n out q u e) allowance t z))
            (gives (some t) allowance m (stores w) _ (walk w).cache t out (refl, refl))

  near-is : (n : ℕ) → n < lines h → (stored_minor h m n ≤ counter h m n) × (counter h m n ≤ stored_minor h m n + 3)
  unfolding stored_minor
  near-is n q =
      let place : 64 * page_of n + place_of n ≡ n = omega arith in
      let d = was.keeps.durable in
      let behind = subst (λ (x : ℕ). stored_minor h m n ≤ b.count x) place
      (d.behind (page_of n) (place_of n) (page-inside h n q) (omega arith)) in
      let close = subst (λ (x : ℕ). b.count x ≤ stored_minor h m n + lag (b.count x)) place
      (d.near (page_of n) (place_of n) (page-inside h n q) (omega arith)) in
      (omega (arith, behind, counter-is n q), omega (arith, close, counter-is n q))

  restored : (sum : ℕ) → sum ≡ total (counts_from (λ n. b.count n - stored_minor h m n) 0 (lines h)) → Restored keys h b m sum
  restored sum e =
      record {
        counters = counter-is;
        all_counters = ap total (counts-agree (counter h m) b.count 0 (lines h) (λ n p q. counter-is n (omega arith)));
        tree = live-current r.live;
        top = was.top;
        texts = text-is;
        near = near-is;
        told = e ∙ ap total (counts-agree (λ n. b.count n - stored_minor h m n) (λ n. counter h m n - stored_minor h m n) 0 (lines h)
            (λ n p q. ap (λ (x : ℕ). x - stored_minor h m n) (sym (counter-is n (omega arith)))));
      }

-- ---- the rule

cut-done : {n k t : ℕ} → Cut n ≡ Done k t → ⊥
unfolding code_of
cut-done e = let z : ◌≡◌ {A = ℕ} 2 0 = ap code_of e in omega arith

module _ {S : Setting} {b : Book} {m : Module} where
  open S use {keys, h, family}

  never-refused : (out : Called) → Ends S b m out → (family ≡ 1 → OnlyCounts keys h b (pending_made m)) → NotRefused out.answer
  unfolding NotRefused
  never-refused out (cut i e w) only n k x y z = cut-not (sym e ∙ z)
  never-refused out (rebuilt i t e s u) only n k x y z = done-not (sym e ∙ z)
  never-refused out (doubted i t e same one nay) only n k x y z = nay (only one)

  only-several : (out : Called) → Ends S b m out → (n k x y : ℕ) → out.answer ≡ Refused n k x y
      → (family ≡ 1) × (n ≡ 34) × (out.after ≡ pending_made m)
  unfolding code_of
  only-several out (cut i e w) n k x y z = absurd (cut-not (sym e ∙ z))
  only-several out (rebuilt i t e s u) n k x y z = absurd (done-not (sym e ∙ z))
  only-several out (doubted i t e same one nay) n k x y z =
      let number : 100 + 34 ≡ 100 + n = ap code_of (sym e ∙ z) in (one, omega (arith, number), same)

  restores : (out : Called) → Ends S b m out → (k sum : ℕ) → out.answer ≡ Done k sum → Restored keys h b out.after sum
  unfolding first_of
  restores out (cut i e w) k sum z = absurd (cut-done (sym e ∙ z))
  restores out (doubted i t e same one nay) k sum z = absurd (done-not (sym (sym e ∙ z)))
  restores out (rebuilt i t e s u) k sum z =
      let same : t ≡ sum = ap first_of (sym e ∙ z) in
      subst (Restored keys h b out.after) same (restored u t s)

  returns : (out : Called) → Ends S b m out → Returns keys h family b m out
  returns out e = record { not_refused = never-refused out e; refused = only-several out e; restores = restores out e }

pub history-rule : HistoryRule
unfolding HistoryRule format formatted
history-rule keys h f given es rest allowance plain = go (format_refusal keys h f given) refl
  where
    first : ℕ → Called
    first k = elim k as (λ z. Called) [ zero ↦ formatted keys h f | suc n ↦ refuse given (suc n) 0 0 ]

    go : (k : ℕ) → format_refusal keys h f given ≡ k → (first k).answer ≡ Done 0 0
        → Allowed keys false (first k).after (es ++ (recovers keys allowance ∷ rest))
        → Returns keys h f (book_of (first k).after empty_book es) (module_after (first k).after es)
        (recover keys allowance (module_after (first k).after es))
    go (suc n) e nay ok = absurd (done-not (sym nay))
    go zero e yea ok =
        let y = format-accepted keys h f given e in
        let S : Setting =
        record {
          keys = keys;
          keyed = record { at = plain };
          keys_length = y.keys_length;
          h = h;
          low = y.low;
          high = y.high;
          family = f;
          known = y.family;
        } in
        let l = led S es (recovers keys allowance ∷ rest) false empty_book _ (ready-inv S (first-ready S)) ok in
        returns _ (ends l.inv.holds allowance)

-- ---- what it comes to for family 0: no recovery with the same keys is refused, and there is no premise

pub phased-rule : (keys : List ℕ) (h : ℕ) (given : Module) (es rest : List Event) (allowance : ℕ)
    → AreBytes keys → (format keys h 0 given).answer ≡ Done 0 0
    → Allowed keys false (format keys h 0 given).after (es ++ (recovers keys allowance ∷ rest))
    → NotRefused (recover keys allowance (module_after (format keys h 0 given).after es)).answer
    × ((k sum : ℕ) → (recover keys allowance (module_after (format keys h 0 given).after es)).answer ≡ Done k sum
    → Restored keys h (book_of (format keys h 0 given).after empty_book es)
    (recover keys allowance (module_after (format keys h 0 given).after es)).after sum)
unfolding HistoryRule
phased-rule keys h given es rest allowance plain yea ok =
    let r = history-rule keys h 0 given es rest allowance plain yea ok in
    (r.not_refused (λ (z : ◌≡◌ {A = ℕ} 0 1). absurd (omega arith)), r.restores)
