-- Recovery, wherever a module stands in a history, under the same keys: cut, it leaves what the next one needs; done, the module is ready;
-- refused as 34, in family 1, another candidate fits beside a count, and its pending stores stand. Assumes nothing.
use mathlib.Core.Path.{◌≡◌, refl, sym, ap, ◌∙◌, subst}
use mathlib.Core.Bool.{Bool, true, false, cond}
use mathlib.Core.List.{List, []}
use Prim.Native.Nat.{ℕ, ◌-◌}
use native.Mathlib.Omega.{arith}
use borrow.Author.Tests.{ltb-false}
use lib.ListN.{length}
use Rattle.words.proofs.Digits.{Below}
use Rattle.memory_map.specs.Map.{page_of, lines}
use Rattle.answer.specs.declared.Answer.TheVariants.{Done, Cut, Refused}
use Rattle.journal.specs.Journal.{Store, store_all, pending_stores, made, is_cut}
use Rattle.journal.proofs.Laws.{made_all}
use Rattle.calls.specs.Call.{Module, Called, media_of, with_media}
use Rattle.calls.specs.Recovery.{recovery_refusal, recover_media, recover_judged, recover}
use Rattle.calls.specs.Format.{counts_from}
use Rattle.history_laws.specs.History.{Book, pending_made, stored_minor, GoneThrough, OnlyCounts, total}
use Rattle.call_laws.proofs.Judged.{end, opened-on}
use Rattle.call_laws.proofs.Rebuilt.{recover-kept}
use Rattle.history_laws.proofs.Setting.{Setting, Tree, tree_of, Opening}
use Rattle.history_laws.proofs.Opening.{section-open}
use Rattle.history_laws.proofs.Brought.{Doubt}
use Rattle.history_laws.proofs.Recovered.{Recoverable, blocks, cache_after, all_slots, formed-after, Result, built, halted, result}
use Rattle.history_laws.proofs.Told.{told_is}
use Rattle.history_laws.proofs.Live.{Live}
use Rattle.history_laws.proofs.State.{Holds, Ready, fitted, settled-holds, tests-pass, all-bytes}
use Rattle.history_laws.proofs.Pending.{holds-cut}
use Rattle.history_laws.proofs.Outcome.{made_stores, cut_among}

-- ---- the ways in which it ends

module _ (S : Setting) (b : Book) (m : Module) where
  open S use {h}

  pub data Ends (out : Called) : Type 0 where
    cut : {o : Opening} (n : ℕ) → out.answer ≡ Cut n → Holds S b o out.after → Ends out
    rebuilt : {o : Opening} (n told : ℕ) → out.answer ≡ Done n told
        → told ≡ total (counts_from (λ i. b.count i - stored_minor h out.after i) 0 (lines h)) → Ready S b o out.after → Ends out
    doubted : (n x : ℕ) → out.answer ≡ Refused 34 n x 0 → out.after ≡ pending_made m → S.family ≡ 1
        → (OnlyCounts S.keys h b (pending_made m) → ⊥) → Ends out

-- the rebuilt cache goes with the array
rebuilt-live : {S : Setting} {T : Tree} {o : Opening} {x : Module} (v : Recoverable S T o x) → Below 256 (cache_after v)
    → Live S T o x.array (cache_after v)
rebuilt-live v plain =
    let u = all_slots v in
    record {
      durable = v.durable;
      fit = record { sized = u.sized; formed = formed-after v; bytes = plain };
      listed = λ s q. u.listed s q q;
      fresh = λ s i q o. u.fresh s i q q (sym (u.listed s q q) ∙ o);
      clean = λ s i q o z. absurd (omega (arith, u.full s i q o, z));
    }

module _ {S : Setting} {b : Book} {o : Opening} {m : Module} (held : Holds S b o m) (allowance : ℕ) where
  open S use {keys, h}

  no-refusal : recovery_refusal keys m ≡ 0
  unfolding recovery_refusal
  no-refusal = sym (opened-on [] (tests-pass held) end)

  abbrev xs : List Store
  xs = pending_stores m.control

  -- whether it is cut among the pending stores
  abbrev stored : Bool → Called
  stored x = cond x (cut_among allowance m xs) (recover_media keys (length xs) (made_stores allowance m xs))

  opened : recover keys allowance m ≡ stored (is_cut allowance xs)
  unfolding recover_judged
  opened = ap (λ (n : ℕ). recover_judged n keys allowance m) no-refusal

  -- the module once they are made
  recoverable : Recoverable S (tree_of b) o (pending_made m)
  recoverable =
      let s = held.settled in
      record {
        deep = s.deep;
        alike = s.alike;
        said = s.section;
        durable = s.keeps.durable;
        cells = fitted S s.keeps;
        top = s.top;
      }

  -- a candidate beside a count
  not-only : Doubt S (tree_of b) o (pending_made m).array → OnlyCounts keys h b (pending_made m) → ⊥
  unfolding OnlyCounts GoneThrough stored_minor
  not-only doubt only =
      let r = doubt.rival in
      let shut = section-open held.settled.section (page_of doubt.line) ∙ doubt.shut in
      r.other (only doubt.line r.minor (doubt.listed, shut) r.low r.high r.fits)

  abbrev out : Called
  out = recover keys allowance m

  not-cut : is_cut allowance xs ≡ false → out ≡ recover_media keys (length xs) (pending_made m)
  not-cut e =
      opened ∙ ap stored e
      ∙ ap (λ (l : List Store). recover_media keys (length xs) (with_media (store_all (media_of m) l) m.cache))
      (made_all allowance xs (ltb-false allowance (length xs) e))

  pub ends : Ends S b m out
  unfolding stored_minor
  ends = go (is_cut allowance xs) refl
    where
      whole : is_cut allowance xs ≡ false → Result recoverable (length xs) → Ends S b m out
      whole e (built same) =
          let v = recoverable in
          let told = (blocks v).told in
          let plain : Below 256 (cache_after v) =
          subst (λ (c : Called). Below 256 c.after.cache) (not-cut e ∙ same)
          (recover-kept keys allowance m (all-bytes held)).bytes.cache in
          subst (Ends S b m) (sym (not-cut e ∙ same))
          (rebuilt (length xs) told refl (told_is v.durable told (blocks v).adds)
          (record {
            holds = settled-holds (cache_after v) (all_slots v).sized plain held.settled;
            idle = held.settled.idle;
            live = rebuilt-live v plain;
          }))
      whole e (halted doubt n same) =
          subst (Ends S b m) (sym (not-cut e ∙ same)) (doubted (length xs) n refl refl doubt.unphased (not-only doubt))

      go : (x : Bool) → is_cut allowance xs ≡ x → Ends S b m out
      go true e = subst (Ends S b m) (sym (opened ∙ ap stored e)) (cut (length (made allowance xs)) refl (holds-cut held allowance))
      go false e = whole e (result recoverable (length xs))
