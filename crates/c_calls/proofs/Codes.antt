-- Every code of an answer fits the C side's number. Assumes nothing.
use mathlib.Core.Logic.{inl, inr}
use mathlib.Core.Bool.{Bool, true, false, cond}
use mathlib.Core.List.{List}
use Prim.Native.Nat.{ℕ, zero, suc, ◌+◌, ◌-◌, ◌^◌, ◌≤◌}
use native.Mathlib.Omega.{arith}
use lib.Dec.{eqb, lit≤}
use lib.ListN.{length}
use Rattle.answer.specs.Answer.{code_of}
use Rattle.answer.specs.declared.Answer.{Answer}
use Rattle.answer.specs.declared.Answer.TheVariants.{Done, Blank, Cut, Refused}
use Rattle.counter.specs.Counter.{major}
use Rattle.control.specs.Control.{Cell, family, depth, root}
use Rattle.std.specs.Prelude.{Option, None, Some}
use Rattle.tag.specs.Tag.{node_tag}
use Rattle.cache.specs.Cache.{current}
use Rattle.journal.specs.Journal.{Store, batch_stores, is_cut, pending_stores}
use Rattle.calls.specs.Path.{Loaded, loaded, differs}
use Rattle.calls.specs.Call.{Module, Called, media_of, access_refusal, refuse, storing, path_of}
use Rattle.calls.specs.Read.{Reading, line_minor, side_ok, answered, read_loaded, read_path, read_judged, read}
use Rattle.calls.specs.Write.{write_loaded, write_path, write_judged, write}
use Rattle.calls.specs.Turn.{turn_refusal, block_of, page_path, turn_checked, turn_loaded, turn_path, turn_judged, turn}
use Rattle.calls.specs.Recovery.{Forwarded, so_far, failed, source_of, recovery_refusal, recover_root}
use Rattle.calls.specs.Recovery.{recover_rebuilt, recover_shadow, recover_judged, recover}
use Rattle.calls.specs.Format.{format_refusal, formatted, format}
use Rattle.calls.specs.DirtyPages.{list_refusal, list_judged, dirty_pages}
use Rattle.call_laws.proofs.Judged.{judged-most}
use Rattle.call_laws.proofs.Steps.{EndIs, StepRefusal, line_step_lem, blocks_end}

-- no refusal has a higher number
abbrev pub last_refusal : ℕ
last_refusal = 34

-- the code of a call's answer is small
pub record Fits (x : Called) : Type 0 where
  pub code : code_of x.answer ≤ 100 + last_refusal

refused-fits : (n k a b : ℕ) (m : Module) → n ≤ last_refusal → Fits (record { answer = Refused n k a b; after = m })
unfolding code_of
refused-fits n k a b m p = record { code = omega arith }

cut_fits : (n : ℕ) (m : Module) → Fits (record { answer = Cut n; after = m })
unfolding code_of
cut_fits n m = record { code = lit≤ tt }

blank-fits : (n : ℕ) (m : Module) → Fits (record { answer = Blank n; after = m })
unfolding code_of
blank-fits n m = record { code = lit≤ tt }

done-fits : (n t : ℕ) (m : Module) → Fits (record { answer = Done n t; after = m })
unfolding code_of
done-fits n t m = record { code = lit≤ tt }

-- by a test
either : (b : Bool) {x y : Called} → Fits x → Fits y → Fits (cond b x y)
either true p q = p
either false p q = q

storing-fits : (allowance : ℕ) (m : Module) (xs : List Store) (answer : Answer) (c : List ℕ)
    → ((n : Module) → Fits (record { answer = answer; after = n }))
    → Fits (storing allowance m xs answer c)
unfolding storing
storing-fits allowance m xs answer c p = either (is_cut allowance xs) (cut_fits _ _) (p _)

-- ---- refusals from the input and the state

access-small : (keys : List ℕ) (line : ℕ) (b : List ℕ) (m : Module) → access_refusal keys line b m ≤ last_refusal
unfolding access_refusal
access-small keys line b m =
    judged-most last_refusal _
    (lit≤ tt, (lit≤ tt, (lit≤ tt, (lit≤ tt, (lit≤ tt, (lit≤ tt, (lit≤ tt, (lit≤ tt, (lit≤ tt, (lit≤ tt, tt))))))))))

turn_small : (keys : List ℕ) (p : ℕ) (m : Module) → turn_refusal keys p m ≤ last_refusal
unfolding turn_refusal
turn_small keys p m =
    judged-most last_refusal _ (lit≤ tt, (lit≤ tt, (lit≤ tt, (lit≤ tt, (lit≤ tt, (lit≤ tt, (lit≤ tt, (lit≤ tt, (lit≤ tt, tt)))))))))

recovery-small : (keys : List ℕ) (m : Module) → recovery_refusal keys m ≤ last_refusal
unfolding recovery_refusal
recovery-small keys m = judged-most last_refusal _ (lit≤ tt, (lit≤ tt, (lit≤ tt, (lit≤ tt, (lit≤ tt, tt)))))

format_small : (keys : List ℕ) (h f : ℕ) (m : Module) → format_refusal keys h f m ≤ last_refusal
unfolding format_refusal
format_small keys h f m = judged-most last_refusal _ (lit≤ tt, (lit≤ tt, (lit≤ tt, (lit≤ tt, (lit≤ tt, tt)))))

list-refusal-small : (control cache out : List ℕ) → list_refusal control cache out ≤ last_refusal
unfolding list_refusal
list-refusal-small control cache out = judged-most last_refusal _ (lit≤ tt, (lit≤ tt, (lit≤ tt, (lit≤ tt, (lit≤ tt, tt)))))

-- ---- the calls

read-tests : (b t : Bool) (x y z : Reading) → Fits x.called → Fits y.called → Fits z.called
    → Fits (cond b x (cond t y z)).called
read-tests true t x y z p q r = p
read-tests false true x y z p q r = q
read-tests false false x y z p q r = r

module _ (keys : List ℕ) (line allowance : ℕ) (out : List ℕ) (m : Module) where
  read-path : (l : Loaded) → Fits (read_path keys line allowance m out l).called
  unfolding read_path read_loaded answered
  read-path (differs l i) = refused-fits 24 0 l i m (lit≤ tt)
  read-path (loaded c x) =
      read-tests (eqb (line_minor c line) 0) (side_ok (family m.control) keys m.array c line) _ _ _
      (storing-fits allowance m (batch_stores x (root m.control)) (Blank (length (batch_stores x (root m.control)))) c (blank-fits _))
      (storing-fits allowance m (batch_stores x (root m.control)) (Done (length (batch_stores x (root m.control))) 0) c (done-fits _ 0))
      (refused-fits 25 0 line 0 m (lit≤ tt))

  read-judged : (n : ℕ) → n ≤ last_refusal → Fits (read_judged n keys line allowance m out).called
  unfolding read_judged
  read-judged zero p = read-path (path_of keys line m)
  read-judged (suc n) p = refused-fits (suc n) 0 0 0 m p

  pub read_fits : Fits (read keys line allowance out m).called
  read_fits = read-judged (access_refusal keys line out m) (access-small keys line out m)

module _ (keys : List ℕ) (line : ℕ) (text : List ℕ) (allowance : ℕ) (m : Module) where
  write-path : (l : Loaded) → Fits (write_path keys line text allowance m l)
  unfolding write_path write_loaded
  write-path (differs l i) = refused-fits 24 0 l i m (lit≤ tt)
  write-path (loaded c x) =
      either (eqb (line_minor c line) 127) (refused-fits 26 0 0 0 m (lit≤ tt)) (storing-fits allowance m _ _ _ (done-fits _ 0))

  write-judged : (n : ℕ) → n ≤ last_refusal → Fits (write_judged n keys line text allowance m)
  unfolding write_judged
  write-judged zero p = write-path (path_of keys line m)
  write-judged (suc n) p = refused-fits (suc n) 0 0 0 m p

  pub write-fits : Fits (write keys line text allowance m)
  write-fits = write-judged (access_refusal keys line text m) (access-small keys line text m)

module _ (keys : List ℕ) (p allowance : ℕ) (m : Module) where
  turn-checked : (c : List ℕ) (x : List Cell) (f : Option ℕ) → Fits (turn_checked keys p allowance m c x f)
  unfolding turn_checked
  turn-checked c x (Some n) = refused-fits 25 0 n 0 m (lit≤ tt)
  turn-checked c x None = storing-fits allowance m _ _ _ (done-fits _ 0)

  turn-path : (l : Loaded) → Fits (turn_path keys p allowance m l)
  unfolding turn_path turn_loaded
  turn-path (differs l i) = refused-fits 24 0 l i m (lit≤ tt)
  turn-path (loaded c x) =
      either (eqb (major (block_of c p)) (2 ^ 64 - 1)) (refused-fits 31 0 0 0 m (lit≤ tt)) (turn-checked c x _)

  turn-judged : (n : ℕ) → n ≤ last_refusal → Fits (turn_judged n keys p allowance m)
  unfolding turn_judged
  turn-judged zero q = turn-path (page_path keys p m)
  turn-judged (suc n) q = refused-fits (suc n) 0 0 0 m q

  pub turn-fits : Fits (turn keys p allowance m)
  turn-fits = turn-judged (turn_refusal keys p m) (turn_small keys p m)

step_small : (f : ℕ) {k : ℕ} → StepRefusal f k → k ≤ last_refusal
unfolding StepRefusal
step_small zero (inl e) = omega arith
step_small zero (inr e) = omega arith
step_small (suc f) (inl e) = omega arith
step_small (suc f) (inr e) = omega arith

module _ (keys : List ℕ) where
  recover-root : (k : ℕ) (m : Module) (sum : ℕ) (c : List ℕ) → Fits (recover_root keys k m sum c)
  unfolding recover_root
  recover-root k m sum c =
      let h = depth m.control in
      either (eqb (node_tag keys (current h m.array c h 0) h 0) (root m.control)) (done-fits k sum _)
      (refused-fits 29 k 0 0 m (lit≤ tt))

  recover-rebuilt : (k : ℕ) (m : Module) (os : List ℕ) (r : Forwarded) → EndIs (StepRefusal (family m.control)) r
      → Fits (recover_rebuilt keys k m os r)
  unfolding recover_rebuilt EndIs
  recover-rebuilt k m os (so_far d sum) e = recover-root k m sum _
  recover-rebuilt k m os (failed n x) e = refused-fits n k x 0 m (step_small (family m.control) e)

  recover-shadow : (k : ℕ) (m : Module) (os : List ℕ) (f : Option ℕ) → Fits (recover_shadow keys k m os f)
  unfolding recover_shadow
  recover-shadow k m os (Some s) = refused-fits 27 k s 0 m (lit≤ tt)
  recover-shadow k m os None =
      recover-rebuilt k m os _
      (blocks_end (StepRefusal (family m.control)) (depth m.control) keys (media_of m)
      (λ ma. line_step_lem (source_of keys (media_of m) ma)) _ _ _ _)

  recover-judged : (allowance : ℕ) (m : Module) (n : ℕ) → n ≤ last_refusal → Fits (recover_judged n keys allowance m)
  unfolding recover_judged
  recover-judged allowance m zero p = either (is_cut allowance (pending_stores m.control)) (cut_fits _ _) (recover-shadow _ _ _ _)
  recover-judged allowance m (suc n) p = refused-fits (suc n) 0 0 0 m p

  pub recover-fits : (allowance : ℕ) (m : Module) → Fits (recover keys allowance m)
  recover-fits allowance m = recover-judged allowance m (recovery_refusal keys m) (recovery-small keys m)

  format-judged : (h f : ℕ) (m : Module) (n : ℕ) → n ≤ last_refusal
      → Fits (elim n as (λ _. Called) [ zero ↦ formatted keys h f | suc i ↦ refuse m (suc i) 0 0 ])
  unfolding formatted
  format-judged h f m zero p = done-fits 0 0 _
  format-judged h f m (suc n) p = refused-fits (suc n) 0 0 0 m p

  pub format-fits : (h f : ℕ) (m : Module) → Fits (format keys h f m)
  unfolding format
  format-fits h f m = format-judged h f m (format_refusal keys h f m) (format_small keys h f m)

list-judged : (control cache out : List ℕ) (n : ℕ) → n ≤ last_refusal
    → code_of (list_judged n control cache out).answer ≤ 100 + last_refusal
unfolding list_judged code_of
list-judged control cache out zero p = lit≤ tt
list-judged control cache out (suc n) p = omega arith

pub list-fits : (control cache out : List ℕ) → code_of (dirty_pages control cache out).answer ≤ 100 + last_refusal
list-fits control cache out = list-judged control cache out (list_refusal control cache out) (list-refusal-small control cache out)
