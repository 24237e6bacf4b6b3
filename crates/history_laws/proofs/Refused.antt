-- A call that is refused and makes no store leaves the module, whatever its keys. Assumes nothing.
use mathlib.Core.Path.{◌≡◌, refl, sym, ap, ◌∙◌}
use mathlib.Core.Bool.{Bool, true, false, cond}
use mathlib.Core.List.{List, []}
use Prim.Native.Nat.{ℕ, zero, suc, ◌+◌, ◌-◌, ◌^◌}
use native.Mathlib.Omega.{arith}
use lib.Dec.{eqb}
use lib.ListN.{length, take, drop}
use lib.Seq.{take-nil}
use Rattle.answer.specs.declared.Answer.{Answer}
use Rattle.answer.specs.declared.Answer.TheVariants.{Done, Blank, Cut, Refused}
use Rattle.answer.specs.Answer.{code_of, stores_of}
use Rattle.counter.specs.Counter.{major}
use Rattle.control.specs.Control.{Cell, family, depth, root}
use Rattle.std.specs.Prelude.{Option, None, Some}
use Rattle.cache.specs.Cache.{shadow_owners, bad_slot, empty_cache, current}
use Rattle.tag.specs.Tag.{node_tag}
use Rattle.journal.specs.Journal.{Store, Media, store_all, batch_stores, pending_stores, is_cut}
use Rattle.journal.proofs.Laws.{store-none}
use Rattle.calls.specs.Path.{Loaded, loaded, differs}
use Rattle.calls.specs.Call.{Module, Called, media_of, with_media, storing, refuse, path_of, access_refusal}
use Rattle.calls.specs.Read.{blank_text, answered, refused_read, line_minor, side_ok, line_text, read_loaded, read_path, read_judged, read}
use Rattle.calls.specs.Write.{write_stores, written_cache, write_loaded, write_path, write_judged, write}
use Rattle.calls.specs.Turn.{turn_refusal, block_of, turn_places, bad_line, turn_batches, stores_for, turned_cache}
use Rattle.calls.specs.Turn.{turn_checked, turn_loaded, turn_path, turn_judged, turn, page_path}
use Rattle.calls.specs.Recovery.{refuse_after, Forwarded, so_far, failed, rebuild_blocks, rebuild_nodes}
use Rattle.calls.specs.Recovery.{recovery_refusal, recover_root, recover_rebuilt, recover_shadow, recover_media, recover_judged, recover}
use Rattle.history_laws.proofs.Outcome.{no-elements, made_stores, cut_among, cases}

-- ---- answers apart

pub done-not : {k t n j a b : ℕ} → Done k t ≡ Refused n j a b → ⊥
unfolding code_of
done-not {n = n} e = let z : ◌≡◌ {A = ℕ} 0 (100 + n) = ap code_of e in omega arith

pub blank-not : {k n j a b : ℕ} → Blank k ≡ Refused n j a b → ⊥
unfolding code_of
blank-not {n = n} e = let z : ◌≡◌ {A = ℕ} 1 (100 + n) = ap code_of e in omega arith

pub cut-not : {k n j a b : ℕ} → Cut k ≡ Refused n j a b → ⊥
unfolding code_of
cut-not {n = n} e = let z : ◌≡◌ {A = ℕ} 2 (100 + n) = ap code_of e in omega arith

-- ---- the calls

abbrev pub Same : Module → Called → Type 0
Same m out = (n a b : ℕ) → out.answer ≡ Refused n 0 a b → out.after ≡ m

module _ (m : Module) where
  storing-same : (allowance : ℕ) (xs : List Store) (answer : Answer) (c : List ℕ) → ((n a b : ℕ) → answer ≡ Refused n 0 a b → ⊥)
      → Same m (storing allowance m xs answer c)
  storing-same allowance xs answer c nay =
      cases (Same m) allowance m xs answer c (λ p n a b e. absurd (cut-not e)) (λ p n a b e. absurd (nay n a b e))

  module _ (keys : List ℕ) (line allowance : ℕ) (out : List ℕ) where
    read-loaded : (c : List ℕ) (x : List Cell) → Same m (read_loaded keys line allowance m out c x).called
    unfolding read_loaded answered
    read-loaded c x = go (eqb (line_minor c line) 0) (side_ok (family m.control) keys m.array c line)
      where
        xs : List Store
        xs = batch_stores x (root m.control)

        go : (s t : Bool) → Same m (cond s (answered allowance m xs (Blank (length xs)) c blank_text out)
            (cond t (answered allowance m xs (Done (length xs) 0) c (line_text keys m.array c line) out)
            (refused_read (refuse m 25 line 0) out))).called
        go true t = storing-same allowance xs (Blank (length xs)) c (λ n a b e. blank-not e)
        go false true = storing-same allowance xs (Done (length xs) 0) c (λ n a b e. done-not e)
        go false false = λ n a b e. refl

    read-path : (r : Loaded) → Same m (read_path keys line allowance m out r).called
    unfolding read_path
    read-path (differs l i) = λ n a b e. refl
    read-path (loaded c x) = read-loaded c x

    pub read_same : Same m (read keys line allowance out m).called
    unfolding read_judged
    read_same = go (access_refusal keys line out m)
      where
        go : (k : ℕ) → Same m (read_judged k keys line allowance m out).called
        go zero = read-path (path_of keys line m)
        go (suc k) = λ n a b e. refl

  module _ (keys : List ℕ) (line : ℕ) (text : List ℕ) (allowance : ℕ) where
    write-loaded : (c : List ℕ) (x : List Cell) → Same m (write_loaded keys line text allowance m c x)
    unfolding write_loaded
    write-loaded c x = go (eqb (line_minor c line) 127)
      where
        xs : List Store
        xs = write_stores (depth m.control) (family m.control) keys line text c x

        d : List ℕ
        d = written_cache (depth m.control) keys line c

        go : (s : Bool) → Same m (cond s (refuse m 26 0 0) (storing allowance m xs (Done (length xs) 0) d))
        go true = λ n a b e. refl
        go false = storing-same allowance xs (Done (length xs) 0) d (λ n a b e. done-not e)

    write-path : (r : Loaded) → Same m (write_path keys line text allowance m r)
    unfolding write_path
    write-path (differs l i) = λ n a b e. refl
    write-path (loaded c x) = write-loaded c x

    pub write_same : Same m (write keys line text allowance m)
    unfolding write_judged
    write_same = go (access_refusal keys line text m)
      where
        go : (k : ℕ) → Same m (write_judged k keys line text allowance m)
        go zero = write-path (path_of keys line m)
        go (suc k) = λ n a b e. refl

  module _ (keys : List ℕ) (p allowance : ℕ) where
    turn-checked : (c : List ℕ) (x : List Cell) (f : Option ℕ) → Same m (turn_checked keys p allowance m c x f)
    unfolding turn_checked
    turn-checked c x (Some i) = λ n a b e. refl
    turn-checked c x None =
        let xs = stores_for (turn_batches keys p m c x) in
        storing-same allowance xs (Done (length xs) 0) (turned_cache (depth m.control) keys c p) (λ n a b e. done-not e)

    turn-path : (r : Loaded) → Same m (turn_path keys p allowance m r)
    unfolding turn_path turn_loaded
    turn-path (differs l i) = λ n a b e. refl
    turn-path (loaded c x) =
        go (eqb (major (block_of c p)) (2 ^ 64 - 1)) (bad_line (family m.control) keys m.array c p (turn_places m.control c p))
      where
        go : (s : Bool) (f : Option ℕ) → Same m (cond s (refuse m 31 0 0) (turn_checked keys p allowance m c x f))
        go true f = λ n a b e. refl
        go false f = turn-checked c x f

    pub turn-same : Same m (turn keys p allowance m)
    unfolding turn_judged
    turn-same = go (turn_refusal keys p m)
      where
        go : (k : ℕ) → Same m (turn_judged k keys p allowance m)
        go zero = turn-path (page_path keys p m)
        go (suc k) = λ n a b e. refl

-- ---- recovery: what it refuses after its stores leaves what they left

record Left (k : ℕ) (x : Module) (out : Called) : Type 0 where
  told : (n j a b : ℕ) → out.answer ≡ Refused n j a b → j ≡ k
  same : (n j a b : ℕ) → out.answer ≡ Refused n j a b → out.after ≡ x

left-refused : (k : ℕ) (x : Module) (n a : ℕ) → Left k x (refuse_after k x n a)
unfolding stores_of
left-refused k x n a = record { told = λ i j c d e. sym (ap stores_of e); same = λ i j c d e. refl }

module _ (keys : List ℕ) (k : ℕ) (x : Module) where
  abbrev h : ℕ
  h = depth x.control

  left-root : (sum : ℕ) (c : List ℕ) → Left k x (recover_root keys k x sum c)
  unfolding recover_root
  left-root sum c = go (eqb (node_tag keys (current h x.array c h 0) h 0) (root x.control))
    where
      done : Called
      done = record { answer = Done k sum; after = record { array = x.array; control = x.control; cache = c } }

      go : (s : Bool) → Left k x (cond s done (refuse_after k x 29 0))
      go true = record { told = λ i j p q e. absurd (done-not e); same = λ i j p q e. absurd (done-not e) }
      go false = left-refused k x 29 0

  left-rebuilt : (os : List ℕ) (r : Forwarded) → Left k x (recover_rebuilt keys k x os r)
  unfolding recover_rebuilt
  left-rebuilt os (failed n i) = left-refused k x n i
  left-rebuilt os (so_far d sum) = left-root sum (rebuild_nodes h keys x.array 4 (drop 4 os) d)

  left-shadow : (os : List ℕ) (r : Option ℕ) → Left k x (recover_shadow keys k x os r)
  unfolding recover_shadow
  left-shadow os (Some s) = left-refused k x 27 s
  left-shadow os None = left-rebuilt os (rebuild_blocks h keys (media_of x) 0 (take 4 os) (empty_cache h) 0)

  left-media : Left k x (recover_media keys k x)
  left-media = left-shadow (shadow_owners h x.array) (bad_slot h (shadow_owners h x.array))

pub recover-same : (keys : List ℕ) (allowance : ℕ) (m : Module) → Same m (recover keys allowance m)
unfolding recover_judged
recover-same keys allowance m = go (recovery_refusal keys m)
  where
    xs : List Store
    xs = pending_stores m.control

    ended : (s : Bool) → Same m (cond s (cut_among allowance m xs) (recover_media keys (length xs) (made_stores allowance m xs)))
    ended true = λ n a b e. absurd (cut-not e)
    ended false = λ n a b e.
        let l = left-media keys (length xs) (made_stores allowance m xs) in
        let none_left : xs ≡ [] = no-elements xs (omega (arith, l.told n 0 a b e)) in
        l.same n 0 a b e
        ∙ ap (made_stores allowance m) none_left
        ∙ ap (λ (ys : List Store). with_media (store_all (media_of m) ys) m.cache) (take-nil allowance)
        ∙ ap (λ (d : Media). with_media d m.cache) (store-none (media_of m))

    go : (k : ℕ) → Same m (recover_judged k keys allowance m)
    go zero = ended (is_cut allowance xs)
    go (suc k) = λ n a b e. refl
