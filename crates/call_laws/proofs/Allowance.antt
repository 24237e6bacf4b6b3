-- The allowance rule, for read, write, turn and recovery: no call makes more stores than it is allowed, one is cut exactly where it is
-- allowed fewer than it makes when allowed enough, with just that number, and otherwise the allowance changes nothing. Assumes nothing.
use mathlib.Core.Path.{◌≡◌, refl, sym, ap, ◌∙◌, subst}
use mathlib.Core.Logic.{⊎_elim}
use mathlib.Core.Bool.{Bool, true, false, cond}
use mathlib.Core.List.{List}
use Prim.Native.Nat.{ℕ, zero, suc, ◌-◌, ◌^◌, ◌≤◌, ◌<◌}
use native.Mathlib.Nat.{le_refl, le_trans, le_of_eq, not-suc-le-zero}
use native.Mathlib.Omega.{arith}
use lib.Dec.{eqb}
use lib.ListN.{length, take, drop}
use Rattle.words.proofs.Order.{lt-or-ge}
use Rattle.answer.specs.declared.Answer.{Answer}
use Rattle.answer.specs.declared.Answer.TheVariants.{Done, Blank, Cut, Refused}
use Rattle.answer.specs.Answer.{stores_of}
use Rattle.counter.specs.Counter.{major}
use Rattle.control.specs.Control.{Cell, family, depth, root}
use Rattle.std.specs.Prelude.{Option, None, Some}
use Rattle.cache.specs.Cache.{shadow_owners, current, bad_slot, empty_cache}
use Rattle.tag.specs.Tag.{node_tag}
use Rattle.journal.specs.Journal.{Store, store_all, pending_stores, batch_stores}
use Rattle.journal.proofs.Laws.{made_all, less-cut, enough-whole, cut-made}
use Rattle.calls.specs.Path.{Loaded, loaded, differs}
use Rattle.calls.specs.Call.{Module, Called, NotCut, media_of, with_media, refuse, storing, access_refusal, path_of}
use Rattle.calls.specs.Read.{blank_text, answered, refused_read, line_minor, side_ok, line_text, read_loaded, read_path, read_judged, read}
use Rattle.calls.specs.Write.{write_stores, written_cache, write_loaded, write_path, write_judged, write}
use Rattle.calls.specs.Turn.{turn_refusal, block_of, turn_places, bad_line, turn_batches, stores_for, turned_cache, turn_checked}
use Rattle.calls.specs.Turn.{turn_loaded, turn_path}
use Rattle.calls.specs.Turn.{page_path, turn_judged, turn}
use Rattle.calls.specs.Recovery.{Forwarded, so_far, failed, rebuild_blocks, rebuild_nodes, recovery_refusal}
use Rattle.calls.specs.Recovery.{recover_root, recover_rebuilt, recover_shadow, recover_media, recover_judged, recover}

-- a call as a function of its allowance
pub record Limited (f : ℕ → Called) : Type 0 where
  pub within : (a : ℕ) → stores_of (f a).answer ≤ a
  pub enough : (b : ℕ) × NotCut (f b).answer
  pub cut : (a b : ℕ) → NotCut (f b).answer → a < stores_of (f b).answer → (f a).answer ≡ Cut a
  pub same : (a b : ℕ) → NotCut (f b).answer → stores_of (f b).answer ≤ a → f a ≡ f b

-- n stores, of which an allowance makes the first, and then what follows from them
record Staged (f : ℕ → Called) (n : ℕ) (g : Called) : Type 0 where
  less : (a : ℕ) → a < n → (f a).answer ≡ Cut a
  rest : (a : ℕ) → n ≤ a → f a ≡ g
  all : stores_of g.answer ≡ n
  not : NotCut g.answer

module _ (f : ℕ → Called) (n : ℕ) (g : Called) (s : Staged f n g) where
  full : (b : ℕ) → NotCut (f b).answer → f b ≡ g
  unfolding NotCut
  full b p = ⊎_elim (λ h. absurd (p b (s.less b h))) (λ h. s.rest b h) (lt-or-ge b n)

  stores : (b : ℕ) → NotCut (f b).answer → stores_of (f b).answer ≡ n
  stores b p = ap (λ (c : Called). stores_of c.answer) (full b p) ∙ s.all

  within-stores : (a : ℕ) → stores_of (f a).answer ≤ a
  unfolding stores_of
  within-stores a =
      ⊎_elim (λ h. le_of_eq (ap stores_of (s.less a h)))
      (λ h. le_trans (le_of_eq (ap (λ (c : Called). stores_of c.answer) (s.rest a h) ∙ s.all)) h) (lt-or-ge a n)

  limited : Limited f
  limited =
      record {
        within = within-stores;
        enough = (n, subst (λ (c : Called). NotCut c.answer) (sym (s.rest n (le_refl n))) s.not);
        cut = λ a b p h. s.less a (subst (λ (k : ℕ). a < k) (stores b p) h);
        same = λ a b p h. s.rest a (subst (λ (k : ℕ). k ≤ a) (stores b p) h) ∙ sym (full b p);
      }

done-not : (k t : ℕ) → NotCut (Done k t)
unfolding NotCut
done-not k t j e = let z : ◌≡◌ {A = ℕ} 0 1 = cc in omega arith

blank-not : (k : ℕ) → NotCut (Blank k)
unfolding NotCut
blank-not k j e = let z : ◌≡◌ {A = ℕ} 0 1 = cc in omega arith

refused-not : (n k a b : ℕ) → NotCut (Refused n k a b)
unfolding NotCut
refused-not n k a b j e = let z : ◌≡◌ {A = ℕ} 0 1 = cc in omega arith

-- a refusal before any store
refused-limited : (m : Module) (n x y : ℕ) → Limited (λ a. refuse m n x y)
unfolding stores_of
refused-limited m n x y =
    limited (λ a. refuse m n x y) 0 (refuse m n x y)
    (record { less = λ a h. absurd (not-suc-le-zero h); rest = λ a h. refl; all = refl; not = refused-not n 0 x y })

cut-answer : (a : ℕ) (m : Module) (xs : List Store) (answer : Answer) (c : List ℕ) → a < length xs
    → (storing a m xs answer c).answer ≡ Cut a
unfolding storing
cut-answer a m xs answer c h = rw (less-cut a xs h, cut-made a xs h)

full-answer : (a : ℕ) (m : Module) (xs : List Store) (answer : Answer) (c : List ℕ) → length xs ≤ a
    → storing a m xs answer c ≡ record { answer = answer; after = with_media (store_all (media_of m) xs) c }
unfolding storing
full-answer a m xs answer c h = rw (enough-whole a xs h, made_all a xs h)

-- stores under an allowance
stored-limited : (m : Module) (xs : List Store) (answer : Answer) (c : List ℕ) → stores_of answer ≡ length xs → NotCut answer
    → Limited (λ a. storing a m xs answer c)
stored-limited m xs answer c e p =
    limited (λ a. storing a m xs answer c) (length xs) (record { answer = answer; after = with_media (store_all (media_of m) xs) c })
    (record { less = λ a h. cut-answer a m xs answer c h; rest = λ a h. full-answer a m xs answer c h; all = e; not = p })

module _ (keys : List ℕ) (line : ℕ) (m : Module) where
  -- ---- read

  module _ (out : List ℕ) where
    read_found : (b : Bool) (text : List ℕ) (xs : List Store) (c : List ℕ)
        → Limited (λ a. (cond b (answered a m xs (Done (length xs) 0) c text out) (refused_read (refuse m 25 line 0) out)).called)
    unfolding answered stores_of
    read_found true text xs c = stored-limited m xs (Done (length xs) 0) c refl (done-not (length xs) 0)
    read_found false text xs c = refused-limited m 25 line 0

    read-line : (z b : Bool) (text : List ℕ) (xs : List Store) (c : List ℕ)
        → Limited (λ a. (cond z (answered a m xs (Blank (length xs)) c blank_text out)
        (cond b (answered a m xs (Done (length xs) 0) c text out) (refused_read (refuse m 25 line 0) out))).called)
    unfolding answered stores_of
    read-line true b text xs c = stored-limited m xs (Blank (length xs)) c refl (blank-not (length xs))
    read-line false b text xs c = read_found b text xs c

    read-path : (r : Loaded) → Limited (λ a. (read_path keys line a m out r).called)
    unfolding read_path read_loaded
    read-path (differs l i) = refused-limited m 24 l i
    read-path (loaded c x) =
        read-line (eqb (line_minor c line) 0) (side_ok (family m.control) keys m.array c line) (line_text keys m.array c line)
        (batch_stores x (root m.control)) c

    read-judged : (n : ℕ) → Limited (λ a. (read_judged n keys line a m out).called)
    unfolding read_judged
    read-judged zero = read-path (path_of keys line m)
    read-judged (suc n) = refused-limited m (suc n) 0 0

    pub read-limited : Limited (λ a. (read keys line a out m).called)
    read-limited = read-judged (access_refusal keys line out m)

  -- ---- write

  module _ (text : List ℕ) where
    write-line : (b : Bool) (xs : List Store) (c : List ℕ)
        → Limited (λ a. cond b (refuse m 26 0 0) (storing a m xs (Done (length xs) 0) c))
    unfolding stores_of
    write-line true xs c = refused-limited m 26 0 0
    write-line false xs c = stored-limited m xs (Done (length xs) 0) c refl (done-not (length xs) 0)

    write-path : (r : Loaded) → Limited (λ a. write_path keys line text a m r)
    unfolding write_path write_loaded
    write-path (differs l i) = refused-limited m 24 l i
    write-path (loaded c x) =
        write-line (eqb (line_minor c line) 127) (write_stores (depth m.control) (family m.control) keys line text c x)
        (written_cache (depth m.control) keys line c)

    write-judged : (n : ℕ) → Limited (λ a. write_judged n keys line text a m)
    unfolding write_judged
    write-judged zero = write-path (path_of keys line m)
    write-judged (suc n) = refused-limited m (suc n) 0 0

    pub write-limited : Limited (λ a. write keys line text a m)
    write-limited = write-judged (access_refusal keys line text m)

-- ---- turn

module _ (keys : List ℕ) (p : ℕ) (m : Module) where
  turn-checked : (c : List ℕ) (x : List Cell) (f : Option ℕ) → Limited (λ a. turn_checked keys p a m c x f)
  unfolding turn_checked stores_of
  turn-checked c x (Some n) = refused-limited m 25 n 0
  turn-checked c x None =
      let xs = stores_for (turn_batches keys p m c x) in
      stored-limited m xs (Done (length xs) 0) (turned_cache (depth m.control) keys c p) refl (done-not (length xs) 0)

  turn-worn : (b : Bool) (c : List ℕ) (x : List Cell) (f : Option ℕ) → Limited (λ a. cond b (refuse m 31 0 0) (turn_checked keys p a m c x f))
  turn-worn true c x f = refused-limited m 31 0 0
  turn-worn false c x f = turn-checked c x f

  turn-path : (r : Loaded) → Limited (λ a. turn_path keys p a m r)
  unfolding turn_path turn_loaded
  turn-path (differs l i) = refused-limited m 24 l i
  turn-path (loaded c x) =
      turn-worn (eqb (major (block_of c p)) (2 ^ 64 - 1)) c x
      (bad_line (family m.control) keys m.array c p (turn_places m.control c p))

  turn-judged : (n : ℕ) → Limited (λ a. turn_judged n keys p a m)
  unfolding turn_judged
  turn-judged zero = turn-path (page_path keys p m)
  turn-judged (suc n) = refused-limited m (suc n) 0 0

  pub turn-limited : Limited (λ a. turn keys p a m)
  turn-limited = turn-judged (turn_refusal keys p m)

-- ---- recovery

module _ (keys : List ℕ) (k : ℕ) (m : Module) where
  -- after the pending stores recovery tells their number, and is not cut
  pub record Tells (c : Called) : Type 0 where
    pub stores : stores_of c.answer ≡ k
    pub not : NotCut c.answer

  tells-refused : (n x : ℕ) → Tells (record { answer = Refused n k x 0; after = m })
  unfolding stores_of
  tells-refused n x = record { stores = refl; not = refused-not n k x 0 }

  tells-root : (b : Bool) (sum : ℕ) (n : Module)
      → Tells (cond b (record { answer = Done k sum; after = n }) (record { answer = Refused 29 k 0 0; after = m }))
  unfolding stores_of
  tells-root true sum n = record { stores = refl; not = done-not k sum }
  tells-root false sum n = tells-refused 29 0

  tells-rebuilt : (os : List ℕ) (r : Forwarded) → Tells (recover_rebuilt keys k m os r)
  unfolding recover_rebuilt recover_root
  tells-rebuilt os (failed n x) = tells-refused n x
  tells-rebuilt os (so_far d sum) =
      let h = depth m.control in
      let c = rebuild_nodes h keys m.array 4 (drop 4 os) d in
      tells-root (eqb (node_tag keys (current h m.array c h 0) h 0) (root m.control)) sum
      (record { array = m.array; control = m.control; cache = c })

  tells-shadow : (os : List ℕ) (f : Option ℕ) → Tells (recover_shadow keys k m os f)
  unfolding recover_shadow
  tells-shadow os (Some s) = tells-refused 27 s
  tells-shadow os None =
      tells-rebuilt os (rebuild_blocks (depth m.control) keys (media_of m) 0 (take 4 os) (empty_cache (depth m.control)) 0)

  tells-media : Tells (recover_media keys k m)
  tells-media =
      tells-shadow (shadow_owners (depth m.control) m.array)
      (bad_slot (depth m.control) (shadow_owners (depth m.control) m.array))

module _ (keys : List ℕ) (m : Module) where
  abbrev xs : List Store
  xs = pending_stores m.control

  recover-cut : (a : ℕ) → a < length xs → (recover_judged 0 keys a m).answer ≡ Cut a
  unfolding recover_judged
  recover-cut a h = rw (less-cut a xs h, cut-made a xs h)

  recover-full : (a : ℕ) → length xs ≤ a
      → recover_judged 0 keys a m ≡ recover_media keys (length xs) (with_media (store_all (media_of m) xs) m.cache)
  unfolding recover_judged
  recover-full a h = rw (enough-whole a xs h, made_all a xs h)

  recover-judged : (n : ℕ) → Limited (λ a. recover_judged n keys a m)
  unfolding recover_judged
  recover-judged zero =
      let n = length xs in
      let d = with_media (store_all (media_of m) xs) m.cache in
      limited (λ a. recover_judged 0 keys a m) n (recover_media keys n d)
      (record { less = recover-cut; rest = recover-full; all = (tells-media keys n d).stores; not = (tells-media keys n d).not })
  recover-judged (suc n) = refused-limited m (suc n) 0 0

  pub recover-limited : Limited (λ a. recover keys a m)
  recover-limited = recover-judged (recovery_refusal keys m)
