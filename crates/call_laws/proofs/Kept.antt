-- No call changes the length of a buffer, and bytes stay bytes. Assumes nothing.
use mathlib.Core.Path.{◌≡◌, refl, sym, ap, ◌∙◌, subst}
use mathlib.Core.Bool.{Bool, true, false, cond}
use mathlib.Core.List.{List}
use Prim.Native.Nat.{ℕ, zero, suc, ◌+◌, ◌*◌, ◌/◌, ◌%◌, ◌≤◌, ◌<◌, zero-le}
use native.Mathlib.Nat.{le_refl, mul-div_cancel_left}
use native.Mathlib.Omega.{arith}
use lib.Dec.{eqb, lit<}
use lib.ListN.{length}
use borrow.Author.Tests.{lt-ltb}
use Rattle.words.specs.Bytes.{to_le}
use Rattle.words.proofs.Digits.{Below, below-digits, length_digits}
use Rattle.memory_map.specs.Map.{cells, array_length, pages, page_of, place_of, on_path}
use Rattle.slot_map.specs.Slots.{cache_length, slot_of}
use Rattle.words.proofs.Parts.{length-put, below_put}
use Rattle.tag.specs.Tag.{node_tag}
use Rattle.memory_map.proofs.Laws.{cells-small, page-inside}
use Rattle.slot_map.proofs.Laws.{slot-within}
use Rattle.control.specs.Control.{Cell, control_length, family, depth, root, in_map}
use Rattle.cache.specs.Cache.{formed, content}
use Rattle.cache.proofs.Laws.{formed-facts, length-with, below-with, content-length, content-below, slot-room}
use Rattle.journal.specs.Journal.{Store, store_all, made, is_cut, batch_stores}
use Rattle.journal.proofs.Each.{Each, none, more}
use Rattle.journal.proofs.Kept.{Within, within-batch, made_kept, Formed as Media-as-Formed}
use Rattle.journal.proofs.Queue.{Whole}
use Rattle.answer.specs.declared.Answer.{Answer}
use Rattle.answer.specs.declared.Answer.TheVariants.{Done, Blank, Cut}
use Rattle.calls.specs.Path.{Loaded, loaded, differs, renewed, renew_path}
use Rattle.counter.specs.Counter.{major}
use Rattle.counter.proofs.Laws.{length-with_minor, below-with_minor}
use Rattle.calls.specs.Call.{Module, Called, media_of, with_media, refuse, storing, path_of, access_refusal}
use Rattle.calls.specs.Read.{Reading, answered, blank_text, page_block, line_minor, refused_read}
use Rattle.calls.specs.Read.{side_ok, line_text, read_loaded, read_path, read_judged, read}
use Rattle.calls.proofs.Blank.{blank-length, blank-bytes}
use Rattle.calls.specs.Write.{new_minor, new_block, stop_loss, line_cell, write_batch, write_stores}
use Rattle.calls.specs.Write.{written_cache, write_loaded, write_path, write_judged, write}
use Rattle.call_laws.specs.Line.{block_cells}
use Rattle.call_laws.proofs.Judged.{Opened, Accepted, access-accepted, head_of}
use Rattle.call_laws.proofs.Line.{Lent, all-length, all_sound, block-few, text-length, text-bytes}
use Rattle.call_laws.proofs.Loads.{Sound, Fit, Loads, LoadsIf, path-loads}

-- the buffers of a module hold bytes
pub record Bytes (m : Module) : Type 0 where
  pub array : Below 256 m.array
  pub control : Below 256 m.control
  pub cache : Below 256 m.cache

-- n's buffers are as long as m's, and hold bytes
pub record Kept (m n : Module) : Type 0 where
  pub array : length n.array ≡ length m.array
  pub control : length n.control ≡ length m.control
  pub cache : length n.cache ≡ length m.cache
  pub bytes : Bytes n

pub kept_same : (m : Module) → Bytes m → Kept m m
kept_same m b = record { array = refl; control = refl; cache = refl; bytes = b }

-- sound cells are whole, and lie in the map
pub wholes : (h : ℕ) → h ≤ 3 → {xs : List Cell} → Each (Sound h) xs → Each Whole xs
wholes h p none = none
wholes h p (more {x = x} s ss) =
    more {x = x} (record { word = omega (arith, s.inside, cells-small h p); size = s.size; bytes = s.bytes }) (wholes h p ss)

pub in_map_lem : (h : ℕ) {xs : List Cell} → Each (Sound h) xs → in_map (cells h) xs ≡ true
unfolding in_map
in_map_lem h none = refl
in_map_lem h (more {x = x} s ss) = rw (lt-ltb x.number (cells h) s.inside) (in_map_lem h ss)

pub array-cells : (h : ℕ) (n : ℕ) → n ≡ array_length h → n / 72 ≡ cells h
unfolding array_length
array-cells h n e = ap (λ (k : ℕ). k / 72) e ∙ mul-div_cancel_left (cells h) (lit< tt)

-- what a read keeps: the buffers, and the output's length and bytes
pub record ReadKept (m : Module) (out : List ℕ) (r : Reading) : Type 0 where
  pub buffers : Kept m r.called.after
  pub length-output : length r.output ≡ length out
  pub bytes-output : Below 256 r.output

refused-read : (m : Module) (b : Bytes m) (out : List ℕ) → Below 256 out → (n x y : ℕ) → ReadKept m out (refused_read (refuse m n x y) out)
refused-read m b out p n x y = record { buffers = kept_same m b; length-output = refl; bytes-output = p }

-- a module of depth h, its cache aside
pub record Buffers (h : ℕ) (m : Module) : Type 0 where
  pub bytes : Bytes m
  pub high : h ≤ 3
  pub whole : length m.array ≡ array_length h
  pub control_length : length m.control ≡ control_length

-- stores of sound cells, as far as an allowance goes
module _ {h : ℕ} {m : Module} (w : Buffers h m) where
  open w use {bytes, high, whole, control_length}

  pub media-formed : Media-as-Formed (length m.array) (media_of m)
  media-formed = record { array-length = refl; control_length = control_length; array-bytes = bytes.array; control-bytes = bytes.control }

  batch-within : {xs : List Cell} (r : ℕ) → Each (Sound h) xs → length xs ≤ 8 → Each (Within (length m.array / 72)) (batch_stores xs r)
  batch-within r s few = rw (array-cells h (length m.array) whole) (within-batch (cells h) r (wholes h high s) (in_map_lem h s) few)

  pub after-stores : (a : ℕ) {xs : List Store} (c : List ℕ) → Each (Within (length m.array / 72)) xs → length c ≡ length m.cache
      → Below 256 c → Kept m (with_media (store_all (media_of m) (made a xs)) c)
  after-stores a c s e p =
      let f = made_kept a media-formed s in
      record {
        array = f.array-length;
        control = f.control_length ∙ sym control_length;
        cache = e;
        bytes = record { array = f.array-bytes; control = f.control-bytes; cache = p };
      }

  pub storing-kept : (a : ℕ) (xs : List Store) (answer : Answer) (c : List ℕ) → Each (Within (length m.array / 72)) xs
      → length c ≡ length m.cache → Below 256 c → Kept m (storing a m xs answer c).after
  unfolding storing
  storing-kept a xs answer c s e p = go (is_cut a xs)
    where
      left : List ℕ → Module
      left d = with_media (store_all (media_of m) (made a xs)) d

      go : (t : Bool) → Kept m (cond {A = Called} t (record { answer = Cut (length (made a xs)); after = left m.cache })
          (record { answer = answer; after = left c })).after
      go true = after-stores a m.cache s refl bytes.cache
      go false = after-stores a c s e p

-- ---- the parts of a write

module _ {h : ℕ} {c : List ℕ} (fit : Fit h c) where
  slot-content : (l i : ℕ) → l ≤ h → length (content c (slot_of l i)) ≡ 64
  slot-content l i p = content-length c (slot_of l i) (slot-room h (slot_of l i) c fit.sized (slot-within h l i p))

  module _ (keys : List ℕ) (p : ℕ) (b : List ℕ) (size : length b ≡ 64) (plain : Below 256 b) where
    renewed-length : (l : ℕ) → l ≤ h → length (renewed keys c p b l) ≡ 64
    unfolding renewed
    renewed-length zero q = size
    renewed-length (suc l) q =
        let i = on_path p (suc l) in
        let t = node_tag keys (renewed keys c p b l) l (on_path p l) in
        length-put (content c (slot_of (suc l) i)) (8 * (on_path p l % 8)) (to_le 8 t)
        (omega (arith, length_digits 256 8 t, slot-content (suc l) i q)) ∙ slot-content (suc l) i q

    renewed-bytes : (l : ℕ) → Below 256 (renewed keys c p b l)
    unfolding renewed
    renewed-bytes zero = plain
    renewed-bytes (suc l) =
        let i = on_path p (suc l) in
        below_put (content c (slot_of (suc l) i)) (8 * (on_path p l % 8)) (to_le 8 (node_tag keys (renewed keys c p b l) l (on_path p l)))
        (content-below c (slot_of (suc l) i) fit.bytes) (below-digits 256 8 _ (lit< tt))

    module _ (d : ℕ) (flag : d < 256) where
      pub renew-sized : (l : ℕ) → l ≤ h → length (renew_path keys c p b d l) ≡ cache_length h
      unfolding renew_path
      renew-sized zero q = length-with h c fit.sized (slot_of 0 p) (slot-within h 0 p zero-le) (suc p) d b size ∙ fit.sized
      renew-sized (suc l) q =
          let r = renew-sized l (omega arith) in
          length-with h (renew_path keys c p b d l) r (slot_of (suc l) (on_path p (suc l))) (slot-within h (suc l) (on_path p (suc l)) q)
          (suc (on_path p (suc l))) 1 (renewed keys c p b (suc l)) (renewed-length (suc l) q)
          ∙ r

      pub renew-bytes : (l : ℕ) → l ≤ h → Below 256 (renew_path keys c p b d l)
      unfolding renew_path
      renew-bytes zero q = below-with h c fit.sized (slot_of 0 p) (slot-within h 0 p zero-le) (suc p) d b size flag plain fit.bytes
      renew-bytes (suc l) q =
          below-with h (renew_path keys c p b d l) (renew-sized l (omega arith)) (slot_of (suc l) (on_path p (suc l)))
          (slot-within h (suc l) (on_path p (suc l)) q) (suc (on_path p (suc l))) 1 (renewed keys c p b (suc l)) (renewed-length (suc l) q)
          (lit< tt) (renewed-bytes (suc l)) (renew-bytes l (omega arith))

-- ---- the path of an accepted line

-- a call that is not refused for its inputs, all of them bytes; the buffer is its text or its output
pub record Given (keys : List ℕ) (n : ℕ) (buffer : List ℕ) (m : Module) : Type 0 where
  pub bytes : Bytes m
  pub plain : Below 256 buffer
  pub ok : Accepted keys n buffer m

module _ {keys : List ℕ} {n : ℕ} {buffer : List ℕ} {m : Module} (g : Given keys n buffer m) where
  open g use {bytes, plain, ok}

  abbrev h : ℕ
  h = depth m.control

  abbrev opening : Opened keys m
  opening = ok.entry.opening

  page : page_of n < pages h
  page = page-inside h n ok.entry.inside

  buffers : Buffers h m
  buffers =
      record { bytes = bytes; high = (head_of keys m opening).flat; whole = opening.fits.array; control_length = opening.control_length }

  accepted-path : LoadsIf h (path_of keys n m)
  accepted-path =
      path-loads h (head_of keys m opening).deep buffers.high keys m.array opening.fits.array bytes.array (page_of n) page
      (root m.control) m.cache
      (record { sized = opening.fits.cache; formed = formed-facts _ m.cache ok.shaped; bytes = bytes.cache })

  pub path-few : (c : List ℕ) (x : List Cell) → path_of keys n m ≡ loaded c x → length x ≤ 2 * h
  unfolding LoadsIf
  path-few c x e = (subst (LoadsIf h) e accepted-path).few

  -- ---- write

  module _ (c : List ℕ) where
    abbrev ma : ℕ
    ma = major (page_block c n)

    abbrev mi : ℕ
    mi = new_minor c n

    block_size : length (new_block c n) ≡ 64
    unfolding new_block
    block_size = length-with_minor (page_block c n) (place_of n) mi

    block-bytes : Below 256 (new_block c n)
    unfolding new_block
    block-bytes = below-with_minor (page_block c n) (place_of n) mi

    lent : Lent h n buffer (new_block c n)
    lent =
        record {
          inside = ok.entry.inside;
          full = ok.entry.buffer;
          text-bytes = plain;
          wide = block_size;
          block-bytes = block-bytes;
        }

    pub batch-sound : (f : ℕ) (x : List Cell) → Each (Sound h) x → Each (Sound h) (write_batch h f keys n buffer c x)
    unfolding write_batch line_cell block_cells
    batch-sound f x s = all_sound h f keys n buffer ma mi (new_block c n) x lent s

    -- the bound on a batch: at most 2h + 2 cells
    pub batch-bound : (f : ℕ) (x : List Cell) → length x ≤ 2 * h → length (write_batch h f keys n buffer c x) ≤ 2 * h + 2
    unfolding write_batch line_cell block_cells
    batch-bound f x few =
        omega (arith, all-length h f keys n buffer ma mi (new_block c n) x, block-few h (page_of n) mi (new_block c n))

    loaded-kept : (a : ℕ) (x : List Cell) → Loads h c x → Kept m (write_loaded keys n buffer a m c x).after
    unfolding write_loaded write_stores written_cache
    loaded-kept a x l = go (eqb (line_minor c n) 127)
      where
        xs : List Store
        xs = write_stores h (family m.control) keys n buffer c x

        flag : (t : Bool) → cond t 0 1 < 256
        flag true = lit< tt
        flag false = lit< tt

        go : (t : Bool)
            → Kept m (cond {A = Called} t (refuse m 26 0 0) (storing a m xs (Done (length xs) 0) (written_cache h keys n c))).after
        go true = kept_same m bytes
        go false =
            storing-kept buffers a xs _ (written_cache h keys n c)
            (batch-within buffers _ (batch-sound (family m.control) x l.sound)
            (omega (arith, batch-bound (family m.control) x l.few, buffers.high)))
            (renew-sized l.fit keys (page_of n) (new_block c n) block_size block-bytes _ (flag (stop_loss c n)) h (le_refl h)
            ∙ sym opening.fits.cache)
            (renew-bytes l.fit keys (page_of n) (new_block c n) block_size block-bytes _ (flag (stop_loss c n)) h (le_refl h))

  path-kept : (a : ℕ) (r : Loaded) → LoadsIf h r → Kept m (write_path keys n buffer a m r).after
  unfolding write_path LoadsIf
  path-kept a (differs l i) w = kept_same m bytes
  path-kept a (loaded c x) w = loaded-kept c a x w

  -- ---- read

  abbrev xs-of : List Cell → List Store
  xs-of x = batch_stores x (root m.control)

  answered-kept : (a : ℕ) (c : List ℕ) (x : List Cell) (answer : Answer) (text : List ℕ) → Loads h c x → length text ≡ 64 → Below 256 text
      → ReadKept m buffer (answered a m (xs-of x) answer c text buffer)
  unfolding answered
  answered-kept a c x answer text l size b =
      record {
        buffers =
            storing-kept buffers a (xs-of x) answer c
            (batch-within buffers (root m.control) l.sound (omega (arith, l.few, buffers.high)))
            (l.fit.sized ∙ sym opening.fits.cache) l.fit.bytes;
        length-output = len (is_cut a (xs-of x));
        bytes-output = plain-output (is_cut a (xs-of x));
      }
    where
      len : (t : Bool) → length (cond t buffer text) ≡ length buffer
      len true = refl
      len false = size ∙ sym ok.entry.buffer

      plain-output : (t : Bool) → Below 256 (cond t buffer text)
      plain-output true = plain
      plain-output false = b

  read-loaded : (a : ℕ) (c : List ℕ) (x : List Cell) → Loads h c x → ReadKept m buffer (read_loaded keys n a m buffer c x)
  unfolding read_loaded
  read-loaded a c x l = go (eqb (line_minor c n) 0) (side_ok (family m.control) keys m.array c n)
    where
      xs : List Store
      xs = xs-of x

      go : (t u : Bool) → ReadKept m buffer (cond t (answered a m xs (Blank (length xs)) c blank_text buffer)
          (cond u (answered a m xs (Done (length xs) 0) c (line_text keys m.array c n) buffer) (refused_read (refuse m 25 n 0) buffer)))
      go true u = answered-kept a c x _ blank_text l blank-length blank-bytes
      go false true = answered-kept a c x _ (line_text keys m.array c n) l
          (text-length h keys m.array c n opening.fits.array ok.entry.inside) (text-bytes h keys m.array c n bytes.array)
      go false false = refused-read m bytes buffer plain 25 n 0

  read-path : (a : ℕ) (r : Loaded) → LoadsIf h r → ReadKept m buffer (read_path keys n a m buffer r)
  unfolding read_path LoadsIf
  read-path a (differs l i) w = refused-read m bytes buffer plain 24 l i
  read-path a (loaded c x) w = read-loaded a c x w

-- ---- the calls

pub write_kept : (keys : List ℕ) (n : ℕ) (text : List ℕ) (a : ℕ) (m : Module) → Bytes m → Below 256 text
    → Kept m (write keys n text a m).after
unfolding write_judged
write_kept keys n text a m b plain = go (access_refusal keys n text m) refl
  where
    go : (k : ℕ) → access_refusal keys n text m ≡ k → Kept m (write_judged k keys n text a m).after
    go zero e =
        let g : Given keys n text m = record { bytes = b; plain = plain; ok = access-accepted keys n text m e } in
        path-kept g a (path_of keys n m) (accepted-path g)
    go (suc k) e = kept_same m b

pub read_kept : (keys : List ℕ) (n a : ℕ) (out : List ℕ) (m : Module) → Bytes m → Below 256 out → ReadKept m out (read keys n a out m)
unfolding read_judged
read_kept keys n a out m b plain = go (access_refusal keys n out m) refl
  where
    go : (k : ℕ) → access_refusal keys n out m ≡ k → ReadKept m out (read_judged k keys n a m out)
    go zero e =
        let g : Given keys n out m = record { bytes = b; plain = plain; ok = access-accepted keys n out m e } in
        read-path g a (path_of keys n m) (accepted-path g)
    go (suc k) e = refused-read m b out plain (suc k) 0 0
