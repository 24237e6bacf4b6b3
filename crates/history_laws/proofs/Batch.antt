-- A batch stored, cut anywhere, of a turn or not: the media are settled for the book and the opening before it up to the commit, and for
-- those after it from there on. Assumes nothing.
use mathlib.Core.Path.{◌≡◌, refl, sym, ap, ◌∙◌, subst}
use mathlib.Core.Bool.{true}
use mathlib.Core.List.{List, [], ◌∷◌}
use Prim.Native.Nat.{ℕ, suc, ◌+◌, ◌*◌, ◌/◌, ◌^◌, ◌≤◌, ◌<◌}
use native.Mathlib.Omega.{arith}
use lib.Dec.{lit<, lit≤}
use lib.ListN.{length, drop}
use Rattle.words.specs.Bytes.{from_le, to_le, part, put}
use Rattle.words.proofs.Digits.{Below, length_digits, number-exact}
use Rattle.words.proofs.Parts.{length-put, below_put}
use Rattle.words.proofs.Puts.{part-put-before, part-put-same, drop-put}
use Rattle.memory_map.specs.Map.{cells, array_length}
use Rattle.slot_map.specs.Slots.{cache_length}
use Rattle.control.specs.Control.{family, Cell, control_length, turn_at, depth, root, count, in_map, valid_head}
use Rattle.control.proofs.Laws.{root-at, front-count, front-root, same-depth, same-family, same_head}
use Rattle.journal.specs.Journal.{Store, Media, media, store_all, finish, batch_stores, turn_stores, made}
use Rattle.journal.proofs.Each.{Each, each_take}
use Rattle.journal.proofs.Laws.{length-finish, length-batch, made_all}
use Rattle.journal.proofs.Queue.{Whole, laid, length-laid, committed, length-committed}
use Rattle.journal.proofs.Queue.{committed-count, committed-queue, committed-pending, cut-committed}
use Rattle.journal.proofs.Kept.{Formed, Within, within-batch, made_kept, stores-kept, stores-front}
use Rattle.journal.proofs.Again.{put-cells, rooted, cleared, finish-stores, batch-dropped}
use Rattle.journal.proofs.Turns.{length-turn-stores, turn-dropped, turn-kept}
use Rattle.calls.specs.Call.{Module, media_of, with_media}
use Rattle.history_laws.specs.History.{Book}
use Rattle.call_laws.proofs.Loads.{Sound}
use Rattle.call_laws.proofs.Kept.{wholes, in_map_lem, array-cells}
use Rattle.history_laws.proofs.Setting.{Setting, tree_of, tree_root, Opening, Section}
use Rattle.history_laws.proofs.Opening.{section-same}
use Rattle.history_laws.proofs.State.{Keeps, Settled, Holds, settled-now}
use Rattle.history_laws.proofs.Pending.{queue-valid, cleared-count, length-rooted, section-rooted, holds-cut}

rooted-root : (k : List ℕ) (r : ℕ) → length k ≡ control_length → r < 2 ^ 64 → root (cleared (rooted k r)) ≡ r
rooted-root k r size word =
    let eight = length_digits 256 8 r in
    root-at (cleared (rooted k r))
    ∙ ap from_le (part-put-before (rooted k r) 15 (0 ∷ []) (omega (arith, length-rooted k r size)) 7 8 (lit≤ tt)
    ∙ part-put-same k 7 (to_le 8 r) (omega (arith, size)) 8 eight)
    ∙ number-exact 256 8 r (lit< tt) word

-- ---- from the commit on

-- the cells x and the root r bring the array a to what the book t says under the opening u
pub record Payload (S : Setting) (t : Book) (u : Opening) (a : List ℕ) (x : List Cell) (r : ℕ) : Type 0 where
  pub sound : Each (Sound S.h) x
  pub few : length x ≤ 8
  pub filled : 0 < length x
  pub word : r < 2 ^ 64
  pub keeps : Keeps S t u (put-cells a x)
  pub top : r ≡ tree_root S (tree_of t)

-- media whose control record may take a batch, with the section that it is to have from the commit on
pub record Base (S : Setting) (u : Opening) (d : Media) : Type 0 where
  pub formed : Formed (array_length S.h) d
  pub right : valid_head d.control ≡ true
  pub deep : depth d.control ≡ S.h
  pub alike : family d.control ≡ S.family
  pub section : Section u d.control

module _ {S : Setting} {t : Book} {u : Opening} {d : Media} {x : List Cell} {r : ℕ} (base : Base S u d)
    (w : Payload S t u d.array x r) where
  open S use {h, high}
  open w use {few, filled}

  abbrev k : List ℕ
  k = d.control

  size : length k ≡ control_length
  size = base.formed.control_length

  ws : Each Whole x
  ws = wholes h high w.sound

  inside : in_map (array_length h / 72) x ≡ true
  inside = ap (λ (n : ℕ). in_map n x) (array-cells h (array_length h) refl) ∙ in_map_lem h w.sound

  within : Each (Within (array_length h / 72)) (batch_stores x r)
  within = within-batch (array_length h / 72) r ws inside few

  -- the control record once the batch is committed
  abbrev now : List ℕ
  now = committed k x r

  long : length now ≡ control_length
  long = length-committed k x r size few ws

  section-now : drop turn_at now ≡ drop turn_at k
  section-now =
      let laid-size = length-laid ws in
      let staged = length-put k 24 (laid x) (omega (arith, laid-size, size, few)) in
      let word = length_digits 256 8 r in
      drop-put (put k 24 (laid x)) 15 (length x ∷ to_le 8 r) (omega (arith, staged, size)) turn_at (omega (arith, word))
      ∙ drop-put k 24 (laid x) (omega (arith, size)) turn_at (omega (arith, laid-size, few))

  up_to : (n : ℕ) → store_all d (made (length x + suc n) (batch_stores x r)) ≡ store_all (media d.array now) (made n (finish x r))
  up_to n = cut-committed k x r size few ws d.array n filled

  abbrev whole : Media
  whole = store_all d (batch_stores x r)

  finishes : whole ≡ store_all (media d.array now) (finish x r)
  finishes =
      ap (store_all d) (sym (made_all (length x + suc (length x + 2)) (batch_stores x r) (omega (arith, length-batch x r filled))))
      ∙ up_to (length x + 2)
      ∙ ap (store_all (media d.array now)) (made_all (length x + 2) (finish x r) (omega (arith, length-finish x r)))

  whole_is : whole ≡ media (put-cells d.array x) (cleared (rooted now r))
  whole_is = finishes ∙ finish-stores (media d.array now) x r

  whole-array : whole.array ≡ put-cells d.array x
  whole-array = ap (λ (e : Media). e.array) whole_is

  whole-settled : Settled S t u whole
  whole-settled =
      let control = ap (λ (e : Media). e.control) whole_is in
      let zero-count : count whole.control ≡ 0 = ap count control ∙ cleared-count (rooted now r) (length-rooted now r long) in
      let front = stores-front base.formed within in
      let deep = same-depth whole.control k front in
      record {
        formed = stores-kept base.formed within;
        right = same_head k whole.control (sym front) (omega (arith, zero-count)) base.right;
        deep = deep ∙ base.deep;
        alike = same-family whole.control k front ∙ base.alike;
        idle = zero-count;
        section = section-same whole.control (ap (drop turn_at) control ∙ section-rooted now r long ∙ section-now) deep base.section;
        keeps = subst (Keeps S t u) (sym whole-array) w.keeps;
        top = ap root control ∙ rooted-root now r long w.word ∙ w.top;
      }

  -- the commit
  commit-is : store_all d (made (length x + 1) (batch_stores x r)) ≡ media d.array now
  unfolding store_all
  commit-is = up_to 0

  front-now : part now 0 7 ≡ part k 0 7
  front-now =
      subst (λ (e : Media). part e.control 0 7 ≡ part k 0 7) commit-is
      (stores-front base.formed (each_take (length x + 1) within))

  module _ (c : List ℕ) (sized : length c ≡ cache_length h) (plain : Below 256 c) where
    pending : Holds S t u (with_media (media d.array now) c)
    pending =
        let deep = same-depth now k front-now in
        record {
          sized = sized;
          plain = plain;
          formed = subst (Formed (array_length h)) commit-is (made_kept (length x + 1) base.formed within);
          right = queue-valid now x
              (same_head k now (sym front-now) (omega (arith, few, committed-count k x r size few ws)) base.right)
              (committed-queue k x r size few ws) (ap (λ (e : ℕ). in_map (cells e) x) (deep ∙ base.deep) ∙ in_map_lem h w.sound)
              (section-same now section-now deep base.section).valid;
          deep = deep ∙ base.deep;
          settled = subst (Settled S t u) (finishes
              ∙ sym (ap (store_all (media d.array now)) (committed-pending k x r size few ws filled w.word))) whole-settled;
        }

    -- cut after it
    pending-cut : (j : ℕ) → Holds S t u (with_media (store_all d (made (length x + suc j) (batch_stores x r))) c)
    pending-cut j =
        subst (λ (e : Media). Holds S t u (with_media e c))
        (ap (λ (xs : List Store). store_all (media d.array now) (made j xs)) (committed-pending k x r size few ws filled w.word)
        ∙ sym (up_to j)) (holds-cut pending j)

-- ---- the whole batch

-- stores xs of a batch of x and r, which lead from the book b and the opening o to t and u: before the commit they are those of a batch
-- without a section, and from it on they leave what those leave of the record that has it
pub record Batch (S : Setting) (b : Book) (o : Opening) (t : Book) (u : Opening) (m : Module) (x : List Cell) (r : ℕ) (xs : List Store)
    : Type 0 where
  pub held : Holds S b o m
  pub idle : count m.control ≡ 0
  pub payload : Payload S t u m.array x r
  pub control : List ℕ
  pub base : Base S u (media m.array control)
  pub number : length xs ≡ 2 * length x + 3
  pub dropped : (n : ℕ) → n ≤ length x → made n xs ≡ made n (batch_stores x r)
  pub kept : (n : ℕ) → store_all (media_of m) (made (length x + suc n) xs)
      ≡ store_all (media m.array control) (made (length x + suc n) (batch_stores x r))

module _ {S : Setting} {b : Book} {o : Opening} {t : Book} {u : Opening} {m : Module} {x : List Cell} {r : ℕ} {xs : List Store}
    (w : Batch S b o t u m x r xs) where
  open S use {h}
  open w use {held, payload, base}
  open payload use {few, filled}

  was : Settled S b o (media_of m)
  was = settled-now held w.idle

  -- cut before the commit
  pub settled-cut : (n : ℕ) → n ≤ length x → Settled S b o (store_all (media_of m) (made n xs))
  settled-cut n q =
      subst (λ (ys : List Store). Settled S b o (store_all (media_of m) ys)) (sym (w.dropped n q)) stays
    where
      after : Media
      after = store_all (media_of m) (made n (batch_stores x r))

      stays : Settled S b o after
      stays =
          let all = within base payload in
          let same =
          batch-dropped (array_length h) m.array m.control x r held.formed (ws base payload) (inside base payload) filled few n q in
          let zero-count : count after.control ≡ 0 = front-count after.control m.control same.1 ∙ w.idle in
          let front = stores-front held.formed (each_take n all) in
          let deep = same-depth after.control m.control front in
          record {
            formed = made_kept n held.formed all;
            right = same_head m.control after.control (sym front) (omega (arith, zero-count)) was.right;
            deep = deep ∙ held.deep;
            alike = same-family after.control m.control front ∙ was.alike;
            idle = zero-count;
            section = section-same after.control same.2 deep was.section;
            keeps = subst (Keeps S b o) (sym same.0) was.keeps;
            top = front-root after.control m.control same.1 ∙ was.top;
          }

  -- cut after it
  pub holds_after : (j : ℕ) → Holds S t u (with_media (store_all (media_of m) (made (length x + suc j) xs)) m.cache)
  holds_after j =
      subst (λ (d : Media). Holds S t u (with_media d m.cache)) (sym (w.kept j))
      (pending-cut base payload m.cache held.sized held.plain j)

  -- not cut
  all-stored : store_all (media_of m) xs ≡ whole base payload
  all-stored =
      let last = length x + suc (length x + 2) in
      ap (store_all (media_of m)) (sym (made_all last xs (omega (arith, w.number)))) ∙ w.kept (length x + 2)
      ∙ ap (store_all (media m.array w.control)) (made_all last (batch_stores x r) (omega (arith, length-batch x r filled)))

  pub array_whole : (store_all (media_of m) xs).array ≡ put-cells m.array x
  array_whole = ap (λ (d : Media). d.array) all-stored ∙ whole-array base payload

  pub settled-whole : Settled S t u (store_all (media_of m) xs)
  settled-whole = subst (Settled S t u) (sym all-stored) (whole-settled base payload)

-- ---- the two kinds

module _ {S : Setting} {b : Book} {o : Opening} {m : Module} (held : Holds S b o m) (idle : count m.control ≡ 0) where
  open S use {h, high}

  -- of a read or a write
  pub plain-batch : {t : Book} {x : List Cell} {r : ℕ} → Payload S t o m.array x r → Batch S b o t o m x r (batch_stores x r)
  plain-batch {x = x} {r = r} w =
      let was = settled-now held idle in
      record {
        held = held;
        idle = idle;
        payload = w;
        control = m.control;
        base = record { formed = held.formed; right = was.right; deep = held.deep; alike = was.alike; section = was.section };
        number = length-batch x r w.filled;
        dropped = λ n q. refl;
        kept = λ n. refl;
      }

  -- of a turn, with the section s
  module _ (s : List ℕ) (wide : length s ≡ 17) (bytes : Below 256 s) where
    abbrev with-section : List ℕ
    with-section = put m.control turn_at s

    pub turn-batch : {t : Book} {u : Opening} {x : List Cell} {r : ℕ} → Section u with-section → Payload S t u m.array x r
        → Batch S b o t u m x r (turn_stores x r s)
    turn-batch {x = x} {r = r} said w =
        let size = held.formed.control_length in
        let room : turn_at + length s ≤ length m.control = omega (arith, size, wide) in
        let front : part m.control 0 7 ≡ part with-section 0 7 =
        sym (part-put-before m.control turn_at s (omega arith) 0 7 (omega arith)) in
        let few-cells : count with-section ≡ 0 =
        front-count with-section m.control (part-put-before m.control turn_at s (omega arith) 0 24 (omega arith)) ∙ idle in
        let whole_cells = wholes h high w.sound in
        record {
          held = held;
          idle = idle;
          payload = w;
          control = with-section;
          base = record {
            formed = record {
              array-length = held.formed.array-length;
              control_length = length-put m.control turn_at s room ∙ size;
              array-bytes = held.formed.array-bytes;
              control-bytes = below_put m.control turn_at s held.formed.control-bytes bytes;
            };
            right = same_head m.control with-section front (omega (arith, few-cells)) (settled-now held idle).right;
            deep = same-depth with-section m.control (sym front) ∙ held.deep;
            alike = same-family with-section m.control (sym front) ∙ (settled-now held idle).alike;
            section = said;
          };
          number = length-turn-stores x r s;
          dropped = turn-dropped m.control x r s size w.filled w.few whole_cells wide;
          kept = turn-kept m.control x r s size w.filled w.few whole_cells wide m.array;
        }
