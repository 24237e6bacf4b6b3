-- What holds of a module wherever it stands in an allowed history, be a turn unfinished or not: what its media keep once the pending stores
-- are made, and, where no recovery is awaited, a cache that goes with them. Assumes nothing.
use mathlib.Core.Path.{◌≡◌, sym, ap, ◌∙◌, subst}
use mathlib.Core.Bool.{true}
use mathlib.Core.List.{List}
use mathlib.Core.Option.{Option, none, some}
use Prim.Native.Nat.{ℕ, ◌*◌, ◌<◌}
use lib.ListN.{length, replicate}
use Rattle.words.specs.Bytes.{part}
use Rattle.words.proofs.Digits.{Below}
use Rattle.memory_map.specs.Map.{lines, cells, array_length}
use Rattle.slot_map.specs.Slots.{cache_length}
use Rattle.cache.specs.Cache.{cell_bytes}
use Rattle.control.specs.Control.{family, depth, root, count, places, queue, in_map, valid_head, valid_turn, valid}
use Rattle.control.proofs.Laws.{parts-valid}
use Rattle.journal.specs.Journal.{Media, store_all, pending_stores}
use Rattle.journal.proofs.Laws.{pending-none, store-none}
use Rattle.journal.proofs.Kept.{Formed}
use Rattle.calls.specs.Call.{Module, media_of, with_media}
use Rattle.history_laws.specs.History.{Book, pending_made}
use Rattle.call_laws.proofs.Judged.{Opened}
use Rattle.call_laws.proofs.Kept.{Bytes}
use Rattle.history_laws.proofs.Setting.{Setting, Tree, Alike, tree_of, tree_root, cipher_of, Opening, sealed, Section}
use Rattle.history_laws.proofs.Fitting.{Fits, blank, marked, Fitted}
use Rattle.history_laws.proofs.Durable.{Durable}
use Rattle.history_laws.proofs.Live.{Live}
use Rattle.history_laws.proofs.Data.{data_bytes, data-agree, length-cipher}

-- a line's cell: all zero where it has no text, else its text's
unfoldable pub RowOk : Setting → Tree → ℕ → Option (List ℕ) → List ℕ → Type 0
RowOk S T n none a = (T.count n ≡ 0) × (cell_bytes a n ≡ replicate 72 0)
RowOk S T n (some t) a = (0 < T.count n) × (length t ≡ 64) × Below 256 t × (cell_bytes a n ≡ data_bytes S T n t)

-- a row that stays, in a tree that has the same counter for its line; a row with a text
pub row_moved : (S : Setting) {T U : Tree} {i : ℕ} → Alike T U i → (a e : List ℕ) (o : Option (List ℕ))
    → part e (72 * i) 72 ≡ part a (72 * i) 72 → RowOk S T i o a → RowOk S U i o e
unfolding RowOk
row_moved S w a e none q r = (sym w.count ∙ r.0, q ∙ r.1)
row_moved S {T} {U} {i} w a e (some t) q r =
    (subst (λ (j : ℕ). 0 < j) w.count r.0, r.1, r.2, q ∙ r.3 ∙ data-agree S T U i t (w.major r.0) w.count)

pub row-some : (S : Setting) (T : Tree) (i : ℕ) (a t : List ℕ) → 0 < T.count i → length t ≡ 64 → Below 256 t
    → part a (72 * i) 72 ≡ data_bytes S T i t → RowOk S T i (some t) a
unfolding RowOk
row-some S T i a t p q r s = (p, q, r, s)

-- so its cell fits the line's counter
pub row_fits : (S : Setting) (T : Tree) (i : ℕ) (o : Option (List ℕ)) (a : List ℕ) → RowOk S T i o a → Fits S T i (cell_bytes a i)
unfolding RowOk data_bytes
row_fits S T i none a r = blank r.0 r.1
row_fits S T i (some t) a r = marked (cipher_of S T i t) r.0 (length-cipher S T i t r.1) r.3

abbrev pub finished : Media → Media
finished d = store_all d (pending_stores d.control)

module _ (S : Setting) where
  open S use {h}

  -- an array that keeps what the book says
  pub record Keeps (b : Book) (o : Opening) (a : List ℕ) : Type 0 where
    pub durable : Durable S (tree_of b) o a
    pub rows : (n : ℕ) → n < lines h → RowOk S (sealed o (tree_of b) n) n (b.text n) a

  pub fitted : {b : Book} {o : Opening} {a : List ℕ} → Keeps b o a → Fitted S (tree_of b) o a
  fitted {b} {o} {a} k =
      record { fits = λ n q. row_fits S (sealed o (tree_of b) n) n (b.text n) a (k.rows n q) }

  -- media with nothing pending
  pub record Settled (b : Book) (o : Opening) (d : Media) : Type 0 where
    pub formed : Formed (array_length h) d
    pub right : valid_head d.control ≡ true
    pub deep : depth d.control ≡ h
    pub alike : family d.control ≡ S.family
    pub idle : count d.control ≡ 0
    pub section : Section o d.control
    pub keeps : Keeps b o d.array
    pub top : root d.control ≡ tree_root S (tree_of b)

  -- wherever the module stands
  pub record Holds (b : Book) (o : Opening) (m : Module) : Type 0 where
    pub sized : length m.cache ≡ cache_length h
    pub plain : Below 256 m.cache
    pub formed : Formed (array_length h) (media_of m)
    pub right : valid m.control ≡ true
    pub deep : depth m.control ≡ h
    pub settled : Settled b o (finished (media_of m))

  -- where no recovery is awaited
  pub record Ready (b : Book) (o : Opening) (m : Module) : Type 0 where
    pub holds : Holds b o m
    pub idle : count m.control ≡ 0
    pub live : Live S (tree_of b) o m.array m.cache

-- where nothing is pending
finished-idle : (d : Media) → count d.control ≡ 0 → finished d ≡ d
finished-idle d e = ap (store_all d) (pending-none d.control e) ∙ store-none d

-- so its stores leave the module as it is
pub none-pending : (m : Module) → count m.control ≡ 0 → pending_made m ≡ m
none-pending m e = ap (λ (d : Media). with_media d m.cache) (finished-idle (media_of m) e)

pub idle-valid : (k : List ℕ) → valid_head k ≡ true → count k ≡ 0 → valid_turn k ≡ true → valid k ≡ true
unfolding queue places in_map
idle-valid k e z v = parts-valid k e (ap (λ (n : ℕ). in_map (cells (depth k)) (places k 24 n)) z) v

module _ {S : Setting} {b : Book} {o : Opening} where
  open S use {h}

  -- where nothing is pending, the media are settled as they are
  pub settled-now : {m : Module} → Holds S b o m → count m.control ≡ 0 → Settled S b o (media_of m)
  settled-now {m} held idle = subst (Settled S b o) (finished-idle (media_of m) idle) held.settled

  -- settled media under any cache
  pub settled-holds : {d : Media} (c : List ℕ) → length c ≡ cache_length h → Below 256 c → Settled S b o d → Holds S b o (with_media d c)
  settled-holds {d} c size plain s =
      record {
        sized = size;
        plain = plain;
        formed = s.formed;
        right = idle-valid d.control s.right s.idle s.section.valid;
        deep = s.deep;
        settled = subst (Settled S b o) (sym (finished-idle d s.idle)) s;
      }

  -- the tests that come first in every call pass
  pub tests-pass : {m : Module} → Holds S b o m → Opened S.keys m
  tests-pass held =
      record {
        keys_length = S.keys_length;
        control_length = held.formed.control_length;
        right = held.right;
        fits = record {
          array = held.formed.array-length ∙ ap array_length (sym held.deep);
          cache = held.sized ∙ ap cache_length (sym held.deep);
        };
      }

  pub all-bytes : {m : Module} → Holds S b o m → Bytes m
  all-bytes held = record { array = held.formed.array-bytes; control = held.formed.control-bytes; cache = held.plain }
