-- A turn that is not refused for its inputs: the bound on its batches, with the depth as a parameter, the bound on its stores, and that it
-- changes no length and leaves nothing but bytes. Assumes nothing.
use mathlib.Core.Path.{◌≡◌, refl, sym, ◌∙◌, subst}
use mathlib.Core.Bool.{Bool, true, false, cond}
use mathlib.Core.List.{List}
use Prim.Native.Nat.{ℕ, zero, suc, ◌+◌, ◌-◌, ◌*◌, ◌^◌, ◌≤◌, zero-le}
use native.Mathlib.Nat.{le_refl}
use native.Mathlib.Omega.{arith}
use lib.Dec.{eqb, lit<}
use lib.ListN.{length}
use Rattle.bits.proofs.Climbs.{climbs-length}
use Rattle.counter.specs.Counter.{major, turned}
use Rattle.turn_block.proofs.Laws.{length-turned, below-turned}
use Rattle.control.specs.Control.{Cell, family, depth, root}
use Rattle.std.specs.Prelude.{Option, None, Some}
use Rattle.cache.proofs.Laws.{formed-facts}
use Rattle.journal.proofs.Each.{Each, none, more}
use Rattle.journal.proofs.Kept.{Within}
use Rattle.calls.specs.Path.{Loaded, loaded, differs}
use Rattle.calls.specs.Call.{Module, Called, refuse}
use Rattle.calls.specs.Turn.{Batch, turn_refusal, block_of, turn_places, bad_line, turn_front, turn_batches, stores_for, turned_cache, turn_checked}
use Rattle.calls.specs.Turn.{turn_loaded, turn_path, page_path, turn_judged, turn}
use Rattle.call_laws.proofs.Judged.{TurnAccepted, turn-accepted, head_of}
use Rattle.call_laws.proofs.Loads.{Loads, LoadsIf, path-loads}
use Rattle.call_laws.proofs.Kept.{Bytes, Kept, kept_same, Buffers, storing-kept, array-cells, renew-sized, renew-bytes}
use Rattle.call_laws.proofs.Turn.{Proper, places-climb, front-few, stores-within, turn-length, turn-proper}

module _ {keys : List ℕ} {p : ℕ} {m : Module} (bytes : Bytes m) (ok : TurnAccepted keys p m) where
  open ok use {opening}

  abbrev h : ℕ
  h = depth m.control

  buffers : Buffers h m
  buffers =
      record { bytes = bytes; high = (head_of keys m opening).flat; whole = opening.fits.array; control_length = opening.control_length }

  loads : LoadsIf h (page_path keys p m)
  loads =
      path-loads h (head_of keys m opening).deep buffers.high keys m.array opening.fits.array bytes.array p ok.inside
      (root m.control) m.cache
      (record { sized = opening.fits.cache; formed = formed-facts _ m.cache ok.shaped; bytes = bytes.cache })

  module _ (c : List ℕ) (x : List Cell) (l : Loads h c x) where
    proper : Each (Proper h) (turn_batches keys p m c x)
    unfolding turn_batches
    proper =
        turn-proper h (family m.control) keys m.array c p (root m.control) ok.inside opening.fits.array
        bytes.array m.control x l.fit
        l.sound l.few

    -- two stores for each cell of the path, and one more cell; for each of at most 64 lines two, and three for its batch
    stores-few : length (stores_for (turn_batches keys p m c x)) ≤ 4 * h + 324
    unfolding turn_batches
    stores-few =
        let front = turn_front h m.control c p x in
        let js = turn_places m.control c p in
        omega (
          arith,
          turn-length h (family m.control) keys m.array c p (root m.control) front js,
          front-few h m.control c p x,
          climbs-length (places-climb m.control c p) zero-le,
          l.few,
        )

    checked-kept : (a : ℕ) (f : Option ℕ) → Kept m (turn_checked keys p a m c x f).after
    unfolding turn_checked turned_cache
    checked-kept a (Some n) = kept_same m bytes
    checked-kept a None =
        let b = block_of c p in
        storing-kept buffers a (stores_for (turn_batches keys p m c x)) _ (turned_cache h keys c p)
        (subst (λ (n : ℕ). Each (Within n) (stores_for (turn_batches keys p m c x)))
        (sym (array-cells h (length m.array) opening.fits.array)) (stores-within h buffers.high proper))
        (renew-sized l.fit keys p (turned b) (length-turned b) (below-turned b) 0 (lit< tt) h (le_refl h) ∙ sym opening.fits.cache)
        (renew-bytes l.fit keys p (turned b) (length-turned b) (below-turned b) 0 (lit< tt) h (le_refl h))

    loaded-kept : (a : ℕ) → Kept m (turn_loaded keys p a m c x).after
    unfolding turn_loaded
    loaded-kept a = go (eqb (major (block_of c p)) (2 ^ 64 - 1))
      where
        checked : Called
        checked = turn_checked keys p a m c x (bad_line (family m.control) keys m.array c p (turn_places m.control c p))

        go : (t : Bool) → Kept m (cond {A = Called} t (refuse m 31 0 0) checked).after
        go true = kept_same m bytes
        go false = checked-kept a (bad_line (family m.control) keys m.array c p (turn_places m.control c p))

  path-kept : (a : ℕ) (r : Loaded) → LoadsIf h r → Kept m (turn_path keys p a m r).after
  unfolding turn_path LoadsIf
  path-kept a (differs l i) w = kept_same m bytes
  path-kept a (loaded c x) w = loaded-kept c x w a

-- ---- the bounds

-- a batch of at most n cells
pub record Few (n : ℕ) (b : Batch) : Type 0 where
  pub cells : length b.cells ≤ n

all-few : {h n : ℕ} {bs : List Batch} → 2 * h + 2 ≤ n → Each (Proper h) bs → Each (Few n) bs
all-few e none = none
all-few e (more {x = b} w ws) = more {x = b} (record { cells = omega (arith, e, w.few) }) (all-few e ws)

module _ (keys : List ℕ) (p : ℕ) (m : Module) (bytes : Bytes m) (open-now : turn_refusal keys p m ≡ 0) (c : List ℕ) (x : List Cell)
    (path : page_path keys p m ≡ loaded c x) where
  ok : TurnAccepted keys p m
  ok = turn-accepted keys p m open-now

  is-loaded : Loads (depth m.control) c x
  unfolding LoadsIf
  is-loaded = subst (LoadsIf (depth m.control)) path (loads bytes ok)

  pub turn-bound : Each (Few (2 * depth m.control + 2)) (turn_batches keys p m c x)
  turn-bound = all-few (le_refl _) (proper bytes ok c x is-loaded)

  pub turn-eight : Each (Few 8) (turn_batches keys p m c x)
  turn-eight = all-few (omega (arith, (head_of keys m ok.opening).flat)) (proper bytes ok c x is-loaded)

  pub turn-stores : length (stores_for (turn_batches keys p m c x)) ≤ 4 * depth m.control + 324
  turn-stores = stores-few bytes ok c x is-loaded

-- ---- what is kept

pub turn-kept : (keys : List ℕ) (p a : ℕ) (m : Module) → Bytes m → Kept m (turn keys p a m).after
unfolding turn_judged
turn-kept keys p a m b = go (turn_refusal keys p m) refl
  where
    go : (k : ℕ) → turn_refusal keys p m ≡ k → Kept m (turn_judged k keys p a m).after
    go zero e = let ok = turn-accepted keys p m e in path-kept b ok a (page_path keys p m) (loads b ok)
    go (suc k) e = kept_same m b
