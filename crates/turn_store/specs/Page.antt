-- A turn of a page whose path is found, for the contracts of its steps. Assumes nothing.
use Rattle.std.specs.Prelude.{ℕ, suc, ◌^◌, ◌<◌, ◌≡◌, Bool, true, false, List, Result, Ok, Err, leb, length}
use Rattle.bits.specs.Bits.{set_bits}
use Rattle.memory_map.specs.Map.{pages}
use Rattle.counter.specs.Counter.{major, minors}
use Rattle.control.specs.Control.{control_length, family, root}
use Rattle.cache.specs.Cache.{formed, current}
use Rattle.journal.specs.Journal.{Store, Media, Stored}
use Rattle.node.specs.Sized.{Sized}
use Rattle.calls.specs.Turn.{turn_places, turn_front, batches_of, stores_for}
use Rattle.call_laws.specs.Walk.{missing as missing_nodes, path_cells, with_path}
use Rattle.loading.specs.declared.CutShort.{CutShort}

-- page p in buffers of a module of depth h: the nodes that its path lacks, its counters, and the mask of the places still to turn
pub record Page (h : ℕ) (a k c : List ℕ) (p missing ma : ℕ) (ms : List ℕ) (mask : ℕ) : Type 0 where
  pub sized : Sized h a c
  pub control : length k ≡ control_length
  pub shaped : formed h c ≡ true
  pub page : p < pages h
  pub path : missing ≡ missing_nodes c p (suc h)
  pub major_is : ma ≡ major (current h a c 0 p)
  pub minors_is : ms ≡ minors (current h a c 0 p)
  pub next : suc ma < 2 ^ 64
  pub places : set_bits mask ≡ turn_places k (with_path h a p (suc h) c) p

-- the stores of its turn
unfoldable pub page_stores : ℕ → List ℕ → List ℕ → List ℕ → List ℕ → ℕ → List Store
page_stores h keys a k c p =
    let d = with_path h a p (suc h) c in
    stores_for (batches_of h (family k) keys a d p (root k) (turn_front h k d p (path_cells h c p (suc h))) (turn_places k d p))

-- those that an allowance makes, and whether they are all
pub record Made (allowance : ℕ) (xs : List Store) (m after : Media) (stores : ℕ) (whole : Bool) : Type 0 where
  pub stored : Stored allowance xs m after stores
  pub all : whole ≡ leb (length xs) stores

abbrev pub Makes : ℕ → List Store → Media → Media → Result ℕ CutShort → Type 0
Makes allowance xs m after (Ok stores) = Made allowance xs m after stores true
Makes allowance xs m after (Err cut) = Made allowance xs m after cut.stores false
