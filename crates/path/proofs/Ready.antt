-- What a read or a write goes on with once it is accepted, and what walking its path then tells. Assumes nothing.
use mathlib.Core.Path.{◌≡◌, refl, sym, ap, ap₂, ◌∙◌, subst}
use mathlib.Core.Bool.{true}
use mathlib.Core.List.{List, []}
use Prim.Native.Nat.{ℕ, suc, ◌*◌, ◌≤◌, ◌<◌, zero-le}
use native.Mathlib.Omega.{arith}
use lib.ListN.{length}
use Rattle.words.proofs.Digits.{Below}
use Rattle.memory_map.specs.Map.{pages, lines, array_length, page_of, place_of}
use Rattle.memory_map.proofs.Laws.{page-inside, path-bottom}
use Rattle.slot_map.specs.Slots.{cache_length, slot_of}
use Rattle.counter.specs.Counter.{major, minor}
use Rattle.counter.proofs.Laws.{below-minors}
use Rattle.control.specs.Control.{control_length, depth, root}
use Rattle.cache.specs.Cache.{content, formed, current}
use Rattle.cache.proofs.Laws.{formed-facts}
use Rattle.node.specs.Sized.{Sized}
use Rattle.calls.specs.Path.{Loaded, loaded, differs, load_path}
use Rattle.calls.specs.Call.{Module, buffers, path_of}
use Rattle.calls.specs.Read.{page_block, line_minor}
use Rattle.calls.specs.Turn.{page_path}
use Rattle.call_laws.specs.Walk.{missing, path_cells, with_path}
use Rattle.call_laws.proofs.Judged.{Opened, Accepted, head_of}
use Rattle.call_laws.proofs.Loading.{path-content}
use Rattle.call_laws.proofs.Loads.{Fit, path-few}
use Rattle.path.specs.Told.{told, told_of, Finds}
use Rattle.path.specs.declared.Line.{Line}
use Rattle.std.specs.Prelude.{Result, Ok, Err}
use Rattle.path.specs.declared.Differs.{Differs}
use Rattle.path.proofs.Laws.{loaded-told, differs-told}

-- buffers of bytes, of the lengths of a depth, a formed cache, and a page of the map
pub record Ready (h : ℕ) (a k c : List ℕ) (p : ℕ) : Type 0 where
  pub sized : Sized h a c
  pub control : length k ≡ control_length
  pub shaped : formed h c ≡ true
  pub page : p < pages h
  pub array-bytes : Below 256 a
  pub control-bytes : Below 256 k
  pub cache-bytes : Below 256 c

module _ {h : ℕ} {a k c : List ℕ} {p : ℕ} (r : Ready h a k c p) where
  pub fit : Fit h c
  fit = record { sized = r.sized.cache; formed = formed-facts h c r.shaped; bytes = r.cache-bytes }

  pub few : length (path_cells h c p (suc h)) ≤ 2 * h
  few = path-few h c fit p r.page r.sized.deep

  -- the page's block, once its path is loaded
  pub block-loaded : content (with_path h a p (suc h) c) (slot_of 0 p) ≡ current h a c 0 p
  block-loaded =
      subst (λ (i : ℕ). content (with_path h a p (suc h) c) (slot_of 0 i) ≡ current h a c 0 i) (path-bottom p)
      (path-content h r.sized.flat [] a r.sized.array 0 p r.page c r.sized.cache 0 zero-le)

-- ---- past the refusals

-- what going on requires; b is the output or the text
abbrev pub Accepts : ℕ → List ℕ → List ℕ → List ℕ → List ℕ → ℕ → List ℕ → Type 0
Accepts h keys k a c line b =
    (length keys ≡ 48) × ((length k ≡ control_length) × ((h ≡ depth k)
    × (Sized h a c × ((formed h c ≡ true) × ((line < lines h) × (length b ≡ 64))))))

pub ready_of : (keys b : List ℕ) {h : ℕ} {k a c : List ℕ} {line : ℕ} → Accepts h keys k a c line b → Below 256 a → Below 256 k → Below 256 c
    → Ready h a k c (page_of line)
ready_of keys b {h} {k} {a} {c} {line} p array-bytes control-bytes cache-bytes =
    record {
      sized = p.1.1.1.0;
      control = p.1.0;
      shaped = p.1.1.1.1.0;
      page = page-inside h line p.1.1.1.1.1.0;
      array-bytes = array-bytes;
      control-bytes = control-bytes;
      cache-bytes = cache-bytes;
    }

-- lengths that fit the depth of the control record
pub sized_of : {keys : List ℕ} {m : Module} {h : ℕ} → Opened keys m → h ≡ depth m.control → Sized h m.array m.cache
sized_of {keys} {m} {h} o deep =
    let head = head_of keys m o in
    record {
      deep = omega (arith, head.deep);
      flat = omega (arith, head.flat);
      array = o.fits.array ∙ ap array_length (sym deep);
      cache = o.fits.cache ∙ ap cache_length (sym deep);
    }

pub accepts : {keys : List ℕ} {line : ℕ} {b : List ℕ} {m : Module} {h : ℕ} → Accepted keys line b m → h ≡ depth m.control
    → Accepts h keys m.control m.array m.cache line b
accepts {keys} {line} {b} {m} {h} ok deep =
    let e = ok.entry in
    let shaped : formed h m.cache ≡ true = ap (λ (k : ℕ). formed k m.cache) deep ∙ ok.shaped in
    let inside : line < lines h = subst (λ (k : ℕ). line < lines k) (sym deep) e.inside in
    (e.opening.keys_length, (e.opening.control_length, (deep, (sized_of e.opening deep, (shaped, (inside, e.buffer))))))

-- ---- what walking the path of a page tells

module _ (keys k : List ℕ) (p : ℕ) {h : ℕ} {a c : List ℕ} (z : Sized h a c) (page : p < pages h) (deep : h ≡ depth k) {r : ℕ}
    (top : r ≡ root k) where
  abbrev walked : Result ℕ Differs
  walked = told (missing c p (suc h)) (load_path h keys a r p c)

  as-path : {l : Loaded} → load_path h keys a r p c ≡ l → page_path keys p (buffers a k c) ≡ l
  as-path e = sym (ap₂ {C = Loaded} (λ (n x : ℕ). load_path n keys a x p c) deep top) ∙ e

  pub walk-differs : {d : Differs} → Err d ≡ walked → page_path keys p (buffers a k c) ≡ differs d.level d.index
  walk-differs {d} e =
      as-path (differs-told h z.flat keys a z.array r p page c z.cache (missing c p (suc h)) d e)

  pub walk-loaded : {j : ℕ} → Ok j ≡ walked
      → (j ≡ missing c p (suc h)) × (page_path keys p (buffers a k c) ≡ loaded (with_path h a p (suc h) c) (path_cells h c p (suc h)))
  walk-loaded {j} e =
      let both = loaded-told h z.flat keys a z.array r p page c z.cache (missing c p (suc h)) j e in
      (both.0, as-path both.1)

-- the path of a line is loaded, and r has its counter
pub record Found (h : ℕ) (keys a k c : List ℕ) (line : ℕ) (r : Line) : Type 0 where
  pub ready : Ready h a k c (page_of line)
  pub deep : h ≡ depth k
  pub path : path_of keys line (buffers a k c) ≡ loaded (with_path h a (page_of line) (suc h) c) (path_cells h c (page_of line) (suc h))
  pub counter : Finds h keys a k c line r

module _ {h : ℕ} {keys a k c : List ℕ} {line : ℕ} {r : Line} (y : Ready h a k c (page_of line)) (deep : h ≡ depth k)
    (f : Finds h keys a k c line r) where
  pub line-differs : {d : Differs} → r.path ≡ Err d → path_of keys line (buffers a k c) ≡ differs d.level d.index
  line-differs e = walk-differs keys k (page_of line) y.sized y.page deep refl (sym e ∙ f.walked)

  pub line-found : {j : ℕ} → r.path ≡ Ok j → (j ≡ missing c (page_of line) (suc h)) × Found h keys a k c line r
  line-found e =
      let both = walk-loaded keys k (page_of line) y.sized y.page deep refl (sym e ∙ f.walked) in
      (both.0, record { ready = y; deep = deep; path = both.1; counter = f })

module _ {h : ℕ} {keys a k c : List ℕ} {line : ℕ} {r : Line} (f : Found h keys a k c line r) where
  abbrev d : List ℕ
  d = with_path h a (page_of line) (suc h) c

  -- the block that is loaded is the one that the counter was found in
  pub block-found : page_block d line ≡ current h a c 0 (page_of line)
  block-found = block-loaded f.ready

  pub minor-found : line_minor d line ≡ r.minor
  minor-found = ap (λ (b : List ℕ). minor b (place_of line)) block-found ∙ sym f.counter.minor_is

  pub major-found : major (page_block d line) ≡ r.major
  major-found = ap major block-found ∙ sym f.counter.major_is

  pub minor-small : r.minor < 128
  minor-small = omega (arith, f.counter.minor_is, (below-minors (current h a c 0 (page_of line))).at (place_of line))
