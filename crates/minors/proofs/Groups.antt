-- Groups of eight minors: seven bytes of the block, or a byte each. Assumes nothing.
use mathlib.Core.Path.{◌≡◌, sym, ap, ap₂, ◌∙◌}
use mathlib.Core.List.{List}
use Prim.Native.Nat.{ℕ, ◌+◌, ◌*◌, ◌≤◌, ◌/◌, ◌^◌, ◌<◌}
use native.Mathlib.Nat.{le_refl, one-mul, zero-add}
use native.Mathlib.Omega.{arith}
use lib.Dec.{lit<, lit≤}
use lib.ListN.{length, take, drop}
use lib.Seq.{take_all, drop-drop}
use Rattle.words.specs.Bytes.{number, digits, from_le, to_le, part, put}
use Rattle.words.proofs.Digits.{Below, below-take, below-drop, below-digits, length_digits, number-drop, number-take}
use Rattle.words.proofs.Digits.{number-exact, digits-cut, digits-exact, pow-mul}
use Rattle.words.proofs.Parts.{length_part, drop-take, part-digits, number-parts, copy_more}
use Rattle.words.proofs.Puts.{put-put, copy-over}
use Rattle.words.proofs.Words.{part-lt}
use Rattle.counter.specs.Counter.{major, minors, counter_block}
use Rattle.minors.proofs.Lanes.{lanes, scaled-lt}
use Rattle.counter.proofs.Laws.{length-minors, length-counter_block, below-counter_block, major-counter_block, minors-counter_block}

-- ---- digits of base 128 as bytes

spread-below : (n x : ℕ) → Below 256 (digits 128 n x)
spread-below n x = record { at = λ i. omega (arith, (below-digits 128 n x (lit< tt)).at i) }

-- w has the digits of x, a byte each
pub record Word (x w : ℕ) : Type 0 where
  pub fits : x < 128 ^ 8
  pub bytes : w ≡ 1 * lanes 7 1 8 x
  pub small : w < 2 ^ 63

pub word : (s : List ℕ) (at : ℕ) {w : ℕ} → at + 8 ≤ length s → Below 128 s → w ≡ from_le (part s at 8) → Word (number 128 (part s at 8)) w
word s at {w} room below e =
    let ds = part s at 8 in
    let x = number 128 ds in
    let bytes : w ≡ 1 * lanes 7 1 8 x =
    e ∙ ap from_le (sym (digits-exact 128 8 ds (length_part s at 8 room) (below-take 8 (drop at s) (below-drop at s below))))
    ∙ sym (one-mul (lanes 7 1 8 x))
    in
    record { fits = part-lt 8 s at below; bytes = bytes; small = omega (arith, scaled-lt 7 1 2 8 x (lit≤ tt)) }

-- ---- a group of a block

-- the word without its lowest byte
pub word-high : (s : List ℕ) (at n : ℕ) → Below 256 s → from_le (part s at (1 + n)) / 256 ≡ from_le (part s (at + 1) n)
word-high s at n h =
    sym (number-drop 256 1 (part s at (1 + n)) (below-take (1 + n) (drop at s) (below-drop at s h)))
    ∙ ap from_le (drop-take 1 n (drop at s) ∙ ap (take n) (drop-drop 1 at s))

pub group-minors : (b : List ℕ) (g : ℕ) → Below 256 b → g < 8 → part (minors b) (8 * g) 8 ≡ digits 128 8 (from_le (part b (8 + 7 * g) 7))
unfolding minors
group-minors b g hb hg =
    let d = drop 8 b in
    let x = from_le d in
    part-digits 128 64 x (8 * g) 8 (omega arith)
    ∙ ap (λ (p : ℕ). digits 128 8 (x / p)) (sym (pow-mul 128 8 g) ∙ pow-mul 256 7 g)
    ∙ ap (digits 128 8) (sym (number-drop 256 (7 * g) d (below-drop 8 b hb)) ∙ ap from_le (drop-drop (7 * g) 8 b))
    ∙ sym (digits-cut 128 8 (from_le (drop (8 + 7 * g) b)) (lit< tt))
    ∙ ap (digits 128 8) (sym (number-take 256 7 (drop (8 + 7 * g) b) (below-drop (8 + 7 * g) b hb)))

-- ---- unpacking

-- group g stored after those before it; w is the word that ends with the group
pub unpack-next : (b out : List ℕ) (g w : ℕ) → length out ≡ 64 → Below 256 b → g < 8 → w ≡ from_le (part b (7 + 7 * g) 8)
    → put (put out 0 (part (minors b) 0 (8 * g))) (8 * g) (to_le 8 (number 256 (digits 128 8 (w / 256))))
    ≡ put out 0 (part (minors b) 0 (8 * (g + 1)))
unpack-next b out g w ho hb hg e =
    let ms = minors b in
    let size = length-minors b in
    let at : 7 + 7 * g + 1 ≡ 8 + 7 * g = omega arith in
    let next : 8 * g + 8 ≡ 8 * (g + 1) = omega arith in
    ap (put (put out 0 (part ms 0 (8 * g))) (8 * g))
    (digits-exact 256 8 (digits 128 8 (w / 256)) (length_digits 128 8 (w / 256)) (spread-below 8 (w / 256))
    ∙ ap (digits 128 8) (ap (λ (x : ℕ). x / 256) e ∙ word-high b (7 + 7 * g) 7 hb ∙ ap (λ (k : ℕ). from_le (part b k 7)) at)
    ∙ sym (group-minors b g hb hg))
    ∙ ap (λ (k : ℕ). put (put out 0 (part ms 0 (8 * g))) k (part ms k 8)) (sym (zero-add (8 * g)))
    ∙ copy_more out 0 ms 0 (8 * g) 8 (omega arith) (omega arith) ∙ ap (λ (k : ℕ). put out 0 (part ms 0 k)) next

-- ---- packing

-- what g groups of the block b leave at an index: the bytes up to them, of which word has the last eight
pub record Packed (b out₀ : List ℕ) (at : ℕ) (out : List ℕ) (word g : ℕ) : Type 0 where
  pub bytes : out ≡ put out₀ at (part b 0 (8 + 7 * g))
  pub last : word ≡ from_le (part b (7 * g) 8)

-- a major and minors
pub record Packable (m : ℕ) (ms : List ℕ) : Type 0 where
  pub major : m < 2 ^ 64
  pub count : length ms ≡ 64
  pub digits : Below 128 ms

module _ {m : ℕ} {ms : List ℕ} (ok : Packable m ms) where
  abbrev block : List ℕ
  block = counter_block m ms

  -- the word at an index, byte by byte
  stored : (at : ℕ) → at + 8 ≤ 64 → to_le 8 (from_le (part block at 8)) ≡ part block at 8
  stored at h =
      let size = length-counter_block m ms in
      digits-exact 256 8 (part block at 8) (length_part block at 8 (omega arith))
      (below-take 8 (drop at block) (below-drop at block (below-counter_block m ms)))

  -- the seven bytes of a group
  group-number : (g : ℕ) → g < 8 → from_le (part block (8 + 7 * g) 7) ≡ number 128 (part ms (8 * g) 8)
  group-number g hg =
      let x = from_le (part block (8 + 7 * g) 7) in
      sym (number-exact 128 8 x (lit< tt) (part-lt 7 block (8 + 7 * g) (below-counter_block m ms)))
      ∙ ap (number 128)
      (sym (group-minors block g (below-counter_block m ms) hg)
      ∙ ap (λ (l : List ℕ). part l (8 * g) 8) (minors-counter_block m ms ok.count ok.digits))

  pub packed_none : (s : List ℕ) (at : ℕ) {out : List ℕ} → at ≤ length s → out ≡ put s at (to_le 8 m) → Packed block out at out m 0
  unfolding major
  packed_none s at {out} h e =
      let first = sym (major-counter_block m ms ok.major) in
      let front = part block 0 8 in
      let whole : out ≡ put s at front = e ∙ ap (put s at) (ap (to_le 8) first ∙ stored 0 (lit≤ tt)) in
      let again = put-put s at front h front (le_refl (length front)) in
      record { bytes = whole ∙ sym (ap (λ (l : List ℕ). put l at front) whole ∙ again); last = first }

  module _ (out₀ : List ℕ) (at : ℕ) {out : List ℕ} {word g : ℕ} (p : Packed block out₀ at out word g) (hg : g < 8) where
    pub packed_lt : word < 2 ^ 64
    packed_lt = rw p.last (part-lt 8 block (7 * g) (below-counter_block m ms))

    pub packed-word : {x : ℕ} → x ≡ 128 * number 128 (part ms (8 * g) 8) → word / 2 ^ 56 + 2 * x ≡ from_le (part block (7 * (g + 1)) 8)
    packed-word {x} e =
        let size = length-counter_block m ms in
        let next : 7 * g + 7 ≡ 7 * (g + 1) = omega arith in
        let group : 7 * (g + 1) + 1 ≡ 8 + 7 * g = omega arith in
        let high : word / 2 ^ 56 ≡ from_le (part block (7 * (g + 1)) 1) =
        ap (λ (w : ℕ). w / 2 ^ 56) p.last
        ∙ sym (number-drop 256 7 (part block (7 * g) 8)
        (below-take 8 (drop (7 * g) block) (below-drop (7 * g) block (below-counter_block m ms))))
        ∙ ap from_le (drop-take 7 1 (drop (7 * g) block) ∙ ap (take 1) (drop-drop 7 (7 * g) block ∙ ap (λ (k : ℕ). drop k block) next))
        in
        let low = sym (group-number g hg) ∙ ap (λ (k : ℕ). from_le (part block k 7)) (sym group) in
        omega (arith, number-parts 256 1 7 block (7 * (g + 1)) (omega arith))

    pub packed-next : {after : List ℕ} {word' : ℕ} → word' ≡ from_le (part block (7 * (g + 1)) 8)
        → after ≡ put out (at + 7 + 7 * g) (to_le 8 word') → at + 64 ≤ length out₀ → Packed block out₀ at after word' (g + 1)
    packed-next {after} {word'} e f h =
        let size = length-counter_block m ms in
        let seam : at + 7 + 7 * g ≡ at + (7 + 7 * g) = omega arith in
        let here : 7 * (g + 1) ≡ 7 + 7 * g = omega arith in
        let before : 8 + 7 * g ≡ 7 + 7 * g + 1 = omega arith in
        let next : 7 + 7 * g + 8 ≡ 8 + 7 * (g + 1) = omega arith in
        record {
          bytes = f ∙ ap (λ (x : ℕ). put out (at + 7 + 7 * g) (to_le 8 x)) e
              ∙ ap (put out (at + 7 + 7 * g))
              (stored (7 * (g + 1)) (omega arith)
              ∙ ap (λ (k : ℕ). part block k 8) (here ∙ sym (zero-add (7 + 7 * g))))
              ∙ ap₂ {C = List ℕ} (λ (l : List ℕ) (k : ℕ). put l k (part block (0 + (7 + 7 * g)) 8))
              (p.bytes ∙ ap (λ (k : ℕ). put out₀ at (part block 0 k)) before) seam
              ∙ copy-over out₀ at block 0 (7 + 7 * g) 1 8 (lit≤ tt) (omega arith) (omega arith)
              ∙ ap (λ (k : ℕ). put out₀ at (part block 0 k)) next;
          last = e;
        }

  pub packed_all : (s : List ℕ) (at : ℕ) {out₀ out : List ℕ} {word g : ℕ} → at ≤ length s → out₀ ≡ put s at (to_le 8 m) → g ≡ 8
      → Packed block out₀ at out word g → out ≡ put s at block
  packed_all s at {out₀} {out} {word} {g} h e f p =
      let size = length-counter_block m ms in
      let whole : length block ≤ 8 + 7 * g = omega arith in
      p.bytes ∙ ap (put out₀ at) (take_all (8 + 7 * g) block whole) ∙ ap (λ (l : List ℕ). put l at block) e
      ∙ put-put s at (to_le 8 m) h block (omega (arith, length_digits 256 8 m))
