-- Laws of what is staged of a turn's batches: what the first starts with, and what the last ends with. Assumes nothing.
use mathlib.Core.Path.{◌≡◌, refl, sym, ap, ap₂, ◌∙◌}
use mathlib.Core.Bool.{true, false}
use mathlib.Core.List.{List, [], ◌∷◌, ◌++◌, map, append-nil}
use Prim.Native.Nat.{ℕ, suc, ◌+◌, ◌*◌, ◌^◌, ◌≤◌, ◌<◌}
use native.Mathlib.Nat.{zero-add}
use native.Mathlib.Numerals.{add-one}
use native.Mathlib.Omega.{arith}
use borrow.Author.Tests.{le-leb, lt-leb}
use lib.ListN.{length, get_or, length-append}
use Rattle.bits.specs.Bits.{set_bits}
use Rattle.bits.proofs.Laws.{bits_none, bits-some}
use Rattle.memory_map.specs.Map.{pages, array_length}
use Rattle.memory_map.proofs.Laws.{lines-small}
use Rattle.words.proofs.Digits.{Below}
use Rattle.control.specs.Control.{control_length, Cell, is_open}
use Rattle.cache.specs.Cache.{formed}
use Rattle.node.specs.Sized.{Sized}
use Rattle.call_laws.specs.Walk.{missing}
use Rattle.path.proofs.Ready.{Ready}
use Rattle.batch.specs.Batch.{staged, staged_from}
use Rattle.batch.proofs.Laws.{staged-one, staged-append}
use Rattle.calls.specs.Path.{node_cell}
use Rattle.calls.specs.Turn.{line_at, block_of, turn_places, turn_front}
use Rattle.call_laws.proofs.Turn.{line-inside}
use Rattle.node.proofs.Laws.{line-room}

-- what staging the front asks for, of buffers of bytes
pub ready : {h : ℕ} {a k c : List ℕ} {p j : ℕ}
    → Sized h a c × ((formed h c ≡ true) × ((p < pages h) × ((length k ≡ control_length) × (j ≡ missing c p (suc h)))))
    → Below 256 a → Below 256 k → Below 256 c → Ready h a k c p
ready q x y z =
    record {
      sized = q.0;
      control = q.1.1.1.0;
      shaped = q.1.0;
      page = q.1.1.0;
      array-bytes = x;
      control-bytes = y;
      cache-bytes = z;
    }

-- the line at place j of page p is in the map
pub record There (a : List ℕ) (p j : ℕ) : Type 0 where
  pub small : line_at p j < 32768
  pub room : 72 * line_at p j + 72 ≤ length a

pub line-there : (h : ℕ) (a : List ℕ) (p j : ℕ) → h ≤ 3 → length a ≡ array_length h → p < pages h → j < 64 → There a p j
line-there h a p j flat whole page place =
    let inside = line-inside h p j place page in
    record { small = omega (arith, inside, lines-small {h = h} refl flat); room = line-room h a (line_at p j) whole inside }

-- ---- what the first batch starts with

-- n cells are staged: x, those of the path
pub record Begun (k : List ℕ) (x : List Cell) (allowance : ℕ) (k₁ : List ℕ) (n : ℕ) : Type 0 where
  pub cells : k₁ ≡ staged_from allowance 0 x k
  pub number : n ≡ length x

-- and the block where it goes with them
pub record Fronted (h : ℕ) (k c : List ℕ) (p : ℕ) (x : List Cell) (allowance : ℕ) (after : List ℕ) (n : ℕ) : Type 0 where
  pub cells : after ≡ staged_from allowance 0 (turn_front h k c p x) k
  pub number : n ≡ length (turn_front h k c p x)

module _ (h : ℕ) {k : List ℕ} (c : List ℕ) (p : ℕ) {x : List Cell} {allowance : ℕ} {k₁ : List ℕ} {n : ℕ}
    (g : Begun k x allowance k₁ n) where
  bare : turn_front h k c p x ≡ x → Fronted h k c p x allowance k₁ n
  bare e =
      record {
        cells = g.cells ∙ ap (λ (y : List Cell). staged_from allowance 0 y k) (sym e);
        number = g.number ∙ ap length (sym e);
      }

  pub front-open : is_open k p ≡ true → Fronted h k c p x allowance k₁ n
  unfolding turn_front
  front-open e = bare (rw e (append-nil x))

  module _ (closed : is_open k p ≡ false) where
    pub front-few : length (turn_places k c p) < 2 → Fronted h k c p x allowance k₁ n
    unfolding turn_front
    front-few q = bare (rw (closed, lt-leb 2 (length (turn_places k c p)) q) (append-nil x))

    pub front-block : 2 ≤ length (turn_places k c p) → (k₂ b : List ℕ) → b ≡ block_of c p → k₂ ≡ staged allowance n (node_cell h 0 p b) k₁
        → Fronted h k c p x allowance k₂ (n + 1)
    unfolding turn_front
    front-block q k₂ b f s =
        let y = node_cell h 0 p (block_of c p) in
        let is : turn_front h k c p x ≡ x ++ (y ∷ []) = rw (closed, le-leb 2 (length (turn_places k c p)) q) in
        let at : n ≡ 0 + length x = g.number ∙ sym (zero-add (length x)) in
        record {
          cells =
              s ∙ ap (λ (z : List ℕ). staged allowance n (node_cell h 0 p z) k₁) f ∙ staged-one allowance n y k₁
              ∙ ap₂ {C = List ℕ} (λ (m : ℕ) (w : List ℕ). staged_from allowance m (y ∷ []) w) at g.cells
              ∙ sym (staged-append allowance 0 x (y ∷ []) k) ∙ ap (λ (z : List Cell). staged_from allowance 0 z k) (sym is);
          number = omega (arith, ap length is, length-append x (y ∷ []));
        }

-- ---- what the last batch ends with

-- behind n cells the new block b and the lines that are left
pub record Closed (h p : ℕ) (b : List ℕ) (lines : List Cell) (allowance : ℕ) (k after : List ℕ) (n m : ℕ) : Type 0 where
  pub cells : after ≡ staged_from allowance n (node_cell h 0 p b ∷ lines) k
  pub number : m ≡ n + suc (length lines)

one_of : (xs : List ℕ) → 0 < length xs → length xs < 2 → xs ≡ get_or xs 0 0 ∷ []
one_of [] p q = absurd (omega arith)
one_of (x ∷ []) p q = refl
one_of (x ∷ y ∷ xs) p q = absurd (omega arith)

module _ (h p : ℕ) (b : List ℕ) (f : ℕ → Cell) (allowance : ℕ) (k : List ℕ) (n : ℕ) (k₁ : List ℕ)
    (block : k₁ ≡ staged allowance n (node_cell h 0 p b) k) (rest : ℕ) where
  pub closed_none : rest ≡ 0 → Closed h p b (map f (set_bits rest)) allowance k k₁ n (n + 1)
  unfolding staged_from
  closed_none e =
      let none : set_bits rest ≡ [] = ap set_bits e ∙ bits_none in
      record {
        cells =
            block ∙ ap (λ (js : List ℕ). staged_from allowance n (node_cell h 0 p b ∷ map f js) k) (sym none);
        number = sym (ap (λ (js : List ℕ). n + suc (length (map f js))) none);
      }

  pub closed-one : (rest ≡ 0 → ⊥) → rest < 2 ^ 64 → length (set_bits rest) < 2 → (j : ℕ) → j ≡ get_or (set_bits rest) 0 0
      → (k₂ : List ℕ) → k₂ ≡ staged allowance (n + 1) (f j) k₁ → Closed h p b (map f (set_bits rest)) allowance k k₂ n (n + 2)
  unfolding staged_from
  closed-one some fits few j e k₂ g =
      let one : set_bits rest ≡ j ∷ [] =
      one_of (set_bits rest) (bits-some rest (omega arith) fits) few ∙ ap (λ (i : ℕ). i ∷ []) (sym e) in
      record {
        cells =
            g ∙ ap₂ {C = List ℕ} (λ (m : ℕ) (w : List ℕ). staged allowance m (f j) w) (add-one n)
            block
            ∙ ap (λ (js : List ℕ). staged_from allowance n (node_cell h 0 p b ∷ map f js) k) (sym one);
        number = sym (ap (λ (js : List ℕ). n + suc (length (map f js))) one);
      }
