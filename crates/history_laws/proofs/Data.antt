-- The data cell of a line: its bytes at the counter that a tree has for the line, and the text that they give back.
-- Assumes nothing.
use mathlib.Core.Path.{◌≡◌, sym, ap, ap₂, ◌∙◌}
use mathlib.Core.Bool.{true}
use mathlib.Core.List.{List, ◌++◌}
use Prim.Native.Nat.{ℕ, ◌+◌, ◌*◌}
use native.Mathlib.Omega.{arith}
use lib.Dec.{lit≤}
use lib.ListN.{length, take, drop}
use lib.Seq.{take_at, take-take}
use Rattle.words.specs.Bytes.{part}
use Rattle.memory_map.specs.Map.{page_of}
use Rattle.counter.specs.Counter.{major}
use Rattle.pad.specs.Pad.{pad, xor_bytes}
use Rattle.pad.proofs.Xor.{length-xor, xor-back}
use Rattle.pad.proofs.Nonce.{length-pad}
use Rattle.side.specs.Side.{side_bytes, side_fits}
use Rattle.side.proofs.Laws.{length-cell, side-fits}
use Rattle.cache.specs.Cache.{cell_content}
use Rattle.calls.specs.Read.{side_ok, line_text, page_block, line_minor}
use Rattle.history_laws.proofs.Setting.{Setting, Tree, pad_of, cipher_of, side_of}

-- the bytes of line n's cell, with a text
unfoldable pub data_bytes : Setting → Tree → ℕ → List ℕ → List ℕ
data_bytes S T n text = cipher_of S T n text ++ side_of S T n text

-- they are the same in trees that have the same counter for the line: its page's major, and its count
pub data-agree : (S : Setting) (T U : Tree) (n : ℕ) (text : List ℕ) → T.major (page_of n) ≡ U.major (page_of n) → T.count n ≡ U.count n
    → data_bytes S T n text ≡ data_bytes S U n text
unfolding data_bytes
data-agree S T U n text d e =
    ap₂ (λ (ma mi : ℕ). let c = xor_bytes text (pad S.keys n ma mi) in c ++ side_bytes S.family S.keys c n ma mi) d e

module _ (S : Setting) (T : Tree) (n : ℕ) (text : List ℕ) (full : length text ≡ 64) where
  pub length-cipher : length (cipher_of S T n text) ≡ 64
  length-cipher = length-xor text (pad_of S T n) (omega (arith, full, length-pad S.keys n (T.major (page_of n)) (T.count n))) ∙ full

  pub length-data : length (data_bytes S T n text) ≡ 72
  unfolding data_bytes
  length-data = length-cell S.family S.keys (cipher_of S T n text) n (T.major (page_of n)) (T.count n) length-cipher

-- ---- the text

-- a cell of these bytes, and a cache that has the line's counter
module _ (S : Setting) (T : Tree) (n : ℕ) (a t : List ℕ) (full : length t ≡ 64) (row : part a (72 * n) 72 ≡ data_bytes S T n t) where
  open S use {keys, family}

  abbrev cipher : List ℕ
  cipher = cipher_of S T n t

  cipher-is : cell_content a n ≡ cipher
  unfolding cell_content data_bytes
  cipher-is =
      sym (take-take 64 72 (drop (72 * n) a) (lit≤ tt)) ∙ ap (take 64) row ∙ take_at cipher (side_of S T n t) 64 (length-cipher S T n t full)

  module _ (c : List ℕ) (ma : major (page_block c n) ≡ T.major (page_of n)) (mi : line_minor c n ≡ T.count n) where
    pub side-ok : side_ok family keys a c n ≡ true
    unfolding side_ok data_bytes
    side-ok =
        ap₂ (λ (l : List ℕ) (k : ℕ). side_fits family keys l n k (line_minor c n)) row ma
        ∙ ap (side_fits family keys (data_bytes S T n t) n (T.major (page_of n))) mi
        ∙ side-fits family keys cipher n (T.major (page_of n)) (T.count n) (length-cipher S T n t full)

    pub text-is : line_text keys a c n ≡ t
    unfolding line_text
    text-is =
        ap₂ xor_bytes cipher-is (ap₂ (pad keys n) ma mi)
        ∙ xor-back t (pad_of S T n) (omega (arith, length-pad keys n (T.major (page_of n)) (T.count n)))
