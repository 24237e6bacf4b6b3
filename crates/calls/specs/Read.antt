-- Reading a line.
-- Assumes nothing.
use Rattle.std.specs.Prelude.{ℕ, zero, suc, Bool, cond, List, eqb, length, replicate}
use Rattle.memory_map.specs.Map.{page_of, place_of}
use Rattle.slot_map.specs.Slots.{slot_of}
use Rattle.counter.specs.Counter.{major, minor}
use Rattle.pad.specs.Pad.{pad, xor_bytes}
use Rattle.side.specs.Side.{side_fits}
use Rattle.answer.specs.declared.Answer.TheVariants.{Done, Blank}
use Rattle.answer.specs.declared.Answer.{Answer}
use Rattle.control.specs.Control.{Cell, family, root}
use Rattle.cache.specs.Cache.{content, cell_bytes, cell_content}
use Rattle.journal.specs.Journal.{Store, batch_stores, is_cut}
use Rattle.calls.specs.Path.{Loaded, loaded, differs}
use Rattle.calls.specs.Call.{Module, Called, ended, access_refusal, refuse, storing, path_of}

-- the counter block of a line's page, once its path is loaded
abbrev pub page_block : List ℕ → ℕ → List ℕ
page_block c line = content c (slot_of 0 (page_of line))

abbrev pub line_minor : List ℕ → ℕ → ℕ
line_minor c line = minor (page_block c line) (place_of line)

-- whether a line's data cell has the side bytes of its counter, in a module of family f
unfoldable pub side_ok : ℕ → List ℕ → List ℕ → List ℕ → ℕ → Bool
side_ok f keys a c line = side_fits f keys (cell_bytes a line) line (major (page_block c line)) (line_minor c line)

unfoldable pub line_text : List ℕ → List ℕ → List ℕ → ℕ → List ℕ
line_text keys a c line = xor_bytes (cell_content a line) (pad keys line (major (page_block c line)) (line_minor c line))

-- the blank mark: what a line never written reads as, 64 bytes of FF hex
unfoldable pub blank_text : List ℕ
blank_text = replicate 64 255

-- a call that also writes an output
pub record Reading : Type 0 where
  pub called : Called
  pub output : List ℕ

abbrev pub ended_read : Answer → List ℕ → List ℕ → List ℕ → List ℕ → Reading
ended_read r a k c out = record { called = ended r a k c; output = out }

abbrev pub refused_read : Called → List ℕ → Reading
refused_read k out = record { called = k; output = out }

-- the output once the stores are made: as it was where they are cut
unfoldable pub answered : ℕ → Module → List Store → Answer → List ℕ → List ℕ → List ℕ → Reading
answered allowance m xs answer c text out =
    record { called = storing allowance m xs answer c; output = cond (is_cut allowance xs) out text }

unfoldable pub read_loaded : List ℕ → ℕ → ℕ → Module → List ℕ → List ℕ → List Cell → Reading
read_loaded keys line allowance m out c x =
    let xs = batch_stores x (root m.control) in
    cond (eqb (line_minor c line) 0) (answered allowance m xs (Blank (length xs)) c blank_text out)
    (cond (side_ok (family m.control) keys m.array c line)
    (answered allowance m xs (Done (length xs) 0) c (line_text keys m.array c line) out)
    (refused_read (refuse m 25 line 0) out))

unfoldable pub read_path : List ℕ → ℕ → ℕ → Module → List ℕ → Loaded → Reading
read_path keys line allowance m out (differs l i) = refused_read (refuse m 24 l i) out
read_path keys line allowance m out (loaded c x) = read_loaded keys line allowance m out c x

unfoldable pub read_judged : ℕ → List ℕ → ℕ → ℕ → Module → List ℕ → Reading
read_judged zero keys line allowance m out = read_path keys line allowance m out (path_of keys line m)
read_judged (suc n) keys line allowance m out = refused_read (refuse m (suc n) 0 0) out

abbrev pub read : List ℕ → ℕ → ℕ → List ℕ → Module → Reading
read keys line allowance out m = read_judged (access_refusal keys line out m) keys line allowance m out
