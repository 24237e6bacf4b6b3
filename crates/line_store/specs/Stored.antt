-- A write by the counter that its line gets, for the contracts of its steps. Assumes nothing.
use Rattle.std.specs.Prelude.{ℕ, suc, cond, List, eqb, length}
use Rattle.memory_map.specs.Map.{page_of}
use Rattle.counter.specs.Counter.{lag}
use Rattle.answer.specs.declared.Answer.TheVariants.{Done}
use Rattle.journal.specs.Journal.{batch_stores}
use Rattle.calls.specs.Path.{renew_path, renewed_root}
use Rattle.calls.specs.Call.{Module, Called, storing}
use Rattle.call_laws.specs.Line.{line_cells}
use Rattle.call_laws.specs.Walk.{with_path}

-- a write of a text at a counter, once its path is found, in a module of family f: b is the counter block that has it
abbrev pub stored_line : ℕ → ℕ → List ℕ → ℕ → List ℕ → ℕ → ℕ → List ℕ → ℕ → Module → Called
stored_line h f keys line text ma mi b allowance m =
    let p = page_of line in
    let d = with_path h m.array p (suc h) m.cache in
    let xs = batch_stores (line_cells h f keys m.cache line text ma mi b) (renewed_root h keys d p b) in
    storing allowance m xs (Done (length xs) 0) (renew_path keys d p b (cond (eqb (lag mi) 0) 0 1) h)
