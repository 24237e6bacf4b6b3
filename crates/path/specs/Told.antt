-- What walking a path tells, beside the definition of loading it. Assumes nothing.
use Rattle.std.specs.Prelude.{ℕ, suc, ◌≡◌, List, Result, Ok, Err}
use Rattle.memory_map.specs.Map.{page_of, place_of}
use Rattle.counter.specs.Counter.{major, minor}
use Rattle.answer.specs.declared.Answer.{Answer}
use Rattle.answer.specs.declared.Answer.TheVariants.{Refused}
use Rattle.control.specs.Control.{root}
use Rattle.cache.specs.Cache.{current}
use Rattle.calls.specs.Path.{Loaded, loaded, differs, load_path}
use Rattle.call_laws.specs.Walk.{missing}
use Rattle.path.specs.declared.Line.{Line}
use Rattle.path.specs.declared.Differs.{Differs}

-- k nodes were missing, or the level and index of the first whose tag differs
unfoldable pub told : ℕ → Loaded → Result ℕ Differs
told k (loaded d x) = Ok k
told k (differs l i) = Err (record { level = l; index = i })

unfoldable pub refusal_at : Differs → Answer
refusal_at d = Refused 24 0 d.level d.index

-- what walking the path of a line tells
abbrev pub told_of : ℕ → List ℕ → List ℕ → List ℕ → List ℕ → ℕ → Result ℕ Differs
told_of h keys a k c line = told (missing c (page_of line) (suc h)) (load_path h keys a (root k) (page_of line) c)

-- that, and the counter in the block of its page
pub record Finds (h : ℕ) (keys a k c : List ℕ) (line : ℕ) (r : Line) : Type 0 where
  pub walked : r.path ≡ told_of h keys a k c line
  pub major_is : r.major ≡ major (current h a c 0 (page_of line))
  pub minor_is : r.minor ≡ minor (current h a c 0 (page_of line)) (place_of line)
