-- Bringing the counters forward: which refusals can end it. Assumes nothing.
use mathlib.Core.Path.{◌≡◌, refl}
use mathlib.Core.Logic.{◌⊎◌, inl, inr}
use mathlib.Core.Bool.{Bool, true, false, cond}
use mathlib.Core.List.{List, [], ◌∷◌}
use Prim.Native.Nat.{ℕ, zero, suc, ◌*◌}
use lib.Dec.{leb}
use Rattle.memory_map.specs.Map.{cell_of}
use Rattle.memory_map.specs.Map.Item.{node}
use Rattle.counter.specs.Counter.{major, minors, counter_block, forward}
use Rattle.candidates.specs.Candidates.{choice}
use Rattle.candidates.specs.declared.Choice.{Choice}
use Rattle.candidates.specs.declared.Choice.TheVariants.{None, Only, Several}
use Rattle.control.specs.Control.{is_open}
use Rattle.cache.specs.Cache.{with_slot, cell_bytes, cell_content}
use Rattle.journal.specs.Journal.{Media}
use Rattle.calls.specs.Recovery.{Step, to, bad, by_phase, by_choice, phase_byte, Source, step_of, line_step, source_of}
use Rattle.calls.specs.Recovery.{Forwarded, so_far, failed, onward, stepped}
use Rattle.calls.specs.Recovery.{forward_from, forward_page, rebuild_block, rebuild_slot, rebuild_blocks}

-- what holds of the refusal of a step, if it has one, and of what ends bringing forward
unfoldable pub StepIs : (ℕ → Type 0) → Step → Type 0
StepIs P (to v) = Unit {0}
StepIs P (bad k) = P k

unfoldable pub EndIs : (ℕ → Type 0) → Forwarded → Type 0
EndIs P (so_far x sum) = Unit {0}
EndIs P (failed k n) = P k

-- the refusals of a line's step, by the family
unfoldable pub StepRefusal : ℕ → ℕ → Type 0
StepRefusal zero k = (k ≡ 28) ⊎ (k ≡ 32)
StepRefusal (suc f) k = (k ≡ 33) ⊎ (k ≡ 34)

phase-step : (s p : ℕ) → StepIs (StepRefusal 0) (by_phase s p)
unfolding StepIs StepRefusal by_phase
phase-step s p = go (leb p 3) (leb (forward s p) 127)
  where
    go : (b d : Bool) → StepIs (StepRefusal 0) (cond b (cond d (to (forward s p)) (bad 32)) (bad 28))
    go true true = tt
    go true false = inr refl
    go false d = inl refl

choice-step : (f : ℕ) (x : Choice) → StepIs (StepRefusal (suc f)) (by_choice x)
unfolding StepIs StepRefusal by_choice
choice-step f None = inl refl
choice-step f (Only v) = tt
choice-step f Several = inr refl

pub line_step_lem : (x : Source) (n s : ℕ) → StepIs (StepRefusal x.family) (line_step x n s)
unfolding step_of
line_step_lem x n s = go x.family
  where
    go : (f : ℕ) → StepIs (StepRefusal f) (step_of f x n s)
    go zero = phase-step s (phase_byte x.array n)
    go (suc f) = choice-step f (choice x.keys (cell_bytes x.array n) n x.major s)

-- ---- from the steps to all slots

module _ (P : ℕ → Type 0) where
  onward-end : (r : Forwarded) (next : List ℕ → ℕ → Forwarded) → EndIs P r → ((x : List ℕ) (t : ℕ) → EndIs P (next x t))
      → EndIs P (onward r next)
  unfolding onward EndIs
  onward-end (so_far x sum) next e f = f x sum
  onward-end (failed k n) next e f = e

  step_end : (t : Step) (n s : ℕ) (ms : List ℕ) (sum : ℕ) → StepIs P t → EndIs P (stepped t n s ms sum)
  unfolding stepped StepIs EndIs
  step_end (to v) n s ms sum e = tt
  step_end (bad k) n s ms sum e = e

  lines_end : (x : Source) → ((n s : ℕ) → StepIs P (line_step x n s)) → (ss : List ℕ) (n : ℕ) (ms : List ℕ) (sum : ℕ)
      → EndIs P (forward_from x n ss ms sum)
  unfolding forward_from EndIs
  lines_end x steps [] n ms sum = tt
  lines_end x steps (s ∷ ss) n ms sum =
      onward-end (stepped (line_step x n s) n s ms sum) (forward_from x (suc n) ss) (step_end (line_step x n s) n s ms sum (steps n s))
      (lines_end x steps ss (suc n))

  page-end : (k : List ℕ) (x : Source) → ((n s : ℕ) → StepIs P (line_step x n s)) → (p : ℕ) (ss : List ℕ) (sum : ℕ)
      → EndIs P (forward_page k x p ss sum)
  unfolding forward_page EndIs
  page-end k x steps p ss sum = go (is_open k p)
    where
      go : (b : Bool) → EndIs P (cond b (so_far ss sum) (forward_from x (64 * p) ss [] sum))
      go true = tt
      go false = lines_end x steps ss (64 * p) [] sum

  module _ (h : ℕ) (keys : List ℕ) (d : Media) (steps : (ma n s : ℕ) → StepIs P (line_step (source_of keys d ma) n s)) where
    slot-end : (c : List ℕ) (sum s o : ℕ) → EndIs P (rebuild_slot h keys d c sum s o)
    unfolding rebuild_slot rebuild_block EndIs
    slot-end c sum s zero = tt
    slot-end c sum s (suc p) =
        let b = cell_content d.array (cell_of h (node 0 p)) in
        onward-end (forward_page d.control (source_of keys d (major b)) p (minors b) sum)
        (λ ms t. so_far (with_slot c s (suc p) 1 (counter_block (major b) ms)) t)
        (page-end d.control (source_of keys d (major b)) (steps (major b)) p (minors b) sum) (λ x t. tt)

    pub blocks_end : (os : List ℕ) (s : ℕ) (c : List ℕ) (sum : ℕ) → EndIs P (rebuild_blocks h keys d s os c sum)
    unfolding rebuild_blocks EndIs
    blocks_end [] s c sum = tt
    blocks_end (o ∷ os) s c sum =
        onward-end (rebuild_slot h keys d c sum s o) (rebuild_blocks h keys d (suc s) os) (slot-end c sum s o) (blocks_end os (suc s))
