-- `journal::store_cells` meets its contract: after j turns the first j cells of the queue are stored. Assumes nothing.
use mathlib.Core.Path.{◌≡◌, refl, ap, ◌∙◌}
use mathlib.Core.List.{List, map}
use Prim.Native.Nat.{ℕ, ◌+◌, ◌*◌, ◌/◌, ◌≤◌}
use native.Mathlib.Omega.{arith}
use lib.ListN.{length}
use Rattle.words.specs.Bytes.{part, put}
use Rattle.control.specs.Control.{places}
use Rattle.control.proofs.Laws.{in-map-at}
use Rattle.journal.specs.Journal.{media, store_all}
use Rattle.journal.specs.Journal.Store.{cell}
use Rattle.journal.proofs.Steps.{next-cell, no_cell}
use Rattle.journal.proofs.store_cells.Goals as goal

pub loop-j-init : goal.loop-j-init
loop-j-init c = (no_cell (media c.args.array.now c.args.control.now) c.args.control.now 24, refl)

pub overflow_mul-number : goal.overflow_mul-number
overflow_mul-number c =
    let inside : 72 * c.load-number.result + 72 ≤ length c.loop-j.array = omega (
      arith,
      c.load-number.ensures,
      c.loop-j.invariant.1,
      in-map-at (length c.args.array.now / 72)
          c.args.control.now 24 c.args.n c.loop-j.j c.requires.1.1 (omega arith),
    ) in
    omega (arith, inside, c.loop-j.invariant.1)

pub copy-requires : goal.copy-requires
copy-requires c =
    let inside : 72 * c.load-number.result + 72 ≤ length c.loop-j.array = omega (
      arith,
      c.load-number.ensures,
      c.loop-j.invariant.1,
      in-map-at (length c.args.array.now / 72)
          c.args.control.now 24 c.args.n c.loop-j.j c.requires.1.1 (omega arith),
    ) in
    (omega (arith, inside), omega arith)

pub loop-j-preserved : goal.loop-j-preserved
loop-j-preserved c = (
  ap (λ (a : List ℕ). media a c.args.control.now)
      (c.copy.ensures
      ∙ ap (λ (x : ℕ). put c.loop-j.array (72 * x) (part c.args.control.now (24 + 80 * c.loop-j.j + 8) 72))
      c.load-number.ensures)
      ∙ next-cell (media c.args.array.now c.args.control.now) c.loop-j.array c.args.control.now 24 c.loop-j.j
      c.loop-j.invariant.0,
  c.copy.auto.dst ∙ c.loop-j.invariant.1,
)

pub returns : goal.returns
returns c =
    let all : c.loop-j.j ≡ c.args.n = omega arith in
    c.loop-j.invariant.0
    ∙ ap (λ (k : ℕ). store_all (media c.args.array.now c.args.control.now) (map cell (places c.args.control.now 24 k))) all
