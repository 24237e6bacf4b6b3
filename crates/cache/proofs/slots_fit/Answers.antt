-- `cache::slots_fit` meets its contract. Assumes nothing.
use native.Mathlib.Omega.{arith}
use mathlib.Core.Path.{◌≡◌, sym, ap₂, ◌∙◌}
use mathlib.Core.Bool.{Bool, true, false, ◌&&◌}
use Prim.Native.Nat.{◌+◌, ◌-◌}
use Rattle.cache.specs.Fits.{all_fit}
use Rattle.cache.proofs.Levels.{fit-turn, fit-end}
use Rattle.cache.proofs.slots_fit.Goals as goal

pub loop-k-init : goal.loop-k-init
loop-k-init c =
    let here : c.args.first ≡ c.args.first + 0 = omega arith in
    let all : c.args.n ≡ c.args.n - 0 = omega arith in
    ap₂ (all_fit c.args.l c.args.nodes c.args.cache.now) here all

pub returns-then-not-slot_fits : goal.returns-then-not-slot_fits
returns-then-not-slot_fits c =
    let turn : (b : Bool) → c.slot_fits.result ≡ b → all_fit c.args.l c.args.nodes c.args.cache.now c.args.first c.args.n ≡ (b && all_fit c.args.l c.args.nodes c.args.cache.now (c.args.first + (c.loop-k.k + 1)) (c.args.n - (c.loop-k.k + 1))) = λ b e. c.loop-k.invariant
    ∙ fit-turn c.args.l c.args.nodes c.args.cache.now c.args.first c.args.n c.loop-k.k b c.loop-k-test.true
    (sym e ∙ c.slot_fits.ensures) in
    sym (turn false c.if-not-slot_fits.true)

pub loop-k-preserved : goal.loop-k-preserved
loop-k-preserved c =
    let turn : (b : Bool) → c.slot_fits.result ≡ b → all_fit c.args.l c.args.nodes c.args.cache.now c.args.first c.args.n ≡ (b && all_fit c.args.l c.args.nodes c.args.cache.now (c.args.first + (c.loop-k.k + 1)) (c.args.n - (c.loop-k.k + 1))) = λ b e. c.loop-k.invariant
    ∙ fit-turn c.args.l c.args.nodes c.args.cache.now c.args.first c.args.n c.loop-k.k b c.loop-k-test.true
    (sym e ∙ c.slot_fits.ensures) in
    turn true c.if-not-slot_fits.false

pub returns : goal.returns
returns c = sym (c.loop-k.invariant ∙ fit-end c.args.l c.args.nodes c.args.cache.now c.args.first c.args.n c.loop-k.k c.loop-k-test.false)
