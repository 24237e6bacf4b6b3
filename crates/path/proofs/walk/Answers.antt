-- `path::walk` meets its contract. Assumes nothing.
use mathlib.Core.Path.{◌≡◌, sym, ap, ◌∙◌}
use mathlib.Core.Bool.{Bool, true, false}
use Prim.Native.Nat.{suc, ◌-◌, ◌≤◌}
use native.Mathlib.Omega.{arith}
use Rattle.memory_map.specs.Map.{on_path}
use Rattle.cache.specs.Cache.{holds}
use Rattle.node.proofs.Laws.{Slotted, slotted}
use Rattle.call_laws.specs.Walk.{missing}
use Rattle.path.proofs.Laws.{path-inside, walking-held, walking-loaded, walking-wrong, walking-all, told-loaded}
use Rattle.path.proofs.Laws.{told-differs}
use Rattle.path.proofs.walk.Goals as goal

pub holds-requires : goal.holds-requires
holds-requires c =
    let low : c.loop-n.n - 1 ≤ c.args.h = omega (arith, c.loop-n.invariant.levels) in
    let found : Slotted c.args.h (c.loop-n.n - 1) c.on_path-i.result c.args.cache.now = slotted _ _ _ _ c.requires.1.0.flat c.requires.1.0.cache
    (path-inside c.requires.1.1 low c.on_path-i.ensures) in
    let n = found in (n.level, (n.word, n.slot))

pub returns-then-not-genuine : goal.returns-then-not-genuine
returns-then-not-genuine c =
    let held : (b : Bool) → c.holds.result ≡ b → holds c.args.cache.now (c.loop-n.n - 1) (on_path c.args.p (c.loop-n.n - 1)) ≡ b = λ b e. ap (holds c.args.cache.now (c.loop-n.n - 1)) (sym c.on_path-i.ensures)
    ∙ sym c.holds.ensures ∙ e in
    told-differs c.args.h c.requires.1.0.flat c.args.keys.now c.args.array.now c.requires.1.0.array c.args.root c.args.p c.requires.1.1
    c.args.cache.now c.requires.1.0.cache
    (missing c.args.cache.now c.args.p (suc c.args.h)) _ _
    (walking-wrong c.args.h c.args.keys.now c.args.array.now c.args.cache.now c.args.root c.args.p c.loop-n.invariant (omega arith)
    (held false c.if-not-holds.true)
    (sym c.genuine.ensures ∙ c.if-not-genuine.true))
    c.on_path-i.ensures

pub loop-n-preserved-then-not-holds : goal.loop-n-preserved-then-not-holds
loop-n-preserved-then-not-holds c =
    let held : (b : Bool) → c.holds.result ≡ b → holds c.args.cache.now (c.loop-n.n - 1) (on_path c.args.p (c.loop-n.n - 1)) ≡ b = λ b e. ap (holds c.args.cache.now (c.loop-n.n - 1)) (sym c.on_path-i.ensures)
    ∙ sym c.holds.ensures ∙ e in
    walking-loaded c.args.h c.args.keys.now c.args.array.now c.args.cache.now c.args.root c.args.p c.loop-n.invariant (omega arith)
    (held false c.if-not-holds.true)
    (sym c.genuine.ensures ∙ c.if-not-genuine.false)

pub loop-n-preserved : goal.loop-n-preserved
loop-n-preserved c =
    let held : (b : Bool) → c.holds.result ≡ b → holds c.args.cache.now (c.loop-n.n - 1) (on_path c.args.p (c.loop-n.n - 1)) ≡ b = λ b e. ap (holds c.args.cache.now (c.loop-n.n - 1)) (sym c.on_path-i.ensures)
    ∙ sym c.holds.ensures ∙ e in
    walking-held c.args.h c.args.keys.now c.args.array.now c.args.cache.now c.args.root c.args.p c.loop-n.invariant (omega arith)
    (held true c.if-not-holds.false)

pub returns : goal.returns
returns c =
    let all = walking-all c.args.h c.args.keys.now c.args.array.now c.args.cache.now c.args.root c.args.p c.loop-n.invariant (omega arith) in
    told-loaded c.args.h c.requires.1.0.flat c.args.keys.now c.args.array.now c.requires.1.0.array c.args.root c.args.p c.requires.1.1
    c.args.cache.now c.requires.1.0.cache
    (missing c.args.cache.now c.args.p (suc c.args.h)) _ all.0 all.1
