-- `access::opening` meets its contract. Assumes nothing.
use mathlib.Core.Path.{◌≡◌, sym, ap, ◌∙◌}
use mathlib.Core.Bool.{true}
use Prim.Native.Nat.{◌≤◌}
use native.Mathlib.Omega.{arith}
use Rattle.memory_map.specs.Map.{array_length}
use Rattle.slot_map.specs.Slots.{cache_length}
use Rattle.control.specs.Control.{valid, depth}
use Rattle.control.proofs.Laws.{valid-parts}
use Rattle.access.proofs.Laws.{wrong-keys, wrong-control, not_valid, wrong-array, wrong-cache, right-cache}
use Rattle.access.proofs.opening.Goals as goal

pub returns-then-keys-ne48 : goal.returns-then-keys-ne48
returns-then-keys-ne48 c = wrong-keys _ _ c.if-keys-ne48.true

pub returns-then-control-ne-LENGTH : goal.returns-then-control-ne-LENGTH
returns-then-control-ne-LENGTH c = wrong-control _ _ c.if-keys-ne48.false c.if-control-ne-LENGTH.true

pub returns-then-not-valid : goal.returns-then-not-valid
returns-then-not-valid c =
    not_valid _ _ c.if-keys-ne48.false c.if-control-ne-LENGTH.false
    (sym c.valid.ensures ∙ c.if-not-valid.true)

pub array_length-array_size-requires : goal.array_length-array_size-requires
array_length-array_size-requires c =
    let is-valid : valid c.args.control.now ≡ true = sym c.valid.ensures ∙ c.if-not-valid.false in
    let deep : (1 ≤ c.depth-h.result) × (c.depth-h.result ≤ 3) = let head = (valid-parts is-valid).head in omega (arith, c.depth-h.ensures, head.deep, head.flat) in
    deep

pub cache_length-cache_size-requires : goal.cache_length-cache_size-requires
cache_length-cache_size-requires c =
    let is-valid : valid c.args.control.now ≡ true = sym c.valid.ensures ∙ c.if-not-valid.false in
    let deep : (1 ≤ c.depth-h.result) × (c.depth-h.result ≤ 3) = let head = (valid-parts is-valid).head in omega (arith, c.depth-h.ensures, head.deep, head.flat) in
    deep

pub returns-then-array-array_size : goal.returns-then-array-array_size
returns-then-array-array_size c =
    let is-valid : valid c.args.control.now ≡ true = sym c.valid.ensures ∙ c.if-not-valid.false in
    let array_size : c.array_length-array_size.result ≡ array_length (depth c.args.control.now) = c.array_length-array_size.ensures ∙ ap array_length c.depth-h.ensures in
    wrong-array _ _ c.if-keys-ne48.false c.if-control-ne-LENGTH.false is-valid (λ e. c.if-array-array_size.true (e ∙ sym array_size))

pub returns-then-cache-cache_size : goal.returns-then-cache-cache_size
returns-then-cache-cache_size c =
    let is-valid : valid c.args.control.now ≡ true = sym c.valid.ensures ∙ c.if-not-valid.false in
    let array_size : c.array_length-array_size.result ≡ array_length (depth c.args.control.now) = c.array_length-array_size.ensures ∙ ap array_length c.depth-h.ensures in
    let cache-size : c.cache_length-cache_size.result ≡ cache_length (depth c.args.control.now) = c.cache_length-cache_size.ensures ∙ ap cache_length c.depth-h.ensures in
    wrong-cache _ _ c.if-keys-ne48.false c.if-control-ne-LENGTH.false is-valid (c.if-array-array_size.false ∙ array_size)
    (λ e. c.if-cache-cache_size.true (e ∙ sym cache-size))

pub returns : goal.returns
returns c =
    let is-valid : valid c.args.control.now ≡ true = sym c.valid.ensures ∙ c.if-not-valid.false in
    let array_size : c.array_length-array_size.result ≡ array_length (depth c.args.control.now) = c.array_length-array_size.ensures ∙ ap array_length c.depth-h.ensures in
    let cache-size : c.cache_length-cache_size.result ≡ cache_length (depth c.args.control.now) = c.cache_length-cache_size.ensures ∙ ap cache_length c.depth-h.ensures in
    right-cache _ _ c.if-keys-ne48.false c.if-control-ne-LENGTH.false is-valid (c.if-array-array_size.false ∙ array_size)
    (c.if-cache-cache_size.false ∙ cache-size)
