-- `turn_batch::put_front` meets its contract. Assumes nothing.
use mathlib.Core.Path.{◌≡◌, sym, ap, ◌∙◌}
use mathlib.Core.Bool.{Bool, true, false}
use mathlib.Core.List.{List}
use Prim.Native.Nat.{ℕ, suc}
use native.Mathlib.Omega.{arith}
use lib.ListN.{length}
use Rattle.control.specs.Control.{is_open}
use Rattle.node.proofs.Laws.{current-length}
use Rattle.calls.specs.Turn.{turn_places}
use Rattle.call_laws.specs.Walk.{path_cells, with_path}
use Rattle.call_laws.proofs.Turn.{block_inside}
use Rattle.path.proofs.Ready.{few, block-loaded}
use Rattle.turn_batch.proofs.Laws.{ready, Begun, front-open, front-few, front-block}
use Rattle.turn_batch.proofs.put_front.Goals as goal

pub put_path-n-requires : goal.put_path-n-requires
put_path-n-requires c =
    let y = ready c.requires.sized (record { at = λ i. (c.type_inv.array i).fits })
    (record { at = λ i. (c.slice_known-1.given i).fits }) (record { at = λ i. (c.type_inv.cache i).fits }) in
    record { le_h = (y.sized.deep, (y.sized.flat, (y.sized.cache, (y.shaped, y.page)))); control_len = (y.control, (omega (arith, few y, y.sized.flat), c.requires.sized.1.1.1.1)) }

pub returns-then-open : goal.returns-then-open
returns-then-open c =
    let begun : Begun c.args.control.now (path_cells c.args.h c.args.cache.now c.args.t.now.p (suc c.args.h)) c.args.allowance c.put_path-n.new.control c.put_path-n.result = record { cells = c.put_path-n.ensures.control_after; number = c.put_path-n.ensures.value } in
    let loaded : List ℕ = with_path c.args.h c.args.array.now c.args.t.now.p (suc c.args.h) c.args.cache.now in
    let opened : (t : Bool) → c.is_open-open.result ≡ t → is_open c.args.control.now c.args.t.now.p ≡ t = λ t e. sym c.is_open-open.ensures ∙ e in
    let f = front-open c.args.h loaded c.args.t.now.p begun (opened true c.if-open.true) in
    record { control_after = f.cells; value = f.number }

pub returns-then-remaining-lt2 : goal.returns-then-remaining-lt2
returns-then-remaining-lt2 c =
    let begun : Begun c.args.control.now (path_cells c.args.h c.args.cache.now c.args.t.now.p (suc c.args.h)) c.args.allowance c.put_path-n.new.control c.put_path-n.result = record { cells = c.put_path-n.ensures.control_after; number = c.put_path-n.ensures.value } in
    let loaded : List ℕ = with_path c.args.h c.args.array.now c.args.t.now.p (suc c.args.h) c.args.cache.now in
    let many : c.remaining.result ≡ length (turn_places c.args.control.now loaded c.args.t.now.p) = c.remaining.ensures ∙ ap length c.requires.mask_value in
    let opened : (t : Bool) → c.is_open-open.result ≡ t → is_open c.args.control.now c.args.t.now.p ≡ t = λ t e. sym c.is_open-open.ensures ∙ e in
    let closed : is_open c.args.control.now c.args.t.now.p ≡ false = opened false c.if-open.false in
    let f = front-few c.args.h loaded c.args.t.now.p begun closed (omega (arith, many, c.if-remaining-lt2.true)) in
    record { control_after = f.cells; value = f.number }

pub current-block-requires : goal.current-block-requires
current-block-requires c =
    let y = ready c.requires.sized (record { at = λ i. (c.type_inv.array i).fits })
    (record { at = λ i. (c.slice_known-1.given i).fits }) (record { at = λ i. (c.type_inv.cache i).fits }) in
    (y.sized, block_inside _ _ y.page)

pub put_block-requires : goal.put_block-requires
put_block-requires c =
    let y = ready c.requires.sized (record { at = λ i. (c.type_inv.array i).fits })
    (record { at = λ i. (c.slice_known-1.given i).fits }) (record { at = λ i. (c.type_inv.cache i).fits }) in (
      y.sized.deep,
      (
        y.sized.flat,
        (
          y.page,
          (
            ap length c.current-block.ensures ∙ current-length 0 _ y.sized (block_inside _ _ y.page),
            (c.put_path-n.auto.control ∙ y.control, omega (arith, c.put_path-n.ensures.value, few y, y.sized.flat)),
          ),
        ),
      ),
    )

pub overflow_add-result : goal.overflow_add-result
overflow_add-result c =
    let y = ready c.requires.sized (record { at = λ i. (c.type_inv.array i).fits })
    (record { at = λ i. (c.slice_known-1.given i).fits }) (record { at = λ i. (c.type_inv.cache i).fits }) in
    omega (arith, c.put_path-n.ensures.value, few y, y.sized.flat)

pub returns : goal.returns
returns c =
    let y = ready c.requires.sized (record { at = λ i. (c.type_inv.array i).fits })
    (record { at = λ i. (c.slice_known-1.given i).fits }) (record { at = λ i. (c.type_inv.cache i).fits }) in
    let begun : Begun c.args.control.now (path_cells c.args.h c.args.cache.now c.args.t.now.p (suc c.args.h)) c.args.allowance c.put_path-n.new.control c.put_path-n.result = record { cells = c.put_path-n.ensures.control_after; number = c.put_path-n.ensures.value } in
    let loaded : List ℕ = with_path c.args.h c.args.array.now c.args.t.now.p (suc c.args.h) c.args.cache.now in
    let many : c.remaining.result ≡ length (turn_places c.args.control.now loaded c.args.t.now.p) = c.remaining.ensures ∙ ap length c.requires.mask_value in
    let opened : (t : Bool) → c.is_open-open.result ≡ t → is_open c.args.control.now c.args.t.now.p ≡ t = λ t e. sym c.is_open-open.ensures ∙ e in
    let closed : is_open c.args.control.now c.args.t.now.p ≡ false = opened false c.if-open.false in
    let f = front-block c.args.h loaded c.args.t.now.p begun closed (omega (arith, many, c.if-remaining-lt2.false))
    c.put_block.new.control c.current-block.result.now (c.current-block.ensures ∙ sym (block-loaded y)) c.put_block.ensures in
    record { control_after = f.cells; value = f.number }
