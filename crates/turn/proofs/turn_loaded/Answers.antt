-- `turn::turn_loaded` meets its contract. Assumes nothing.
use mathlib.Core.Path.{◌≡◌, refl, ap, ◌∙◌}
use Prim.Native.Nat.{suc, ◌^◌, ◌<◌}
use native.Mathlib.Omega.{arith}
use lib.ListN.{length}
use Rattle.counter.specs.Counter.{major, minors}
use Rattle.counter.proofs.Laws.{length-minors}
use Rattle.cache.specs.Cache.{current}
use Rattle.call_laws.proofs.Turn.{block_inside}
use Rattle.turn.proofs.Turning.{page-ready, page-room, block_size, turn-full, turn-places, turn-bad, turn-stored}
use Rattle.turn.proofs.turn_loaded.Goals as goal

pub current-block-requires : goal.current-block-requires
current-block-requires c =
    let y = page-ready c.args.keys.now c.requires.keys_len (record { at = λ i. (c.slice_known-2-1.given i).fits })
    (record { at = λ i. (c.slice_known-1.given i).fits }) (record { at = λ i. (c.slice_known-3-1.given i).fits }) in
    (y.sized, block_inside _ _ y.page)

pub major-major-requires : goal.major-major-requires
major-major-requires c =
    let y = page-ready c.args.keys.now c.requires.keys_len (record { at = λ i. (c.slice_known-2-1.given i).fits })
    (record { at = λ i. (c.slice_known-1.given i).fits }) (record { at = λ i. (c.slice_known-3-1.given i).fits }) in
    ap length c.current-block.ensures ∙ block_size y

pub returns-then-major : goal.returns-then-major
returns-then-major c =
    let y = page-ready c.args.keys.now c.requires.keys_len (record { at = λ i. (c.slice_known-2-1.given i).fits })
    (record { at = λ i. (c.slice_known-1.given i).fits }) (record { at = λ i. (c.slice_known-3-1.given i).fits }) in
    let is-major : c.major-major.result ≡ major (current c.args.h c.args.array.now c.args.cache.now 0 c.args.p) = c.major-major.ensures ∙ ap major c.current-block.ensures in
    turn-full y c.args.keys.now c.args.allowance is-major c.if-major.true c.into.ensures

pub unpack-requires : goal.unpack-requires
unpack-requires c =
    let y = page-ready c.args.keys.now c.requires.keys_len (record { at = λ i. (c.slice_known-2-1.given i).fits })
    (record { at = λ i. (c.slice_known-1.given i).fits }) (record { at = λ i. (c.slice_known-3-1.given i).fits }) in
    (ap length c.current-block.ensures ∙ block_size y, refl)

pub bad_line-bad-requires : goal.bad_line-bad-requires
bad_line-bad-requires c =
    let y = page-ready c.args.keys.now c.requires.keys_len (record { at = λ i. (c.slice_known-2-1.given i).fits })
    (record { at = λ i. (c.slice_known-1.given i).fits }) (record { at = λ i. (c.slice_known-3-1.given i).fits }) in
    let are-minors : c.unpack.new.out ≡ minors (current c.args.h c.args.array.now c.args.cache.now 0 c.args.p) = c.unpack.ensures ∙ ap minors c.current-block.ensures in
    (c.requires.keys_len.0, (page-room y, ap length are-minors ∙ length-minors _))

pub returns-in-Some : goal.returns-in-Some
returns-in-Some c =
    let y = page-ready c.args.keys.now c.requires.keys_len (record { at = λ i. (c.slice_known-2-1.given i).fits })
    (record { at = λ i. (c.slice_known-1.given i).fits }) (record { at = λ i. (c.slice_known-3-1.given i).fits }) in
    let is-major : c.major-major.result ≡ major (current c.args.h c.args.array.now c.args.cache.now 0 c.args.p) = c.major-major.ensures ∙ ap major c.current-block.ensures in
    let are-minors : c.unpack.new.out ≡ minors (current c.args.h c.args.array.now c.args.cache.now 0 c.args.p) = c.unpack.ensures ∙ ap minors c.current-block.ensures in
    turn-bad y c.args.keys.now c.args.allowance is-major c.if-major.false are-minors _
    c.places-mask.ensures c.family-family.ensures
    c.bad_line-bad.ensures c.in-Some.is c.at.ensures

pub store_page-requires : goal.store_page-requires
store_page-requires c =
    let y = page-ready c.args.keys.now c.requires.keys_len (record { at = λ i. (c.slice_known-2-1.given i).fits })
    (record { at = λ i. (c.slice_known-1.given i).fits }) (record { at = λ i. (c.slice_known-3-1.given i).fits }) in
    let is-major : c.major-major.result ≡ major (current c.args.h c.args.array.now c.args.cache.now 0 c.args.p) = c.major-major.ensures ∙ ap major c.current-block.ensures in
    let more : suc c.major-major.result < 2 ^ 64 = omega (arith, c.if-major.false) in
    let are-minors : c.unpack.new.out ≡ minors (current c.args.h c.args.array.now c.args.cache.now 0 c.args.p) = c.unpack.ensures ∙ ap minors c.current-block.ensures in (
      c.requires.keys_len.0,
      (
        c.requires.keys_len.1.1.0,
        record {
          sized = y.sized;
          control = y.control;
          shaped = y.shaped;
          page = y.page;
          path = c.requires.missing_value;
          major_is = is-major;
          minors_is = are-minors;
          next = more;
          places = turn-places y are-minors c.places-mask.ensures;
        },
      ),
    )

pub returns : goal.returns
returns c =
    let y = page-ready c.args.keys.now c.requires.keys_len (record { at = λ i. (c.slice_known-2-1.given i).fits })
    (record { at = λ i. (c.slice_known-1.given i).fits }) (record { at = λ i. (c.slice_known-3-1.given i).fits }) in
    let is-major : c.major-major.result ≡ major (current c.args.h c.args.array.now c.args.cache.now 0 c.args.p) = c.major-major.ensures ∙ ap major c.current-block.ensures in
    let are-minors : c.unpack.new.out ≡ minors (current c.args.h c.args.array.now c.args.cache.now 0 c.args.p) = c.unpack.ensures ∙ ap minors c.current-block.ensures in
    c.store_page.ensures
    ∙ turn-stored y c.args.keys.now c.args.allowance is-major c.if-major.false are-minors _
    c.places-mask.ensures c.family-family.ensures
    c.bad_line-bad.ensures c.in_default.is
