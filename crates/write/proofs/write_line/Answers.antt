-- `write::write_line` meets its contract. Assumes nothing.
use native.Mathlib.Omega.{arith}
use Rattle.calls.specs.Call.{buffers}
use Rattle.path.specs.Told.{refusal_at}
use Rattle.path.proofs.Ready.{ready_of, line-differs, line-found, minor-small}
use Rattle.write.proofs.Writing.{write-differs, write-full, write-stored}
use Rattle.write.proofs.write_line.Goals as goal

pub returns-in-Err : goal.returns-in-Err
unfolding refusal_at
returns-in-Err c =
    let y = ready_of c.args.keys.now c.args.text.now c.requires (record { at = λ i. (c.slice_known-2-1.given i).fits })
    (record { at = λ i. (c.slice_known-1.given i).fits }) (record { at = λ i. (c.slice_known-3-1.given i).fits }) in
    write-differs c.args.keys.now c.args.line c.args.text.now c.args.allowance (buffers c.args.array.now c.args.control.now c.args.cache.now)
    (line-differs y c.requires.1.1.0 c.find_line-found.ensures c.in-Err.is) c.into.ensures

pub returns-then-found-eq127 : goal.returns-then-found-eq127
returns-then-found-eq127 c =
    let y = ready_of c.args.keys.now c.args.text.now c.requires (record { at = λ i. (c.slice_known-2-1.given i).fits })
    (record { at = λ i. (c.slice_known-1.given i).fits }) (record { at = λ i. (c.slice_known-3-1.given i).fits }) in
    let both = line-found y c.requires.1.1.0 c.find_line-found.ensures c.in-Ok.is in
    write-full both.1 c.args.text.now c.args.allowance c.if-found-eq127.true c.into-then-found-eq127.ensures

pub overflow_add-w : goal.overflow_add-w
overflow_add-w c =
    let y = ready_of c.args.keys.now c.args.text.now c.requires (record { at = λ i. (c.slice_known-2-1.given i).fits })
    (record { at = λ i. (c.slice_known-1.given i).fits }) (record { at = λ i. (c.slice_known-3-1.given i).fits }) in
    let both = line-found y c.requires.1.1.0 c.find_line-found.ensures c.in-Ok.is in
    omega (arith, minor-small both.1)

pub raise-requires : goal.raise-requires
raise-requires c =
    let y = ready_of c.args.keys.now c.args.text.now c.requires (record { at = λ i. (c.slice_known-2-1.given i).fits })
    (record { at = λ i. (c.slice_known-1.given i).fits }) (record { at = λ i. (c.slice_known-3-1.given i).fits }) in
    let both = line-found y c.requires.1.1.0 c.find_line-found.ensures c.in-Ok.is in
    record {
      keys_len = (c.requires.0, (c.requires.1.1.1.1.1.1, omega (arith, minor-small both.1, c.if-found-eq127.false)));
      control_len = (y.control, (y.sized, (y.shaped, (c.requires.1.1.1.1.1.0, both.0))));
    }

pub returns : goal.returns
returns c =
    let y = ready_of c.args.keys.now c.args.text.now c.requires (record { at = λ i. (c.slice_known-2-1.given i).fits })
    (record { at = λ i. (c.slice_known-1.given i).fits }) (record { at = λ i. (c.slice_known-3-1.given i).fits }) in
    let both = line-found y c.requires.1.1.0 c.find_line-found.ensures c.in-Ok.is in
    write-stored both.1 c.args.text.now c.args.allowance c.if-found-eq127.false c.raise.ensures
