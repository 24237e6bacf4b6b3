-- `memory_map::on_path` meets its contract. Assumes nothing.
use mathlib.Core.Path.{sym}
use Prim.Native.Nat.{◌*◌, ◌^◌}
use Rattle.words.proofs.Digits.{pow-mul}
use Rattle.bits.proofs.Shifts.{shift-quotient}
use Rattle.memory_map.proofs.on_path.Goals as goal

pub returns : goal.returns
returns c = shift-quotient (3 * c.args.l) (8 ^ c.args.l) (sym (pow-mul 2 3 c.args.l)) c.args.p
