-- `u32::rotate` meets its contract. Assumes nothing.
use Rattle.std.proofs.Common.{arith}
use Rattle.rotation.proofs.Rotation.{rotl-or}
use Rattle.rotation.proofs.U32Rotate.rotate.Goals as goal

pub returns : goal.returns
returns c = rotl-or 32 c.args.n c.args.self (omega arith) c.ranges.self.fits
