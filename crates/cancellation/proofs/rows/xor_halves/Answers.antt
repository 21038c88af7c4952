use Rattle.std.proofs.Common.{◌/◌, length, arith}
use Rattle.cancellation.proofs.Written.{rowed}
use Rattle.cancellation.proofs.rows.xor_halves.Goals as goal

pub returns : goal.returns
returns c = rowed _ _ _ _ (length c.args.bits.now / 2) (omega arith) (λ h asked. omega arith) c.xor_halves.ensures
