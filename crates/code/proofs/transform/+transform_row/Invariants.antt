use Rattle.std.proofs.Common.{length}
use Rattle.code.proofs.transform.+transform_row.Given as goal

abbrev pub decreases-transform_row : goal.decreases-transform_row
decreases-transform_row l = length l.bits.now
