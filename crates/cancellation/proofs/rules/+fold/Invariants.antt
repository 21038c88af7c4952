use Rattle.std.proofs.Common.{length}
use Rattle.cancellation.proofs.rules.+fold.Given as goal

abbrev pub decreases-fold : goal.decreases-fold
decreases-fold g l = length l.values.now
