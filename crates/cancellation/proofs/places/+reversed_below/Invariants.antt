use Rattle.std.proofs.Common.{◌+◌}
use Rattle.cancellation.proofs.places.+reversed_below.Given as goal

abbrev pub decreases-reversed_below : goal.decreases-reversed_below
decreases-reversed_below l = l.i + l.j
