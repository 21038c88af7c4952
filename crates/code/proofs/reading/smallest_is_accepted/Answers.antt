use Rattle.std.proofs.Common.{refl}
use Rattle.code.specs.Orders.{order_fault, ranks_fault, ranks_of, keeps_law}
use Rattle.code.proofs.reading.smallest_is_accepted.Goals as goal

-- Kept: it stands under an unfolding, which the check does not try.
pub returns : goal.returns
unfolding order_fault ranks_fault ranks_of keeps_law
returns c = refl
