use Rattle.std.proofs.Common.{refl}
use Rattle.code.specs.Spans.{listed_fault}
use Rattle.code.proofs.listed.Listed.smallest.Goals as goal

pub invariant_of-result : goal.invariant_of-result
unfolding listed_fault
invariant_of-result c = record { accepted = refl }
