use Rattle.cancellation.proofs.Grown.{sizes_bounded, never_stops, rep_cheapest, erasures_kept, none_larger, largest}
use Rattle.cancellation.proofs.sizes.largest_size.Goals as goal

pub returns : goal.returns
returns c = record { value = largest c.args.n c.if-n-gt10.false; bounded = sizes_bounded; unstopped = never_stops; cheapest = rep_cheapest; erasures = erasures_kept }

pub returns-then-n-gt10 : goal.returns-then-n-gt10
returns-then-n-gt10 c = record { value = none_larger c.args.n c.if-n-gt10.true; bounded = sizes_bounded; unstopped = never_stops; cheapest = rep_cheapest; erasures = erasures_kept }
