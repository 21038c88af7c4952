use Rattle.std.proofs.Common.{refl}
use Rattle.code.proofs.Looks.{marks_mean}
use Rattle.code.proofs.LawfulSpans.{accepted_by}
use Rattle.code.proofs.ranked_map.RankedMap.n.Goals as goal

pub returns : goal.returns
returns c =
    let m = c.args.self.now in
    record { means = marks_mean _ _ m.k (accepted_by m.order.n _ m.order.accepted); value = refl }
