use Rattle.std.proofs.Common.{Ok, ap, ◌∙◌, arith, rules}
use Rattle.code.proofs.LawfulSpans.{accepted_by}
use Rattle.code.proofs.Looks.{mark_outside, mark_inside}
use Rattle.code.proofs.ranked_map.RankedMap.mark.Goals as goal

pub two_to-requires : goal.two_to-requires
two_to-requires c = let o = c.args.self.now.order in (accepted_by o.n _ o.accepted).high

pub returns-then-position-two_to : goal.returns-then-position-two_to
returns-then-position-two_to c =
    let m = c.args.self.now in
    let o = m.order in
    mark_outside o.n _ m.k (accepted_by o.n _ o.accepted) c.args.position (omega arith)

pub returns : goal.returns
returns c =
    let m = c.args.self.now in
    let o = m.order in
    ap Ok c.from.ensures ∙ mark_inside o.n _ m.k (accepted_by o.n _ o.accepted) c.args.position c.informed.result (omega arith) (search rules)
