use Rattle.code.proofs.LawfulSpans.{accepted_by}
use Rattle.code.proofs.Looks.{kind_is}
use Rattle.code.proofs.ranked_map.RankedMap.kind.Goals as goal

pub is_span-requires : goal.is_span-requires
is_span-requires c = let o = c.args.self.now.order in (accepted_by o.n _ o.accepted).high

pub returns : goal.returns
returns c =
    let m = c.args.self.now in
    let o = m.order in
    kind_is o.n _ m.k (accepted_by o.n _ o.accepted) c.args.start c.args.length _ c.if-not-is_span.ensures c.kind_by_looks.ensures
