use Rattle.std.proofs.Common.{ltb, ap, ◌∙◌}
use Rattle.code.proofs.LawfulSpans.{accepted_by, rank_place}
use Rattle.code.proofs.Looks.{look_is}
use Rattle.code.proofs.ranked.Ranked.informed.Goals as goal

pub rank_at-requires : goal.rank_at-requires
rank_at-requires c = let m = c.args.self.now.order in (rank_place m.n _ m.accepted c.args.position c.requires).0

pub returns : goal.returns
returns c =
    let m = c.args.self.now in
    let o = m.order in
    ap (λ r. ltb r c.from.result) c.rank_at.ensures ∙ ap (ltb _) c.from.ensures
    ∙ look_is _ _ m.k (accepted_by o.n _ o.accepted) c.args.position c.requires
