use Rattle.cancellation.proofs.Folded.{folded_alone, folded_on}
use Rattle.cancellation.proofs.rules.+fold.Goals as goal

pub returns-then-half-eq0 : goal.returns-then-half-eq0
returns-then-half-eq0 g t c = λ e long. folded_alone g.S.Soft.kind e c.args.values.now long c.if-half-eq0.true

pub returns : goal.returns
returns g t c =
    λ e long. folded_on g.S.Soft.kind e c.args.values.now _ _ _ _ long c.if-half-eq0.false
    c.split_at_mut-left.ensures.front c.split_at_mut-left.ensures.back c.join_onto.ensures c.fold.ensures
