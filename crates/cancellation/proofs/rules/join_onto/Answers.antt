use Rattle.std.proofs.Common.{arith}
use Rattle.cancellation.proofs.Folded.{joined_onto}
use Rattle.cancellation.proofs.rules.join_onto.Goals as goal

pub returns : goal.returns
returns g c =
    joined_onto g.S.Soft.kind c.args.left.now c.args.right.now c.loop-i.left c.requires c.loop-i.auto.left
    (λ k h. c.loop-i.invariant.0 k (omega (arith, c.loop-i-test.false)))
