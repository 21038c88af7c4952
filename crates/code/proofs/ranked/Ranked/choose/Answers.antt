use Rattle.std.proofs.Common.{arith}
use Rattle.code.proofs.Counted.{informs}
use Rattle.code.proofs.ranked.Ranked.choose.Goals as goal

pub returns-then-from-two_to-clause-count : goal.returns-then-from-two_to-clause-count
returns-then-from-two_to-clause-count c = λ _. informs c.args.order.n _ c.stays_lawful.ensures.lawful c.args.k (omega (arith, c.if-from-two_to.true, c.two_to.ensures, c.from.ensures))
