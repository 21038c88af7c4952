use Rattle.std.proofs.Common.{arith}
use Rattle.code.proofs.LawfulSpans.{accepted_by}
use Rattle.code.proofs.SpanTests.{span_long, span_most}
use Rattle.code.proofs.ranked.Ranked.kind_by_looks.Goals as goal

pub overflow_add-end : goal.overflow_add-end
overflow_add-end c =
    let o = c.args.self.now.order in
    omega (arith, span_most o.n c.args.start c.args.length c.requires (accepted_by o.n _ o.accepted).high)

pub overflow_sub-end : goal.overflow_sub-end
overflow_sub-end c = omega (arith, span_long c.args.self.now.order.n c.args.start c.args.length c.requires)

pub overflow_add-start : goal.overflow_add-start
overflow_add-start c =
    let o = c.args.self.now.order in
    omega (arith, span_most o.n c.args.start c.args.length c.requires (accepted_by o.n _ o.accepted).high)
