use Rattle.std.proofs.Common.{◌-◌, leb, sym, ap, ◌∙◌, arith}
use Rattle.code.proofs.SpanTests.{power_long, power_most, span_last}
use Rattle.code.proofs.sizes.is_span.Goals as goal

pub nonzero_rem-start : goal.nonzero_rem-start
nonzero_rem-start c = power_long c.args.n c.args.length (sym c.if-not-power_up_to.ensures)

pub overflow_sub-result : goal.overflow_sub-result
overflow_sub-result c = omega (arith, power_most c.args.n c.args.length (sym c.if-not-power_up_to.ensures))

pub returns-then-start-length-eq0 : goal.returns-then-start-length-eq0
returns-then-start-length-eq0 c =
    ap (λ size. leb c.args.start (size - c.args.length)) c.two_to.ensures
    ∙ span_last c.args.n c.args.start c.args.length c.if-not-power_up_to.ensures c.if-start-length-eq0.true
