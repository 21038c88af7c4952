use Rattle.std.proofs.Common.{◌+◌, ◌≤◌, sym, arith, rules}
use Rattle.code.proofs.Marks.{listed_means}
use Rattle.code.proofs.SpanTests.{span_within, span_most}
use Rattle.code.proofs.listed_map.ListedMap.kind.Goals as goal

pub is_span-requires : goal.is_span-requires
is_span-requires c = (listed_means _ _ c.args.self.now.accepted).high

pub overflow_add-start : goal.overflow_add-start
overflow_add-start c =
    let most : c.args.start + c.args.length ≤ 1024 =
    span_most c.args.self.now.n c.args.start c.args.length (sym c.if-not-is_span.ensures)
    (listed_means _ _ c.args.self.now.accepted).high in
    search rules

pub slice_bounds-kind_of-end : goal.slice_bounds-kind_of-end
slice_bounds-kind_of-end c =
    let means = listed_means _ _ c.args.self.now.accepted in
    let within = span_within c.args.self.now.n c.args.start c.args.length (sym c.if-not-is_span.ensures) in
    omega (arith, within, means.long)
