use Rattle.std.proofs.Common.{◌==◌, ◌<◌, ◌^◌, ◌∙◌, cond, slice_index, arith, rules, tests}
use Rattle.std.specs.List.{range_with_len, count_by}
use Rattle.std.proofs.lemmas.Iterator.{YieldsList-from_range, YieldsList-from_map}
use Rattle.std.proofs.lemmas.Iterator.Consumers.{YieldsList-at, sum_by_from_yields_List, fits_by_from_yields_list}
use Rattle.std.proofs.lemmas.List.Sums.{count_by-le-length}
use Rattle.std.proofs.lemmas.List.FromFn.{length-range_with_len}
use Rattle.code.proofs.Searched.{counted}
use Rattle.code.proofs.encode.informed_count.Goals as goal

pub sum-requires-clause-fits : goal.sum-requires-clause-fits
sum-requires-clause-fits g c =
    let marks = g.M.Map.marks c.args.map.now in
    let size = c.position_count.result in
    let few : count_by (λ p. slice_index marks p == 1) (range_with_len 0 size) < 2 ^ 64 =
    omega (arith, count_by-le-length (λ p. slice_index marks p == 1) (range_with_len 0 size), length-range_with_len 0 size, c.position_count.ensures.bound) in
    fits_by_from_yields_list (λ p. cond (slice_index marks p == 1) 1 0) (range_with_len 0 size) c.map.result _
    (YieldsList-from_map _ (λ p. cond (slice_index marks p == 1) 1 0) (YieldsList-at c.map.ensures.source (YieldsList-from_range 0 size size (search rules) (omega arith))) c.map.ensures.closure (λ x r q k. search (rules, tests)))
    few

pub returns : goal.returns
returns g c =
    let marks = g.M.Map.marks c.args.map.now in
    let size = c.position_count.result in
    sum_by_from_yields_List (λ p. cond (slice_index marks p == 1) 1 0) (range_with_len 0 size) c.map.result _ c.sum.ensures.ran
    (YieldsList-from_map _ (λ p. cond (slice_index marks p == 1) 1 0) (YieldsList-at c.map.ensures.source (YieldsList-from_range 0 size size (search rules) (omega arith))) c.map.ensures.closure (λ x r q k. search (rules, tests)))
    ∙ counted marks size c.position_count.ensures.marks
