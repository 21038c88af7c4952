use Rattle.std.proofs.Common.{◌≡◌, ◌+◌, ◌-◌, ◌*◌, ◌≤◌, length, ◌∙◌, ap₂, arith}
use Rattle.receiver.specs.Steps.{with_left}
use Rattle.receiver.proofs.Halves.{three_halves, left_written}
use Rattle.receiver.proofs.open_span.OpenSpan.check_halves.Goals as goal

pub returns-clause-soft : goal.returns-clause-soft
returns-clause-soft g c = λ some few.
    let kind = g.S.Soft.kind in
    let soft = c.args.self.now.soft.now in
    let b = c.base-base.result in
    let half = c.half.result in
    let k = b + 3 * half - b in
    let is : k ≡ 3 * half = omega arith in
    let within : b + 3 * half ≤ length soft = omega (arith, c.half.ensures.twice some, c.base-base.ensures.room, c.args.self.now.rows) in
    left_written kind soft c.check_row.new.rows b half k is within (c.check_row.ensures.done half (three_halves kind soft b half k is within)).1
    ∙ ap₂ (λ x y. with_left kind x y soft) c.base-base.ensures.value c.half.ensures.value
