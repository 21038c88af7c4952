use Rattle.std.proofs.Common.{◌≡◌, ◌*◌, ◌/◌, ◌++◌, length, sym, ◌∙◌, ap, ap₂, arith}
use Rattle.cancellation.specs.Rows.{check_row}
use Rattle.cancellation.proofs.Written.{rowed, checked, left_long, rest_long, right_long, right_is, third_written}
use Rattle.cancellation.proofs.rows.check_row.Goals as goal

pub returns : goal.returns
returns g c =
    let kind = g.S.Soft.kind in
    let rows = c.args.rows.now in
    let left = c.split_at_mut-left.result.0.now in
    let rest = c.split_at_mut-left.result.1.now in
    let right = c.split_at_mut-right.result.0.now in
    let h = length c.args.rows.now / 3 in
    let long : length rows ≡ 3 * h = omega arith in
    let l = c.split_at_mut-left.ensures.front in
    let r = c.split_at_mut-left.ensures.back in
    let rr = c.split_at_mut-right.ensures.front in
    let ll : length left ≡ h = left_long h rows left rest right rest long l r rr in
    let lr : length right ≡ h = right_long h rows left rest right rest long l r rr in
    let room : length c.loop-i.room ≡ h = omega (arith, c.loop-i.auto.room, c.split_at_mut-right.ensures.back_len, rest_long h rows left rest right rest long l r rr) in
    let made = checked kind left right c.loop-i.room (ll ∙ sym lr) (room ∙ sym ll) (λ k b. c.loop-i.invariant k (omega (arith, c.loop-i-test.false, c.loop-i.auto.room, room, ll))) in
    rowed _ _ _ _ h (omega arith) (λ n asked. omega arith)
    (ap (λ row. left ++ (right ++ row)) (made ∙ ap₂ (check_row kind) l (right_is h rows left rest right rest long l r rr)) ∙ third_written h rows left rest right rest long l r rr _)
