use Rattle.std.proofs.Common.{◌-◌, ◌∙◌}
use Rattle.cancellation.proofs.Sought.{reversed_same, reversed_apart, reversed_itself, has_bit, half_small}
use Rattle.cancellation.proofs.places.+reversed_below.Goals as goal

pub returns-then-i-j : goal.returns-then-i-j
returns-then-i-j t c = λ e hi hj. reversed_itself e c.args.i c.args.j c.if-i-j.true

pub returns-then-i-j-2 : goal.returns-then-i-j-2
returns-then-i-j-2 t c = λ e hi hj.
    let some = has_bit e c.args.i c.args.j c.if-i-j.false hi hj in
    c.reversed_below.ensures (e - 1) (half_small e c.args.i some hi) (half_small e c.args.j some hj)
    ∙ reversed_same e c.args.i c.args.j some c.if-i-j-2.true

pub returns : goal.returns
returns t c = λ e hi hj. reversed_apart e c.args.i c.args.j (has_bit e c.args.i c.args.j c.if-i-j.false hi hj) c.if-i-j-2.false
