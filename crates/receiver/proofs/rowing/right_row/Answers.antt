use Rattle.std.proofs.Common.{◌≡◌, ◌+◌, ◌-◌, ◌*◌, length, take, drop, ap, ◌∙◌, arith}
use Rattle.code.specs.Spans.{part}
use Rattle.cancellation.specs.Rows.{join_row}
use Rattle.receiver.specs.Stacks.{overwritten}
use Rattle.receiver.proofs.PartWrites.{length_part}
use Rattle.receiver.proofs.Halves.{three_halves, right_written}
use Rattle.receiver.proofs.rowing.right_row.Goals as goal

pub returns-clause-soft : goal.returns-clause-soft
returns-clause-soft g c =
    let kind = g.S.Soft.kind in
    let soft = c.args.soft.now in
    let bits = c.args.bits.now in
    let start = c.args.start in
    let b = c.args.base in
    let half = c.args.half in
    let k = b + 3 * half - b in
    let is : k ≡ 3 * half = omega arith in
    let t : start + half - start ≡ half = omega arith in
    let left_long : length (take (start + half - start) (drop start bits)) ≡ half = ap (λ j. length (part bits start j)) t ∙ length_part bits start half c.requires.word in
    right_written kind soft c.join_row.new.rows (take (start + half - start) (drop start bits)) b half k is c.requires.row left_long
    (c.join_row.ensures.done half (three_halves kind soft b half k is c.requires.row, left_long)).1
    ∙ ap (λ j. overwritten soft (b + 2 * half) (join_row kind (part soft b half) (part soft (b + half) half) (part bits start j))) t
