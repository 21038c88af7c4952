use Rattle.std.proofs.Common.{◌≡◌, ◌^◌, length, sym, ap, ◌∙◌}
use Rattle.code.specs.Encode.{informed}
use Rattle.code.specs.Faults.{answer_to, in_force}
use Rattle.code.specs.Transform.{transform}
use Rattle.code.proofs.Encodings.{lengths_wrong, lengths_right, right_lengths}
use Rattle.code.proofs.Transforms.{keeps_length, undoes_itself}
use Rattle.code.proofs.encode.message_of.Goals as goal

pub returns-then-not-right_lengths-clause-answer : goal.returns-then-not-right_lengths-clause-answer
returns-then-not-right_lengths-clause-answer g c =
    sym (ap answer_to (lengths_wrong (g.M.Map.marks c.args.map.now) (length c.args.word.now) (length c.args.message.now) (sym c.if-not-right_lengths.ensures.right)))

pub returns-then-not-right_lengths-clause-message : goal.returns-then-not-right_lengths-clause-message
returns-then-not-right_lengths-clause-message g c =
    let marks = g.M.Map.marks c.args.map.now in
    let fault = lengths_wrong marks (length c.args.word.now) (length c.args.message.now) (sym c.if-not-right_lengths.ensures.right) in
    sym (ap (λ o. in_force o (informed marks (transform (g.M.Map.exponent c.args.map.now) c.args.word.now)) c.args.message.now) fault)

pub returns : goal.returns
returns g c =
    let marks = g.M.Map.marks c.args.map.now in
    let n = g.M.Map.exponent c.args.map.now in
    let right = sym c.if-not-right_lengths.ensures.right in
    let long : length c.args.word.now ≡ 2 ^ n = (right_lengths marks (length c.args.message.now) (length c.args.word.now) right).1 ∙ c.right_lengths.ensures.whole in
    let once = c.transform_row.ensures n long in
    let fault = lengths_right marks (length c.args.word.now) (length c.args.message.now) right in
    record {
      answer = sym (ap answer_to fault);
      message = c.gather.ensures ∙ ap (informed marks) once
          ∙ sym (ap (λ o. in_force o (informed marks (transform n c.args.word.now)) c.args.message.now) fault);
      word = c.transform_row-2.ensures n (ap length once ∙ keeps_length n c.args.word.now long) ∙ ap (transform n) once ∙ undoes_itself n c.args.word.now long;
    }
