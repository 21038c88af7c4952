use Rattle.std.proofs.Common.{◌≡◌, length, sym, ap, ◌∙◌}
use Rattle.std.specs.Option.{option_map}
use Rattle.code.specs.declared.faults.MapFault.TheVariants.{Bit}
use Rattle.code.specs.Encode.{encoded}
use Rattle.code.specs.Faults.{answer_to, in_force}
use Rattle.code.specs.Transform.{transform}
use Rattle.code.proofs.Laying.{length_laid}
use Rattle.code.proofs.Encodings.{wrong_lengths, right_lengths, message_asked, message_refused, read_back}
use Rattle.code.proofs.encode.encode.Goals as goal

pub returns-then-not-right_lengths : goal.returns-then-not-right_lengths
returns-then-not-right_lengths g c =
    let marks = g.M.Map.marks c.args.map.now in
    message_refused (g.M.Map.exponent c.args.map.now) marks c.args.message.now c.args.word.now _
    (wrong_lengths marks c.args.message.now (length c.args.word.now) (sym c.if-not-right_lengths.ensures.right))

pub returns-in-Some : goal.returns-in-Some
returns-in-Some g c =
    let marks = g.M.Map.marks c.args.map.now in
    message_refused (g.M.Map.exponent c.args.map.now) marks c.args.message.now c.args.word.now _
    (message_asked marks c.args.message.now (length c.args.word.now) (sym c.if-not-right_lengths.ensures.right) ∙ ap (option_map Bit) (sym c.in-Some.ensures))

pub returns : goal.returns
returns g c =
    let n = g.M.Map.exponent c.args.map.now in
    let marks = g.M.Map.marks c.args.map.now in
    let message = c.args.message.now in
    let right = sym c.if-not-right_lengths.ensures.right in
    let fits = (right_lengths marks (length message) (length c.args.word.now) right).0 in
    let fault = message_asked marks message (length c.args.word.now) right ∙ ap (option_map Bit) (sym c.in_default.ensures) in
    let long = c.right_lengths.ensures.whole in
    let word : c.transform_row.new.bits ≡ encoded n marks message =
    c.transform_row.ensures n (ap length c.lay.ensures ∙ length_laid marks message ∙ long) ∙ ap (transform n) c.lay.ensures in
    record {
      answer = sym (ap answer_to fault);
      word = word ∙ sym (ap (λ o. in_force o (encoded n marks message) c.args.word.now) fault);
      back = λ e. read_back n marks message _ long fits word;
    }
