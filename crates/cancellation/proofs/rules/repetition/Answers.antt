use Rattle.std.proofs.Common.{length, replicate, ◌∙◌, ap}
use Rattle.cancellation.proofs.Folded.{repeated_front}
use Rattle.cancellation.proofs.rules.repetition.Goals as goal

pub returns-in-Some : goal.returns-in-Some
returns-in-Some g c = record {
  row = c.fold.ensures;
  word = λ e long. c.fill.ensures.after (λ y h. h) ∙ ap (replicate (length c.args.bits.now)) c.from.ensures
      ∙ repeated_front g.S.Soft.kind e _ c.args.values.now c.fold.new.values c.in-Some.value.now c.sign.result
      long (c.fold.ensures e long) c.in-Some.ensures.item.1 c.sign.ensures (c.requires ∙ long);
}
