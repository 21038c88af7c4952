use Rattle.std.proofs.Common.{[], ◌∷◌, ◌++◌, ◌∙◌, ap₂, arith}
use Rattle.std.proofs.lemmas.List.{take_more_set}
use Rattle.session.proofs.Lines.{bits_more}
use Rattle.session.proofs.text.write_digits.Goals as goal

pub loop-i-preserved : goal.loop-i-preserved
loop-i-preserved c =
    take_more_set c.loop-i.digits c.loop-i.i c.bit_char.result (omega (arith, c.requires, c.loop-i.auto.digits, c.loop-i-test.true))
    ∙ ap₂ (λ row d. row ++ (d ∷ [])) c.loop-i.invariant c.bit_char.ensures
    ∙ bits_more c.args.bits.now c.loop-i.i c.loop-i-test.true
