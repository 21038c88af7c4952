use Rattle.std.proofs.Common.{[], ◌∷◌, ◌++◌, sym, ap, ◌∙◌, ap₂, arith}
use lib.Bits.{bit_xor}
use Rattle.std.proofs.lemmas.List.{take_more_set, take_all}
use Rattle.cancellation.specs.Rows.{bit, signs}
use Rattle.cancellation.specs.Rules.{parity}
use Rattle.cancellation.proofs.Written.{byte_is, signs_more, parity_more}
use Rattle.cancellation.proofs.rules.write_signs.Goals as goal

pub loop-i-preserved : goal.loop-i-preserved
loop-i-preserved g c =
    let kind = g.S.Soft.kind in
    let v = c.index-values-i.result in
    let here = c.from-bit.ensures ∙ byte_is _ ∙ ap bit c.sign.ensures in (
      take_more_set c.loop-i.bits c.loop-i.i _ (omega arith)
          ∙ ap₂ (λ row b. row ++ (b ∷ [])) c.loop-i.invariant.0 here
          ∙ signs_more kind c.args.values.now c.loop-i.i v (omega (arith, c.requires, c.loop-i-test.true)) c.index-values-i.is,
      ap₂ bit_xor c.loop-i.invariant.1 here ∙ parity_more kind c.args.values.now c.loop-i.i v (omega (arith, c.requires, c.loop-i-test.true)) c.index-values-i.is,
    )

pub returns : goal.returns
returns g c =
    let kind = g.S.Soft.kind in
    let all = take_all c.loop-i.i c.args.values.now (omega (arith, c.requires, c.loop-i-test.false)) in
    record {
      written = sym (take_all c.loop-i.i c.loop-i.bits (omega arith)) ∙ c.loop-i.invariant.0 ∙ ap (signs kind) all;
      xor = c.loop-i.invariant.1 ∙ ap (λ row. parity (signs kind row)) all;
    }
