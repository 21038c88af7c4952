use Rattle.std.proofs.Common.{◌≡◌, length, replicate, sym, refl, ap, ◌∙◌, arith}
use Rattle.code.specs.declared.kinds.SpanKind.TheVariants.{Rate0, Rate1, Rep, Spc}
use Rattle.cancellation.proofs.Powers.{no_power}
use Rattle.cancellation.proofs.Settles.{promised_for, refusing}
use Rattle.cancellation.proofs.settle.settle.Goals as goal

-- Kept, `same` here and below: with the test itself in its place, a test that lets longer bits pass would be refused for its form and not for this fact.
pub returns-in-Rate0 : goal.returns-in-Rate0
returns-in-Rate0 g c =
    let same : length c.args.values.now ≡ length c.args.bits.now = omega (arith, c.if-values-bits.false) in
    promised_for g.S.Soft.kind g.S.Soft.laws c.args.kind Rate0 c.args.values.now c.args.values.now c.args.bits.now c.fill.new.self
    c.in-Rate0.is same (sym c.if-not-is_power_of_two.ensures)
    (λ e long. c.fill.ensures.after (λ y h. h) ∙ ap (λ n. replicate n 0) (sym same ∙ long)) (λ e long. refl)

pub returns-in-Rate1 : goal.returns-in-Rate1
returns-in-Rate1 g c =
    let same : length c.args.values.now ≡ length c.args.bits.now = omega (arith, c.if-values-bits.false) in
    promised_for g.S.Soft.kind g.S.Soft.laws c.args.kind Rate1 c.args.values.now c.args.values.now c.args.bits.now c.write_signs.new.bits
    c.in-Rate1.is same (sym c.if-not-is_power_of_two.ensures) (λ e long. c.write_signs.ensures.written) (λ e long. refl)

pub returns-in-Rep : goal.returns-in-Rep
returns-in-Rep g c =
    let same : length c.args.values.now ≡ length c.args.bits.now = omega (arith, c.if-values-bits.false) in
    promised_for g.S.Soft.kind g.S.Soft.laws c.args.kind Rep c.args.values.now c.repetition.new.values c.args.bits.now c.repetition.new.bits
    c.in-Rep.is same (sym c.if-not-is_power_of_two.ensures) c.repetition.ensures.word c.repetition.ensures.row

pub returns-in-Spc : goal.returns-in-Spc
returns-in-Spc g c =
    let same : length c.args.values.now ≡ length c.args.bits.now = omega (arith, c.if-values-bits.false) in
    promised_for g.S.Soft.kind g.S.Soft.laws c.args.kind Spc c.args.values.now c.args.values.now c.args.bits.now c.single_parity.new.bits
    c.in-Spc.is same (sym c.if-not-is_power_of_two.ensures) c.single_parity.ensures (λ e long. refl)

pub returns-then-values-bits : goal.returns-then-values-bits
returns-then-values-bits g c =
    refusing g.S.Soft.kind g.S.Soft.laws c.args.kind c.args.values.now c.args.bits.now (λ e h l. omega (arith, h, l, c.if-values-bits.true))

pub returns-then-not-is_power_of_two : goal.returns-then-not-is_power_of_two
returns-then-not-is_power_of_two g c =
    refusing g.S.Soft.kind g.S.Soft.laws c.args.kind c.args.values.now c.args.bits.now (λ e h l. no_power (length c.args.values.now) (sym c.if-not-is_power_of_two.ensures) e h)
