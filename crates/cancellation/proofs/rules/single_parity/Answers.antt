use Rattle.std.proofs.Common.{arith}
use Rattle.cancellation.proofs.Settles.{odd_word, even_word}
use Rattle.cancellation.proofs.rules.single_parity.Goals as goal

pub bounds-bits-place : goal.bounds-bits-place
bounds-bits-place g c = omega (arith, c.in-Some.ensures.within, c.requires, c.write_signs-xor.auto.bits)

pub bounds-bits-place-in-Some : goal.bounds-bits-place-in-Some
bounds-bits-place-in-Some g c = omega (arith, c.in-Some.ensures.within, c.requires, c.write_signs-xor.auto.bits)

pub returns-in-Some : goal.returns-in-Some
returns-in-Some g c =
    λ e long. odd_word g.S.Soft.kind e c.args.values.now c.write_signs-xor.new.bits c.write_signs-xor.result c.in-Some.place
    c.write_signs-xor.ensures.written c.write_signs-xor.ensures.xor c.if-xor-ne0.true (c.in-Some.ensures.turns e long)

pub returns-in_default : goal.returns-in_default
returns-in_default g c = λ e long. absurd (c.in_default.ensures.turns e long)

pub returns-else-xor-ne0 : goal.returns-else-xor-ne0
returns-else-xor-ne0 g c =
    λ e long. even_word g.S.Soft.kind e c.args.values.now c.write_signs-xor.new.bits c.write_signs-xor.result
    c.write_signs-xor.ensures.written c.write_signs-xor.ensures.xor c.if-xor-ne0.false
