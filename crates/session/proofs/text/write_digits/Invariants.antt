use Rattle.std.proofs.Common.{◌≡◌, take}
use Rattle.session.specs.Text.{bits_text}
use Rattle.session.proofs.text.write_digits.Given as goal

abbrev pub invariant-loop-i : goal.invariant-loop-i
invariant-loop-i l = take l.i l.digits ≡ bits_text (take l.i l.bits)
