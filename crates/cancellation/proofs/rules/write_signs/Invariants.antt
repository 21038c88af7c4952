use Rattle.std.proofs.Common.{◌≡◌, take}
use Rattle.cancellation.specs.Rows.{signs}
use Rattle.cancellation.specs.Rules.{parity}
use Rattle.cancellation.proofs.rules.write_signs.Given as goal

abbrev pub invariant-loop-i : goal.invariant-loop-i
invariant-loop-i g l =
    let kind = g.S.Soft.kind in
    (take l.i l.bits ≡ signs kind (take l.i l.values)) × (l.xor ≡ parity (signs kind (take l.i l.values)))
