use Rattle.std.proofs.Common.{◌≡◌, ◌+◌, ◌++◌, length, take, drop}
use Rattle.code.specs.Encode.{informed_count, informed}
use Rattle.code.proofs.encode.gather.Given as goal

abbrev pub invariant-loop-p : goal.invariant-loop-p
invariant-loop-p g l =
    let marks = g.M.Map.marks l.map in
    (take l.next l.message ++ informed (drop l.p marks) (drop l.p l.bits) ≡ informed marks l.bits)
    × (l.next + informed_count (drop l.p marks) ≡ length l.initial.message)
