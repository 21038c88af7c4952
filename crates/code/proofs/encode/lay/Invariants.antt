use Rattle.std.proofs.Common.{◌≡◌, ◌++◌, length, take, drop}
use Rattle.code.specs.Encode.{informed_count, laid}
use Rattle.code.proofs.encode.lay.Given as goal

abbrev pub invariant-loop-p : goal.invariant-loop-p
invariant-loop-p g l =
    let marks = g.M.Map.marks l.map in
    (take l.p l.word ++ laid (drop l.p marks) l.rest ≡ laid marks l.message)
    × (informed_count (drop l.p marks) ≡ length l.rest)
