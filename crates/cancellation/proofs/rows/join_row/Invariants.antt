use Rattle.std.proofs.Common.{◌≡◌, ℕ, ◌<◌, eqb, get_or}
use Rattle.cancellation.proofs.rows.join_row.Given as goal

abbrev pub invariant-loop-i : goal.invariant-loop-i
invariant-loop-i g l =
    let kind = g.S.Soft.kind in
    (k : ℕ) → k < l.i → get_or l.room k kind.fill ≡ kind.join (get_or l.left k kind.fill) (get_or l.right k kind.fill) (eqb (get_or l.bits k 0) 1)
