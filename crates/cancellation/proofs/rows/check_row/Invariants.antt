use Rattle.std.proofs.Common.{◌≡◌, ℕ, ◌<◌, get_or}
use Rattle.cancellation.proofs.rows.check_row.Given as goal

abbrev pub invariant-loop-i : goal.invariant-loop-i
invariant-loop-i g l =
    let kind = g.S.Soft.kind in
    (k : ℕ) → k < l.i → get_or l.room k kind.fill ≡ kind.check (get_or l.left k kind.fill) (get_or l.right k kind.fill)
