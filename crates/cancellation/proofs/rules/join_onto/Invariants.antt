use Rattle.std.proofs.Common.{◌≡◌, ℕ, ◌<◌, ◌≤◌, false, get_or}
use Rattle.cancellation.proofs.rules.join_onto.Given as goal

abbrev pub invariant-loop-i : goal.invariant-loop-i
invariant-loop-i g l =
    let kind = g.S.Soft.kind in
    ((k : ℕ) → k < l.i → get_or l.left k kind.fill ≡ kind.join (get_or l.initial.left k kind.fill) (get_or l.right k kind.fill) false)
    × ((k : ℕ) → l.i ≤ k → get_or l.left k kind.fill ≡ get_or l.initial.left k kind.fill)
