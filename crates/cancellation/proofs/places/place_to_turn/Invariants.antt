use Rattle.std.proofs.Common.{◌≡◌, ℕ, ◌+◌, ◌^◌, ◌<◌, length}
use Rattle.cancellation.specs.Rules.{Turns, size_at}
use Rattle.cancellation.proofs.places.place_to_turn.Given as goal

abbrev pub invariant-loop-i : goal.invariant-loop-i
invariant-loop-i g l =
    let z = size_at g.S.Soft.kind l.values in
    ((e : ℕ) → length l.values ≡ 2 ^ e → Turns e z (l.i + 1) l.place) × (l.least ≡ z l.place) × (l.place < l.i + 1)
