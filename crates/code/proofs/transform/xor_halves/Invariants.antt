use Rattle.std.proofs.Common.{◌≡◌, ℕ, ◌<◌, ◌≤◌, get_or}
use lib.Bits.{bit_xor}
use Rattle.code.proofs.transform.xor_halves.Given as goal

abbrev pub invariant-loop-i : goal.invariant-loop-i
invariant-loop-i l =
    ((k : ℕ) → k < l.i → get_or l.left k 0 ≡ bit_xor (get_or l.initial.left k 0) (get_or l.right k 0))
    × ((k : ℕ) → l.i ≤ k → get_or l.left k 0 ≡ get_or l.initial.left k 0)
