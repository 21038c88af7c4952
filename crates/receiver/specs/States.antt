-- What a receiver keeps of a word in hand: cited by `Receiver`. Assumes nothing.
use Rattle.std.specs.Prelude.{ℕ}
use Rattle.receiver.specs.declared.states.State.{State}
use Rattle.receiver.specs.declared.states.State.TheVariants.{Idle, Working, Finished}

-- the height of the pending steps
abbrev pub height_of : State → ℕ
height_of Idle = 0
height_of (Working height steps) = height
height_of (Finished steps) = 0
