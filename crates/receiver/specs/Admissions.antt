-- Which calls a receiver admits as it stands: cited by `admit`. Assumes nothing.
use Rattle.std.specs.Prelude.{Some, None, Ok, Err, Option, Result}
use Rattle.receiver.specs.declared.faults.ReceiverFault.{ReceiverFault}
use Rattle.receiver.specs.declared.faults.ReceiverFault.TheVariants.{WordInHand, NoWord, Unfinished}
use Rattle.receiver.specs.declared.states.State.{State}
use Rattle.receiver.specs.declared.states.State.TheVariants.{Idle, Working, Finished}
use Rattle.receiver.specs.declared.states.Asked.{Asked}
use Rattle.receiver.specs.declared.states.Asked.TheVariants.{Remap, Word, Advance, Take, Drop}

-- the question about the word in hand: remap and word want none, the others want one, and take wants it finished
abbrev pub admitted : State → Asked → Option ReceiverFault
admitted Idle Remap = None
admitted Idle Word = None
admitted Idle Advance = Some NoWord
admitted Idle Take = Some NoWord
admitted Idle Drop = Some NoWord
admitted (Working height steps) Remap = Some WordInHand
admitted (Working height steps) Word = Some WordInHand
admitted (Working height steps) Advance = None
admitted (Working height steps) Take = Some Unfinished
admitted (Working height steps) Drop = None
admitted (Finished steps) Remap = Some WordInHand
admitted (Finished steps) Word = Some WordInHand
admitted (Finished steps) Advance = None
admitted (Finished steps) Take = None
admitted (Finished steps) Drop = None

-- the answer of a call whose questions found this fault, or none; then it answers this
abbrev pub replied : {T : Type 0} → Option ReceiverFault → T → Result T ReceiverFault
replied None x = Ok x
replied (Some f) x = Err f

-- what is in force after a call that puts `new` in the place of `old`, unless a question was answered no
abbrev pub in_force : {X : Type 0} → Option ReceiverFault → X → X → X
in_force None new old = new
in_force (Some f) new old = old
