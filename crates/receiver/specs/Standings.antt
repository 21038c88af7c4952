-- A receiver and its memory, before a call and after it, as the calls' contracts name them: cited by every public call of the receiver but `new` and `map`. Assumes nothing.
use Rattle.std.specs.Prelude.{ℕ, Bool, List, Option, Result}
use Rattle.soft.specs.Kind.{Kind}
use Rattle.receiver.specs.declared.faults.ReceiverFault.{ReceiverFault}
use Rattle.receiver.specs.declared.memory.Memory.{Memory}
use Rattle.receiver.specs.declared.memory.Step.{Step}
use Rattle.receiver.specs.declared.receiver.Receiver.{Receiver}
use Rattle.receiver.specs.Agreement.{roomy}
use Rattle.receiver.specs.Calls.{Call, Answer}
use Rattle.receiver.specs.Histories.{Continues, Stays}
use Rattle.receiver.specs.Model.{right_buffers}
use Rattle.receiver.specs.Words.{TakenInHand, word_door, take_door, advance_door, Goes}

-- is this memory large enough for 2 ^ n positions
abbrev pub memory_fits : {S : Type 0} → ℕ → Memory S → Bool
memory_fits n memory = roomy n memory.soft.now memory.pending.now memory.bits.now

-- the questions about a take with buffers of these lengths
abbrev pub take_asked : {M S : Type 0} → (M → ℕ) → (M → List ℕ) → Receiver M S → Memory S → ℕ → ℕ → Option ReceiverFault
take_asked exponent marks was memory message word =
    take_door was.state (memory_fits (exponent was.map) memory) (right_buffers (exponent was.map) (marks was.map) message word)

-- a word whose length is right or not is taken in hand, or refused
abbrev pub TakesInHand : {M S : Type 0} → Kind S → (M → ℕ) → Bool → List ℕ → Receiver M S → Memory S → Receiver M S → Memory S → Result (Unit {0}) ReceiverFault → Type 0
TakesInHand kind exponent fits bytes was before now after answer =
    TakenInHand kind (exponent was.map) (word_door kind was.state fits (memory_fits (exponent was.map) before) bytes) bytes
    before.soft.now after.soft.now before.pending.now after.pending.now before.bits.now after.bits.now was.state now.state answer

-- an advance, whatever the memory holds
abbrev pub AdvancesIn : {M S : Type 0} → Kind S → (M → ℕ) → (M → List ℕ) → ℕ → Receiver M S → Memory S → Receiver M S → Memory S → Result (ℕ × Bool) ReceiverFault → Type 0
AdvancesIn kind exponent marks allowance was before now after answer =
    Goes kind (exponent was.map) (marks was.map) was.caps allowance (advance_door was.state (memory_fits (exponent was.map) before)) was.state now.state
    before.soft.now before.pending.now before.bits.now after.soft.now after.pending.now after.bits.now answer

-- a call and its answer after any calls that have led here, by the map's n and marks: the law over runs holds of them all
abbrev pub GoesOn : {M S : Type 0} → Kind S → (M → ℕ) → (M → List ℕ) → Call → Answer → Receiver M S → Memory S → Receiver M S → Memory S → Type 0
GoesOn kind exponent marks this answer was before now after =
    Continues kind this answer (exponent was.map) (marks was.map) was.caps was.state before.soft.now before.pending.now before.bits.now
    (exponent now.map) (marks now.map) now.caps now.state after.soft.now after.pending.now after.bits.now

-- the same of a call that is handed no memory, whatever that holds
abbrev pub GoesOnAnyway : {M S : Type 0} → Kind S → (M → ℕ) → (M → List ℕ) → Call → Answer → Receiver M S → Receiver M S → Type 0
GoesOnAnyway {M} {S} kind exponent marks this answer was now =
    (soft : List S) (steps : List Step) (row : List ℕ) → Continues kind this answer (exponent was.map) (marks was.map) was.caps was.state soft steps row
    (exponent now.map) (marks now.map) now.caps now.state soft steps row

-- a call that was refused, whatever memory it was handed: all is as it was
abbrev pub StaysAsItWas : {M S : Type 0} → Kind S → (M → ℕ) → (M → List ℕ) → Call → Answer → Receiver M S → Receiver M S → Type 0
StaysAsItWas kind exponent marks this answer was now =
    Stays kind this answer (exponent was.map) (marks was.map) was.caps was.state (exponent now.map) (marks now.map) now.caps now.state
