-- A receiver that some calls have led to, and the law over all of them: cited by every public call of the receiver. Assumes nothing.
use Rattle.std.specs.Prelude.{◌≡◌, ℕ, Bool, false, List, [], ◌∷◌, ◌++◌, Ok, Err, Result}
use Rattle.code.specs.Spans.{Means}
use Rattle.soft.specs.Kind.{Kind}
use Rattle.receiver.specs.declared.caps.Caps.{Caps as Kept}
use Rattle.receiver.specs.declared.faults.ReceiverFault.{ReceiverFault}
use Rattle.receiver.specs.declared.memory.Step.{Step}
use Rattle.receiver.specs.declared.states.State.{State}
use Rattle.receiver.specs.declared.states.State.TheVariants.{Idle}
use Rattle.receiver.specs.Agreement.{Agrees}
use Rattle.receiver.specs.Calls.{Call, set_caps, Answer, refused, done, went, took, called, answers_to}
use Rattle.receiver.specs.Law.{accepted, Law, AllMapped}
use Rattle.receiver.specs.Model.{Model, fresh}

-- what is in force after a list of calls
unfoldable pub after_calls : {S : Type 0} → Kind S → List Call → Model S → Model S
after_calls kind [] m = m
after_calls kind (c ∷ calls) m = after_calls kind calls (called kind c m).after

-- the answer of a call that answers nothing more
abbrev pub plain : Result (Unit {0}) ReceiverFault → Answer
plain (Ok x) = done
plain (Err f) = refused f

-- the answer of an advance
abbrev pub went_to : Result (ℕ × Bool) ReceiverFault → Answer
went_to (Ok a) = went a.0 a.1
went_to (Err f) = refused f

-- the answer of a take, with what its buffers then hold
abbrev pub taken_as : Result ℕ ReceiverFault → List ℕ → List ℕ → Answer
taken_as (Ok k) message word = took k message word
taken_as (Err f) message word = refused f

-- these calls, made to a new receiver over the map (n0, marks0) and nobody else touching it or its memory, have led to this receiver, by its map's n and marks, its caps and its
-- state, and to this memory
pub record Led {S : Type 0} (kind : Kind S) (n0 : ℕ) (marks0 : List ℕ) (calls : List Call) (n : ℕ) (marks : List ℕ) (caps : Kept) (state : State) (soft : List S) (steps : List Step) (row : List ℕ) : Type 0 where
  pub map0 : Means n0 marks0
  pub maps : AllMapped calls
  pub agrees : Agrees kind (after_calls kind calls (fresh n0 marks0)) n marks caps state soft steps row

-- a call and its answer after any calls that have led here: those calls and this one lead to what is left, and the law over runs holds of them all and of all their answers, this one last
abbrev pub Continues : {S : Type 0} → Kind S → Call → Answer → ℕ → List ℕ → Kept → State → List S → List Step → List ℕ → ℕ → List ℕ → Kept → State → List S → List Step → List ℕ → Type 0
Continues kind this answer n marks caps state soft steps row n' marks' caps' state' soft' steps' row' =
    (n0 : ℕ) (marks0 : List ℕ) (calls : List Call) → Led kind n0 marks0 calls n marks caps state soft steps row →
    Led kind n0 marks0 (calls ++ (this ∷ [])) n' marks' caps' state' soft' steps' row'
    × Law kind n0 marks0 (calls ++ (this ∷ [])) (answers_to kind calls (fresh n0 marks0) ++ (answer ∷ []))

-- a call that was refused, whatever memory it was handed: with it the law goes on over the memory that the calls before have left, and all is as it was
abbrev pub Stays : {S : Type 0} → Kind S → Call → Answer → ℕ → List ℕ → Kept → State → ℕ → List ℕ → Kept → State → Type 0
Stays {S} kind this answer n marks caps state n' marks' caps' state' =
    accepted answer ≡ false → (soft : List S) (steps : List Step) (row : List ℕ) → Continues kind this answer n marks caps state soft steps row n' marks' caps' state' soft steps row

-- with no word in hand, and whatever its memory holds, this receiver is as a new one over its map that was given its caps
abbrev pub Anew : {S : Type 0} → Kind S → ℕ → List ℕ → Kept → State → Type 0
Anew {S} kind n marks caps state =
    state ≡ Idle → (soft : List S) (steps : List Step) (row : List ℕ) → Led kind n marks (set_caps caps.first caps.second ∷ []) n marks caps state soft steps row
