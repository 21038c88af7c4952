-- What word, advance and take do to the receiver, the memory and the buffers, whatever the memory holds: cited by those calls. Assumes nothing.
use Rattle.std.specs.Prelude.{◌≡◌, ℕ, zero, suc, ◌+◌, ◌-◌, ◌^◌, ◌≤◌, min, Bool, true, cond, not, List, [], ◌∷◌, ◌++◌, length, take, drop, replicate, is_some, Some, None, Ok, Err, Option, Result, ◌==◌, slice_index}
use Rattle.std.specs.Option.{option_map}
use Rattle.code.specs.Spans.{lowest_no}
use Rattle.soft.specs.Kind.{Kind}
use Rattle.receiver.specs.declared.answers.Advance.{Advance as Went}
use Rattle.receiver.specs.declared.caps.Caps.{Caps as Kept}
use Rattle.receiver.specs.declared.faults.ReceiverFault.{ReceiverFault}
use Rattle.receiver.specs.declared.faults.ReceiverFault.TheVariants.{Length, Memory, Byte}
use Rattle.receiver.specs.declared.memory.Step.{Step}
use Rattle.receiver.specs.declared.memory.Next.TheVariants as next
use Rattle.receiver.specs.declared.states.State.{State}
use Rattle.receiver.specs.declared.states.State.TheVariants.{Idle, Working, Finished}
use Rattle.receiver.specs.declared.states.Asked.TheVariants.{Word, Advance, Take}
use Rattle.receiver.specs.Admissions.{admitted, replied, in_force}
use Rattle.receiver.specs.Capping.{caps_of}
use Rattle.receiver.specs.Model.{values_of, message_in}
use Rattle.receiver.specs.Steps.{Walks}

-- a question, and those that come after it
abbrev pub or_else : Option ReceiverFault → Option ReceiverFault → Option ReceiverFault
or_else None later = later
or_else (Some f) later = Some f

-- the questions about a word: is none in hand, is its length right, is the memory large enough, does every byte read
abbrev pub word_door : {S : Type 0} → Kind S → State → Bool → Bool → List ℕ → Option ReceiverFault
word_door kind state fits room bytes =
    or_else (admitted state Word)
    (cond (not fits) (Some Length)
    (cond (not room) (Some Memory)
    (option_map Byte (lowest_no (λ i. is_some (kind.read (slice_index bytes i))) 0 (length bytes)))))

-- an accepted word: its values, its first step pending, and 2 for each bit, those beyond as they were; refused, all is as it was
pub record TakenInHand {S : Type 0} (kind : Kind S) (n : ℕ) (door : Option ReceiverFault) (bytes : List ℕ) (soft soft' : List S) (steps steps' : List Step) (row row' : List ℕ) (state state' : State) (answer : Result (Unit {0}) ReceiverFault) : Type 0 where
  pub answered : answer ≡ replied door tt
  pub working : state' ≡ in_force door (Working 1 0) state
  pub bits : row' ≡ in_force door (replicate (2 ^ n) 2 ++ drop (2 ^ n) row) row
  pub values : door ≡ None → take (2 ^ n) soft' ≡ values_of kind n bytes
  pub first : door ≡ None → take 1 steps' ≡ record { next = next.First; start = 0; e = n } ∷ []
  pub kept : (f : ReceiverFault) → door ≡ Some f → (soft' ≡ soft) × (steps' ≡ steps)

-- the questions about an advance
abbrev pub advance_door : State → Bool → Option ReceiverFault
advance_door state room = or_else (admitted state Advance) (cond room None (Some Memory))

-- the questions about a take: is a word in hand and finished, is the memory large enough, are both buffers right
abbrev pub take_door : State → Bool → Bool → Option ReceiverFault
take_door state room right = or_else (admitted state Take) (cond room (cond right None (Some Length)) (Some Memory))

-- the steps that are kept
abbrev pub steps_kept : State → ℕ
steps_kept Idle = 0
steps_kept (Working height steps) = steps
steps_kept (Finished steps) = steps

-- a take, behind its questions: the word and its message are written, the word in hand is ended, and all steps made are answered; refused, all is as it was
pub record HandedOver (door : Option ReceiverFault) (n : ℕ) (marks row message message' word word' : List ℕ) (state state' : State) (answer : Result ℕ ReceiverFault) : Type 0 where
  pub answered : answer ≡ replied door (steps_kept state)
  pub written : word' ≡ in_force door (take (2 ^ n) row) word
  pub read : message' ≡ in_force door (message_in n marks (take (2 ^ n) row)) message
  pub ended : state' ≡ in_force door Idle state

-- what is kept of a word in hand, by the height of its pending steps and the steps made
abbrev pub kept_after : ℕ → ℕ → State
kept_after zero steps = Finished steps
kept_after (suc height) steps = Working (suc height) steps

-- what an advance answers, as steps made and whether none remains
abbrev pub answer_of : Result Went ReceiverFault → Result (ℕ × Bool) ReceiverFault
answer_of (Ok a) = Ok (a.made, a.finished)
answer_of (Err f) = Err f

-- is no step pending
abbrev pub none_pending : ℕ → Bool
none_pending height = height == 0

-- an advance, whatever the memory holds: refused, all is as it was; finished, nothing is made; working, the steps made are at most the allowance, the bits beyond the
-- positions are as they were, and if the memory says where the work stands, it says so afterwards
pub record Goes {S : Type 0} (kind : Kind S) (n : ℕ) (marks : List ℕ) (caps : Kept) (allowance : ℕ) (door : Option ReceiverFault) (state state' : State) (soft : List S) (steps : List Step) (row : List ℕ) (soft' : List S) (steps' : List Step) (row' : List ℕ) (answer : Result (ℕ × Bool) ReceiverFault) : Type 0 where
  pub refused : (f : ReceiverFault) → door ≡ Some f → (answer ≡ Err f) × (state' ≡ state) × (soft' ≡ soft) × (steps' ≡ steps) × (row' ≡ row)
  pub still : (k : ℕ) → door ≡ None → state ≡ Finished k → (answer ≡ Ok (0, true)) × (state' ≡ state) × (soft' ≡ soft) × (steps' ≡ steps) × (row' ≡ row)
  pub beyond : drop (2 ^ n) row' ≡ drop (2 ^ n) row
  pub works : (height k : ℕ) → door ≡ None → state ≡ Working height k →
      (made : ℕ) × ((height' : ℕ) × ((answer ≡ Ok (made, none_pending height')) × (state' ≡ kept_after height' (min (k + made) (2 ^ 32 - 1))) × (made ≤ allowance)
      × Walks kind n marks (caps_of caps) allowance height soft steps row made height' soft' steps' row'))
