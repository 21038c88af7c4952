-- The seven calls and their answers as what happens to a receiver: cited by the law over runs and by what a session answers. Assumes nothing.
use Rattle.std.specs.Prelude.{ℕ, Bool, List, [], ◌∷◌, Some, None, Option}
use Rattle.soft.specs.Kind.{Kind}
use Rattle.receiver.specs.declared.faults.ReceiverFault.{ReceiverFault}
use Rattle.receiver.specs.Model.{Model, remap_fault, remapped, caps_fault, capped, full_length, short_length, word_fault, worded, advance_fault, advanced, advance_made, advance_ends, take_fault, right_buffers, taken_word, message_in, taken_steps, drop_fault, ended}

-- a call: `roomy` says whether the work memory handed is large enough; take brings the lengths of its two buffers
pub data Call : Type 0 where
  -- another map, by its n and its marks
  remap : ℕ → List ℕ → Call
  set_caps : ℕ → ℕ → Call
  word : Bool → List ℕ → Call
  short_word : Bool → List ℕ → Call
  advance : Bool → ℕ → Call
  take : Bool → ℕ → ℕ → Call
  drop_word : Call

-- what a call answers: a refusal, nothing more, the steps made and whether none remains, or all steps with the message and the word written
pub data Answer : Type 0 where
  refused : ReceiverFault → Answer
  done : Answer
  went : ℕ → Bool → Answer
  took : ℕ → List ℕ → List ℕ → Answer

-- an answer, and what is in force then
pub record Outcome (S : Type 0) : Type 0 where
  pub answer : Answer
  pub after : Model S

-- a refusal leaves all as it was
abbrev pub outcome : {S : Type 0} → Option ReceiverFault → Answer → Model S → Model S → Outcome S
outcome None answer after before = record { answer = answer; after = after }
outcome (Some f) answer after before = record { answer = refused f; after = before }

-- what a call answers and leaves
abbrev pub called : {S : Type 0} → Kind S → Call → Model S → Outcome S
called kind (remap n marks) m = outcome (remap_fault m) done (remapped n marks m) m
called kind (set_caps a b) m = outcome (caps_fault a b) done (capped a b m) m
called kind (word roomy bytes) m = outcome (word_fault kind m full_length roomy bytes) done (worded kind bytes m) m
called kind (short_word roomy bytes) m = outcome (word_fault kind m short_length roomy bytes) done (worded kind bytes m) m
called kind (advance roomy b) m = outcome (advance_fault m roomy) (went (advance_made kind b m.caps m.hand) (advance_ends kind b m.caps m.hand)) (advanced kind b m) m
called kind (take roomy message room) m =
    outcome (take_fault m.hand roomy (right_buffers m.n m.marks message room))
    (took (taken_steps m.hand) (message_in m.n m.marks (taken_word kind m.hand)) (taken_word kind m.hand)) (ended m) m
called kind drop_word m = outcome (drop_fault m) done (ended m) m

-- the answers to a list of calls
unfoldable pub answers_to : {S : Type 0} → Kind S → List Call → Model S → List Answer
answers_to kind [] m = []
answers_to kind (c ∷ calls) m = (called kind c m).answer ∷ answers_to kind calls (called kind c m).after
