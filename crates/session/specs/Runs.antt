-- What the commands of a session, one after the other, do to its receiver: cited by `transcript`. Assumes nothing.
use Rattle.std.specs.Prelude.{◌≡◌, ℕ, suc, ◌+◌, ◌-◌, ◌^◌, true, List, [], ◌∷◌, ◌++◌, length, Some, None, Ok, decimal, Option}
use Rattle.code.specs.declared.faults.MapFault.{MapFault}
use Rattle.code.specs.Spans.{listed_fault, Means}
use Rattle.code.specs.Orders.{ranks_of, ranked_marks, count_fault}
use Rattle.code.specs.Encode.{informed_count}
use Rattle.soft.specs.Kind.{Kind}
use Rattle.receiver.specs.Calls as receiver
use Rattle.receiver.specs.Calls.{Call, Answer, called, answers_to}
use Rattle.receiver.specs.Histories.{after_calls}
use Rattle.receiver.specs.Law.{Law, AllMapped}
use Rattle.receiver.specs.Model.{Model, fresh}
use Rattle.session.specs.declared.commands.Make.{Make}
use Rattle.session.specs.declared.faults.SessionFault.{SessionFault}
use Rattle.session.specs.Commands.{Request, slot, order, ranked, listed, encode, caps, word, short_word, advance, taking, dropping, read_command}
use Rattle.session.specs.Faults.{report_of}
use Rattle.session.specs.Text.{refused_line}
use Rattle.session.specs.Sessions.{InForce, Done, nothing, told, perform, answer_line, sizes_in, lines_from}

-- what a command does to the receiver: it leaves it, makes it over a map, or makes one call to it, which is answered
pub data Act : Type 0 where
  leaves : Act
  makes : ℕ → List ℕ → Act
  calls : Call → Answer → Act

-- a call, if there is a receiver
abbrev pub calling : {S : Type 0} → Kind S → (Model S → Call) → Option (Model S) → Act
calling kind asks None = leaves
calling kind asks (Some m) = calls (asks m) (called kind (asks m) m).answer

-- an accepted map makes the receiver, or remaps it
abbrev pub mapping : {S : Type 0} → Kind S → Option MapFault → ℕ → List ℕ → Option (Model S) → Act
mapping kind (Some f) n marks r = leaves
mapping kind None n marks None = makes n marks
mapping kind None n marks (Some m) = calling kind (λ x. receiver.remap n marks) (Some m)

-- what each command does to the receiver
abbrev pub act_of : {S : Type 0} → Kind S → Request → InForce S → Act
act_of kind (slot number) s = leaves
act_of kind (order n bytes) s = leaves
act_of kind (ranked k) s = elim s.order [ None ↦ leaves | Some o ↦ mapping kind (count_fault o.0 k) o.0 (ranked_marks (ranks_of o.1) k) s.receiver ]
act_of kind (listed n marks) s = mapping kind (listed_fault n marks) n marks s.receiver
act_of kind (encode message) s = leaves
act_of kind (caps first second) s = calling kind (λ m. receiver.set_caps first second) s.receiver
act_of kind (word bytes) s = calling kind (λ m. receiver.word true bytes) s.receiver
act_of kind (short_word bytes) s = calling kind (λ m. receiver.short_word true bytes) s.receiver
act_of kind (advance allowance) s = calling kind (λ m. receiver.advance true allowance) s.receiver
act_of kind taking s = calling kind (λ m. receiver.take true (informed_count m.marks) (2 ^ m.n)) s.receiver
act_of kind dropping s = calling kind (λ m. receiver.drop_word) s.receiver

-- what the line of a call says where the receiver answers nothing more: the count of informed positions of a map, or the caps
abbrev pub besides : Call → List (List ℕ)
besides (receiver.remap n marks) = decimal (informed_count marks) ∷ []
besides (receiver.set_caps first second) = decimal first ∷ (decimal second ∷ [])
besides (receiver.word roomy bytes) = []
besides (receiver.short_word roomy bytes) = []
besides (receiver.advance roomy allowance) = []
besides (receiver.take roomy message room) = []
besides receiver.drop_word = []

-- what an act says of the receiver before and after, and of the command's line, which tells the answer of the call
abbrev pub Acts : {S : Type 0} → Kind S → InForce S → Done S → Act → Type 0
Acts kind s d leaves = d.after.receiver ≡ s.receiver
Acts kind s d (makes n marks) = (s.receiver ≡ None) × (d.after.receiver ≡ Some (fresh n marks)) × (d.answer ≡ Ok (decimal (informed_count marks) ∷ []))
Acts {S} kind s d (calls c a) =
    (m : Model S) × (s.receiver ≡ Some m) × (a ≡ (called kind c m).answer) × (d.after.receiver ≡ Some (called kind c m).after) × (d.answer ≡ told (besides c) a)

-- a command that was read: its letter, the offset of its letter, and what it asks
pub record Turn : Type 0 where
  pub letter : ℕ
  pub at : ℕ
  pub request : Request

-- what is in force after some commands
unfoldable pub in_force_after : {S : Type 0} → Kind S → List ℕ → List Turn → InForce S → InForce S
in_force_after kind shelf [] s = s
in_force_after kind shelf (t ∷ turns) s = in_force_after kind shelf turns (perform kind shelf t.at t.request s).after

-- what each of them does to the receiver
unfoldable pub acts_of : {S : Type 0} → Kind S → List ℕ → List Turn → InForce S → List Act
acts_of kind shelf [] s = []
acts_of kind shelf (t ∷ turns) s = act_of kind t.request s ∷ acts_of kind shelf turns (perform kind shelf t.at t.request s).after

-- their lines, numbered from here
unfoldable pub text_of : {S : Type 0} → Kind S → List ℕ → ℕ → List Turn → InForce S → List ℕ
text_of kind shelf number [] s = []
text_of kind shelf number (t ∷ turns) s =
    answer_line number t.letter (perform kind shelf t.at t.request s).answer ++ text_of kind shelf (suc number) turns (perform kind shelf t.at t.request s).after

-- the calls among some acts
unfoldable pub calls_in : List Act → List Call
calls_in [] = []
calls_in (leaves ∷ acts) = calls_in acts
calls_in (makes n marks ∷ acts) = calls_in acts
calls_in (calls c a ∷ acts) = c ∷ calls_in acts

-- their answers
unfoldable pub answers_in : List Act → List Answer
answers_in [] = []
answers_in (leaves ∷ acts) = answers_in acts
answers_in (makes n marks ∷ acts) = answers_in acts
answers_in (calls c a ∷ acts) = a ∷ answers_in acts

-- calls to a new receiver over this map, and their answers: every map means a list of marks, the calls have led to the receiver in force, the answers are its own, and the law over runs holds
pub record Lawfully {S : Type 0} (kind : Kind S) (n : ℕ) (marks : List ℕ) (asked : List Call) (answered : List Answer) (in_force : Option (Model S)) : Type 0 where
  pub first : Means n marks
  pub maps : AllMapped asked
  pub led : in_force ≡ Some (after_calls kind asked (fresh n marks))
  pub same : answered ≡ answers_to kind asked (fresh n marks)
  pub law : Law kind n marks asked answered

-- no call comes before the act that makes the receiver, and those after it are lawful
unfoldable pub LawfulActs : {S : Type 0} → Kind S → List Act → Option (Model S) → Type 0
LawfulActs kind [] r = r ≡ None
LawfulActs kind (leaves ∷ acts) r = LawfulActs kind acts r
LawfulActs kind (makes n marks ∷ acts) r = Lawfully kind n marks (calls_in acts) (answers_in acts) r
LawfulActs kind (calls c a ∷ acts) r = ⊥

-- these commands are read one after the other at the beginning of what is left of a session of `size` bytes
unfoldable pub Reads : {S : Type 0} → Kind S → Make → List ℕ → ℕ → List Turn → List ℕ → InForce S → Type 0
Reads kind make shelf size [] left s = Unit {0}
Reads kind make shelf size (t ∷ turns) left s = (bytes rest : List ℕ) × (left ≡ t.letter ∷ bytes) × (t.at ≡ size - length left)
    × (read_command make (sizes_in s.receiver) t.at t.letter bytes ≡ Ok (record { request = t.request; rest = rest }))
    × Reads kind make shelf size turns rest (perform kind shelf t.at t.request s).after

-- a text ends after the line of its last command, or with one more line, which refuses to read what follows
pub data Ending (number : ℕ) : List ℕ → Type 0 where
  ended : Ending number []
  unread : (letter : ℕ) (f : SessionFault) → Ending number (refused_line number letter (report_of f))

-- a text, numbered from here, is the lines of commands that are read, performed one after the other
pub record TextOf {S : Type 0} (kind : Kind S) (make : Make) (shelf : List ℕ) (size number : ℕ) (left : List ℕ) (s : InForce S) (text : List ℕ) : Type 0 where
  pub turns : List Turn
  pub last : List ℕ
  pub read : Reads kind make shelf size turns left s
  pub ends : Ending (number + length turns) last
  pub lines : text ≡ text_of kind shelf number turns s ++ last

-- sessions in this kind of soft number
pub record SessionsLawful {S : Type 0} (kind : Kind S) : Type 0 where
  -- what a session prints is the lines of its commands, performed one after the other, at first with nothing in force
  pub lines : (most : ℕ) (make : Make) (shelf : List ℕ) (size : ℕ) (bytes : List ℕ) → TextOf kind make shelf size 0 bytes nothing (lines_from kind most make shelf size 0 bytes nothing)
  -- each command makes at most one call to the receiver, and its line tells the answer
  pub acts : (shelf : List ℕ) (at : ℕ) (q : Request) (s : InForce S) → Acts kind s (perform kind shelf at q s) (act_of kind q s)
  -- after any commands, the calls have led to the receiver in force, and the law over runs holds of them and of their answers
  pub law : (shelf : List ℕ) (turns : List Turn) → LawfulActs kind (acts_of kind shelf turns nothing) (in_force_after kind shelf turns nothing).receiver
