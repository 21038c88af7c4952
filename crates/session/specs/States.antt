-- What the state of a session means: cited by `State`. Assumes nothing.
use Rattle.std.specs.Prelude.{◌≡◌, ℕ, ◌+◌, ◌-◌, ◌≤◌, List, length, drop, Some, None, Option, Result, option_map}
use Rattle.code.specs.Spans.{part}
use Rattle.soft.specs.Kind.{Kind}
use Rattle.receiver.specs.declared.memory.Memory.{Memory}
use Rattle.receiver.specs.declared.receiver.Receiver.{Receiver}
use Rattle.receiver.specs.Agreement.{Agrees}
use Rattle.receiver.specs.Model.{Model}
use Rattle.code.specs.declared.order.Order.{Order}
use Rattle.session.specs.declared.chosen.Chosen.{Chosen}
use Rattle.session.specs.declared.faults.SessionFault.{SessionFault}
use Rattle.session.specs.declared.state.State.{State}
use Rattle.session.specs.declared.answers.Answer.{Answer}
use Rattle.session.specs.Answers.{answer_of}
use Rattle.session.specs.Chosen.{exponent_of, marks_of}
use Rattle.session.specs.Commands.{Request, slot, order, ranked, listed, encode, caps, word, short_word, advance, taking, dropping}
use Rattle.session.specs.Sessions.{InForce, Done}

-- the work memory is large enough for every code
pub record Room {S : Type 0} (memory : Memory S) : Type 0 where
  pub soft_room : length memory.soft.now ≡ 2048
  pub step_room : length memory.pending.now ≡ 64
  pub bit_room : length memory.bits.now ≡ 1024

-- a receiver and its memory are as a model says
abbrev pub Agreed : {S : Type 0} → Kind S → Model S → Receiver Chosen S → Memory S → Type 0
Agreed kind m r memory = Agrees kind m (exponent_of r.map) (marks_of r.map) r.caps r.state memory.soft.now memory.pending.now memory.bits.now

-- the same of a receiver that may not be there yet
abbrev pub AgreedIf : {S : Type 0} → Kind S → Option (Model S) → Option (Receiver Chosen S) → Memory S → Type 0
AgreedIf kind None None memory = Unit {0}
AgreedIf kind None (Some r) memory = ⊥
AgreedIf kind (Some m) None memory = ⊥
AgreedIf kind (Some m) (Some r) memory = Agreed kind m r memory

-- an order by its n and its bytes
abbrev pub order_of : Order → ℕ × List ℕ
order_of o = (o.n, o.ranks.now)

-- a state and its work memory are as what is in force says
pub record Stands {S : Type 0} (kind : Kind S) (s : InForce S) (state : State S) (memory : Memory S) : Type 0 where
  pub order : s.order ≡ option_map order_of state.order
  pub receiver : AgreedIf kind s.receiver state.receiver memory
  pub room : Room memory

-- a command answered what it should, and left the state and its work memory so
pub record Did {S : Type 0} (kind : Kind S) (d : Done S) (r : Result (List (List ℕ)) SessionFault) (state : State S) (memory : Memory S) : Type 0 where
  pub answer : r ≡ d.answer
  pub after : Stands kind d.after state memory

-- what a command that works in memory does, whatever is in force
abbrev pub Works : {S : Type 0} → Kind S → (InForce S → Done S) → Result Answer SessionFault → State S → Memory S → State S → Memory S → Type 0
Works {S} kind d r state memory state' memory' = (s : InForce S) → Stands kind s state memory → Did kind (d s) (answer_of r) state' memory'

-- what a command that leaves the work memory alone does, whatever is in memory
abbrev pub Does : {S : Type 0} → Kind S → (InForce S → Done S) → Result Answer SessionFault → State S → State S → Type 0
Does {S} kind d r state state' = (s : InForce S) (memory : Memory S) → Stands kind s state memory → Did kind (d s) (answer_of r) state' memory

-- the ranks that an order command keeps stand in the session, after its letter and its n
abbrev pub Placed : List ℕ → ℕ → Request → Type 0
Placed session at (slot number) = Unit {0}
Placed session at (order n ranks) = (at + 2 + length ranks ≤ length session) × (ranks ≡ part session (at + 2) (length ranks))
Placed session at (ranked k) = Unit {0}
Placed session at (listed n marks) = Unit {0}
Placed session at (encode message) = Unit {0}
Placed session at (caps first second) = Unit {0}
Placed session at (word bytes) = Unit {0}
Placed session at (short_word bytes) = Unit {0}
Placed session at (advance allowance) = Unit {0}
Placed session at taking = Unit {0}
Placed session at dropping = Unit {0}

-- the part of a session that is left, with its offset
abbrev pub Left : List ℕ → List ℕ → Type 0
Left session rest = (length rest ≤ length session) × (rest ≡ drop (length session - length rest) session)
