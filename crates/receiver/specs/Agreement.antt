-- When a receiver and its memory are as a model says: cited by the contracts of the receiver's calls. Assumes nothing.
use Rattle.std.specs.Prelude.{◌≡◌, ℕ, ◌+◌, ◌*◌, ◌^◌, ◌≤◌, Bool, ◌&&◌, List, length, Some, None, Option, nat_le}
use Rattle.soft.specs.Kind.{Kind}
use Rattle.receiver.specs.declared.caps.Caps.{Caps as Kept}
use Rattle.receiver.specs.declared.memory.Step.{Step}
use Rattle.receiver.specs.declared.states.State.{State}
use Rattle.receiver.specs.declared.states.State.TheVariants.{Idle, Working, Finished}
use Rattle.receiver.specs.Bounds.{remaining}
use Rattle.receiver.specs.Capping.{caps_of}
use Rattle.receiver.specs.Coherence.{Coherent}
use Rattle.receiver.specs.Model.{Hand, Model}
use Rattle.receiver.specs.Work.{Root, Place, at, finished}

-- are these many soft numbers, pending steps and bits enough for 2 ^ n positions
abbrev pub room_for : ℕ → ℕ → ℕ → ℕ → Bool
room_for n soft steps row = nat_le (2 * 2 ^ n) soft && (nat_le 64 steps && nat_le (2 ^ n) row)

-- is the memory large enough for 2 ^ n positions
abbrev pub roomy : {S : Type 0} → ℕ → List S → List Step → List ℕ → Bool
roomy n soft steps row = room_for n (length soft) (length steps) (length row)

-- what is kept of a word in hand
abbrev pub kept_at : Place → ℕ → ℕ → State
kept_at (at next path) height steps = Working height steps
kept_at finished height steps = Finished steps

-- the receiver and its memory are as the word in hand says
pub record Holds {S : Type 0} (kind : Kind S) (n : ℕ) (marks : List ℕ) (h : Hand S) (state : State) (soft : List S) (steps : List Step) (row : List ℕ) (height : ℕ) : Type 0 where
  pub root : Root n h.root
  pub marks_are : h.root.marks ≡ marks
  pub memory : Coherent kind n h.root h.place height soft steps row
  pub kept : state ≡ kept_at h.place height h.steps
  -- few enough steps that the count is exact
  pub few : h.steps + remaining kind h.root h.place ≤ 4 * 2 ^ n

-- the same where there may be no word in hand
abbrev pub HoldsHand : {S : Type 0} → Kind S → ℕ → List ℕ → Option (Hand S) → State → List S → List Step → List ℕ → Type 0
HoldsHand kind n marks None state soft steps row = state ≡ Idle
HoldsHand kind n marks (Some h) state soft steps row = (height : ℕ) × Holds kind n marks h state soft steps row height

-- a receiver, by its map's n and marks, its caps and its state, and its memory are as a model says
pub record Agrees {S : Type 0} (kind : Kind S) (m : Model S) (n : ℕ) (marks : List ℕ) (caps : Kept) (state : State) (soft : List S) (steps : List Step) (row : List ℕ) : Type 0 where
  pub n_is : m.n ≡ n
  pub marks_are : m.marks ≡ marks
  pub caps_are : m.caps ≡ caps_of caps
  pub hand : HoldsHand kind n marks m.hand state soft steps row
