-- When the work memory says where the work stands: cited by the contracts of the receiver's calls. Assumes nothing.
use Rattle.std.specs.Prelude.{◌≡◌, ℕ, suc, ◌^◌, ◌≤◌, List, [], ◌∷◌, ◌++◌, length, take}
use Rattle.soft.specs.Kind.{Kind}
use Rattle.receiver.specs.declared.memory.Step.{Step}
use Rattle.receiver.specs.declared.memory.Next.TheVariants as next
use Rattle.receiver.specs.declared.memory.Next.{Next as Kept}
use Rattle.receiver.specs.Work.{Span, Side, left, right, Next, first, second, final, Place, at, finished, span_at, rows, bits_at, word_of}

-- what comes next, as it is kept in memory
abbrev pub kept : Next → Kept
kept first = next.First
kept second = next.Second
kept final = next.Final

-- a pending step of a span
abbrev pub pending_of : {S : Type 0} → Next → Span S → Step
pending_of n span = record { next = kept n; start = span.start; e = span.e }

-- the pending steps of the spans around the one at a path, the longest first: the right step while the left half is worked on, then the final step
abbrev pub around : {S : Type 0} → Kind S → Span S → List Side → List Step
around kind root [] = []
around kind root (left ∷ path) = around kind root path ++ (pending_of second (span_at kind root path) ∷ [])
around kind root (right ∷ path) = around kind root path ++ (pending_of final (span_at kind root path) ∷ [])

-- only a span of more than one position has a right step or a final step
abbrev pub Splits : Next → ℕ → Type 0
Splits first e = Unit {0}
Splits second e = e ≡ 0 → ⊥
Splits final e = e ≡ 0 → ⊥

-- the memory says that the smallest open span is the one at a path, and what comes next of it
pub record Open {S : Type 0} (kind : Kind S) (n : ℕ) (root : Span S) (nxt : Next) (path : List Side) (height : ℕ) (soft : List S) (steps : List Step) (row : List ℕ) : Type 0 where
  pub deep : length path ≤ n
  pub long : Splits nxt (span_at kind root path).e
  pub high : height ≡ suc (length path)
  -- soft memory begins with the rows of all open spans, longest first
  pub soft_rows : take (length (rows kind root path)) soft ≡ rows kind root path
  pub pending : take height steps ≡ around kind root path ++ (pending_of nxt (span_at kind root path) ∷ [])
  -- all N bits are those that cancellation has at this point
  pub bits : take (2 ^ n) row ≡ bits_at kind root (at nxt path)

-- the memory says that no step remains
pub record Closed {S : Type 0} (kind : Kind S) (n : ℕ) (root : Span S) (height : ℕ) (row : List ℕ) : Type 0 where
  pub high : height ≡ 0
  pub bits : take (2 ^ n) row ≡ word_of kind root

-- the memory says where the work stands
abbrev pub Coherent : {S : Type 0} → Kind S → ℕ → Span S → Place → ℕ → List S → List Step → List ℕ → Type 0
Coherent kind n root (at nxt path) height soft steps row = Open kind n root nxt path height soft steps row
Coherent kind n root finished height soft steps row = Closed kind n root height row
