-- What one step does to the work memory: cited by the functions that make steps. Assumes nothing.
use Rattle.std.specs.Prelude.{◌≡◌, ℕ, ◌+◌, ◌-◌, ◌*◌, ◌^◌, ◌≤◌, cond, ◌||◌, List, length, drop, set, Some, None, Option, ◌==◌}
use Rattle.code.specs.declared.kinds.SpanKind.{SpanKind}
use Rattle.soft.specs.Kind.{Kind}
use Rattle.code.specs.Spans.{part}
use Rattle.code.specs.Transform.{join_halves}
use Rattle.cancellation.specs.Rows.{check_row, join_row}
use Rattle.receiver.specs.declared.memory.Step.{Step}
use Rattle.receiver.specs.Stacks.{overwritten}
use Rattle.receiver.specs.Work.{Caps, allowed_kind, Span, Root, Side, Next, Place, at, span_at, stepped, walked, made_of}
use Rattle.receiver.specs.Coherence.{pending_of, Open, Coherent}

-- the memory is large enough for 2 ^ n positions
pub record Roomy {S : Type 0} (n : ℕ) (soft : List S) (steps : List Step) (row : List ℕ) : Type 0 where
  pub soft_room : 2 * 2 ^ n ≤ length soft
  pub step_room : 64 ≤ length steps
  pub bit_room : 2 ^ n ≤ length row

-- whatever the memory says, a step leaves the bits beyond the first 2 ^ n as they were, and few steps pending
pub record Inside (n height : ℕ) (row after : List ℕ) : Type 0 where
  pub few : height ≤ 64
  pub beyond : drop (2 ^ n) after ≡ drop (2 ^ n) row

-- if the memory says that this step of some span of the word comes next, then afterwards it says where the work stands one step later
abbrev pub Follows : {S : Type 0} → Kind S → ℕ → List ℕ → Caps → Next → Step → ℕ → List S → List Step → List ℕ → ℕ → List S → List Step → List ℕ → Type 0
Follows {S} kind n marks caps nxt step height soft steps row height' soft' steps' row' =
    (root : Span S) (path : List Side) → Root n root → root.marks ≡ marks → step ≡ pending_of nxt (span_at kind root path) →
    Open kind n root nxt path height soft steps row → Coherent kind n root (stepped kind root caps (at nxt path)) height' soft' steps' row'

-- the kind by which a span of 2 ^ e positions is settled, or none
abbrev pub settled_by : Caps → ℕ → Option SpanKind → Option SpanKind
settled_by caps e None = None
settled_by caps e (Some k) = cond (e == 0 || allowed_kind caps e k) (Some k) None

-- where the row of an open span of 2 ^ e positions begins in soft memory
abbrev pub base : ℕ → ℕ → ℕ
base n e = 2 * 2 ^ n - 2 * 2 ^ e

-- soft memory with the row of a left half after that of its span, which begins at `b`
abbrev pub with_left : {S : Type 0} → Kind S → ℕ → ℕ → List S → List S
with_left kind b half soft = overwritten soft (b + 2 * half) (check_row kind (part soft b half) (part soft (b + half) half))

-- soft memory with the row of a right half after that of its span, which begins at `b`; the bits of the left half begin at `start`
abbrev pub with_right : {S : Type 0} → Kind S → ℕ → ℕ → List S → List ℕ → ℕ → List S
with_right kind b half soft row start = overwritten soft (b + 2 * half) (join_row kind (part soft b half) (part soft (b + half) half) (part row start half))

-- the bits with those of a span from those of its halves
abbrev pub with_word : ℕ → List ℕ → ℕ → List ℕ
with_word half row start = overwritten row start (join_halves (part row start half) (part row (start + half) half))

-- the pending steps with a later step of a span in the place of its own, of which `below` are below, and one of a half above it
abbrev pub with_half : List Step → ℕ → Step → Step → List Step
with_half steps below later half = set (set steps below later) (below + 1) half

-- if the memory says where the work on a word stands, and a step remains, then afterwards it says where the work stands one step later
abbrev pub Moves : {S : Type 0} → Kind S → ℕ → List ℕ → Caps → ℕ → List S → List Step → List ℕ → ℕ → List S → List Step → List ℕ → Type 0
Moves {S} kind n marks caps height soft steps row height' soft' steps' row' =
    (root : Span S) (nxt : Next) (path : List Side) → Root n root → root.marks ≡ marks →
    Open kind n root nxt path height soft steps row → Coherent kind n root (stepped kind root caps (at nxt path)) height' soft' steps' row'

-- if the memory says where the work on a word stands, then afterwards it says where the work stands when the allowance or the work is used up, and the answer is how many steps that took
abbrev pub Walks : {S : Type 0} → Kind S → ℕ → List ℕ → Caps → ℕ → ℕ → List S → List Step → List ℕ → ℕ → ℕ → List S → List Step → List ℕ → Type 0
Walks {S} kind n marks caps allowance height soft steps row made height' soft' steps' row' =
    (root : Span S) (place : Place) → Root n root → root.marks ≡ marks → Coherent kind n root place height soft steps row →
    Coherent kind n root (walked kind root caps allowance place) height' soft' steps' row' × (made ≡ made_of kind root caps allowance place)
