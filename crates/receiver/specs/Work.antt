-- Where the work on a word stands, and how many steps it takes: cited by the contracts of the receiver's calls. Assumes nothing.
use Rattle.std.specs.Prelude.{◌≡◌, ℕ, zero, suc, ◌+◌, ◌-◌, ◌^◌, Bool, true, false, cond, ◌||◌, List, [], ◌∷◌, ◌++◌, length, take, drop, replicate, Some, None, Option, ◌==◌, nat_le}
use Rattle.soft.specs.Kind.{Kind}
use Rattle.code.specs.declared.kinds.SpanKind.{SpanKind}
use Rattle.code.specs.declared.kinds.SpanKind.TheVariants.{Rate0, Rate1, Rep, Spc}
use Rattle.code.specs.Spans.{kind_of}
use Rattle.cancellation.specs.Rows.{left_values, right_values}
use Rattle.cancellation.specs.Cancel.{cancel}

-- two caps: the first is asked of Rate-0 and Rep, the second of Rate-1 and SPC
pub record Caps : Type 0 where
  pub first : ℕ
  pub second : ℕ

-- is a span of 2 ^ e positions that has this kind settled: 2 ^ e at most 2 to the cap of its kind
abbrev pub allowed_kind : Caps → ℕ → SpanKind → Bool
allowed_kind caps e Rate0 = nat_le e caps.first
allowed_kind caps e Rate1 = nat_le e caps.second
allowed_kind caps e Rep = nat_le e caps.first
allowed_kind caps e Spc = nat_le e caps.second

-- the same of a span that may have no kind, and then it is split
abbrev pub allowed : Caps → ℕ → Option SpanKind → Bool
allowed caps e None = false
allowed caps e (Some k) = allowed_kind caps e k

-- 2 ^ e positions from start on, with their marks and the values on which cancellation decodes them
pub record Span (S : Type 0) : Type 0 where
  pub e : ℕ
  pub start : ℕ
  pub marks : List ℕ
  pub values : List S

-- a span whose marks and values are as many as its positions
pub record Full {S : Type 0} (span : Span S) : Type 0 where
  pub marks : length span.marks ≡ 2 ^ span.e
  pub values : length span.values ≡ 2 ^ span.e

-- the whole word: 2 ^ n positions from 0 on
pub record Root {S : Type 0} (n : ℕ) (root : Span S) : Type 0 where
  pub e : root.e ≡ n
  pub start : root.start ≡ 0
  pub full : Full root

-- is a span settled under these caps; a single position always is
abbrev pub settled : {S : Type 0} → Caps → Span S → Bool
settled caps span = span.e == 0 || allowed caps span.e (kind_of span.marks)

-- the word that cancellation gives a span
abbrev pub word_of : {S : Type 0} → Kind S → Span S → List ℕ
word_of kind span = cancel kind span.e span.marks span.values

-- the positions of half a span
abbrev pub half : {S : Type 0} → Span S → ℕ
half span = 2 ^ (span.e - 1)

-- the left half of a span is decoded on check of its halves
abbrev pub left_of : {S : Type 0} → Kind S → Span S → Span S
left_of kind span = record {
  e = span.e - 1;
  start = span.start;
  marks = take (half span) span.marks;
  values = left_values kind (span.e - 1) span.values;
}

-- the right half of a span is decoded on join of its halves with the left half's word
abbrev pub right_of : {S : Type 0} → Kind S → Span S → Span S
right_of kind span = record {
  e = span.e - 1;
  start = span.start + half span;
  marks = drop (half span) span.marks;
  values = right_values kind (span.e - 1) span.values (word_of kind (left_of kind span));
}

-- a half of a span
pub data Side : Type 0 where
  left right : Side

-- the half on this side
abbrev pub half_of : {S : Type 0} → Kind S → Side → Span S → Span S
half_of kind left span = left_of kind span
half_of kind right span = right_of kind span

-- the span at the end of a path of halves from a root, the last half first
abbrev pub span_at : {S : Type 0} → Kind S → Span S → List Side → Span S
span_at kind root [] = root
span_at kind root (side ∷ path) = half_of kind side (span_at kind root path)

-- what comes next of an open span: its first step, its right step, or its final step
pub data Next : Type 0 where
  first second final : Next

-- where the work on a word stands: a path to the smallest open span and what comes next of it, or no step remains
pub data Place : Type 0 where
  at : Next → List Side → Place
  finished : Place

-- the rows of all open spans, longest first
abbrev pub rows : {S : Type 0} → Kind S → Span S → List Side → List S
rows kind root [] = root.values
rows kind root (side ∷ path) = rows kind root path ++ (span_at kind root (side ∷ path)).values

-- the bits of what lies left of the span at a path: left halves that are done
abbrev pub before : {S : Type 0} → Kind S → Span S → List Side → List ℕ
before kind root [] = []
before kind root (left ∷ path) = before kind root path
before kind root (right ∷ path) = before kind root path ++ word_of kind (left_of kind (span_at kind root path))

-- the bits of what lies right of the span at a path: nothing there is done, and each is 2
abbrev pub after : {S : Type 0} → Kind S → Span S → List Side → List ℕ
after kind root [] = []
after kind root (left ∷ path) = replicate (half (span_at kind root path)) 2 ++ after kind root path
after kind root (right ∷ path) = after kind root path

-- the bits of an open span by what comes next of it
abbrev pub within : {S : Type 0} → Kind S → Next → Span S → List ℕ
within kind first span = replicate (2 ^ span.e) 2
within kind second span = word_of kind (left_of kind span) ++ replicate (half span) 2
within kind final span = word_of kind (left_of kind span) ++ word_of kind (right_of kind span)

-- the bits of all positions
abbrev pub bits_at : {S : Type 0} → Kind S → Span S → Place → List ℕ
bits_at kind root (at next path) = before kind root path ++ (within kind next (span_at kind root path) ++ after kind root path)
bits_at kind root finished = word_of kind root

-- a span is done: what comes next of the span around it
abbrev pub done : List Side → Place
done [] = finished
done (left ∷ path) = at second path
done (right ∷ path) = at final path

-- where the work stands after one step under these caps
abbrev pub stepped : {S : Type 0} → Kind S → Span S → Caps → Place → Place
stepped kind root caps (at first path) = cond (settled caps (span_at kind root path)) (done path) (at first (left ∷ path))
stepped kind root caps (at second path) = at first (right ∷ path)
stepped kind root caps (at final path) = done path
stepped kind root caps finished = finished

-- the steps of a span are those from k up to k', where `caps i` are the caps in force as step i is made
pub data Took {S : Type 0} (kind : Kind S) (caps : ℕ → Caps) : ℕ → Span S → ℕ → Type 0 where
  -- a settled span takes one step
  one : {k : ℕ} {span : Span S} → settled (caps k) span ≡ true → Took kind caps k span (suc k)
  -- any other takes a left step, the left half's steps, a right step, the right half's steps and a final step
  split : {k m p : ℕ} {span : Span S} → settled (caps k) span ≡ false →
      Took kind caps (suc k) (left_of kind span) m → Took kind caps (suc m) (right_of kind span) p → Took kind caps k span (suc p)

-- the first step of the span at a path is step k, under those caps: that of the whole word is step 0, that of a left half follows the left step, that of a right half follows the right step
pub data Begun {S : Type 0} (kind : Kind S) (root : Span S) (caps : ℕ → Caps) : List Side → ℕ → Type 0 where
  begun_root : Begun kind root caps [] 0
  begun_left : {path : List Side} {k : ℕ} → Begun kind root caps path k → settled (caps k) (span_at kind root path) ≡ false → Begun kind root caps (left ∷ path) (suc k)
  begun_right : {path : List Side} {k m : ℕ} → Begun kind root caps path k → settled (caps k) (span_at kind root path) ≡ false →
      Took kind caps (suc k) (left_of kind (span_at kind root path)) m → Begun kind root caps (right ∷ path) (suc m)

-- where the work stands after some steps, as many as remain at most, under the same caps
unfoldable pub walked : {S : Type 0} → Kind S → Span S → Caps → ℕ → Place → Place
walked kind root caps zero place = place
walked kind root caps (suc k) place = walked kind root caps k (stepped kind root caps place)

-- how many of an allowance of steps are made
unfoldable pub made_of : {S : Type 0} → Kind S → Span S → Caps → ℕ → Place → ℕ
made_of kind root caps zero place = 0
made_of kind root caps (suc k) finished = 0
made_of kind root caps (suc k) (at next path) = suc (made_of kind root caps k (stepped kind root caps (at next path)))
