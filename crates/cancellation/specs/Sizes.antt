-- How large whole numbers and erasures grow: cited by `largest_size`. Assumes nothing.
use Rattle.std.specs.Prelude.{◌≡◌, ℕ, ◌-◌, ◌*◌, ◌^◌, ◌<◌, ◌≤◌, ◌⊎◌, List, length, Some, slice_index_or}
use Rattle.soft.specs.declared.erasure.Erasure.{Erasure}
use Rattle.soft.specs.declared.whole.Whole.{Whole}
use Rattle.soft.specs.Erasure.{erasure}
use Rattle.soft.specs.Kind.{Kind}
use Rattle.soft.specs.Whole.{whole, whole_up_to, stop}
use Rattle.code.specs.declared.kinds.SpanKind.TheVariants.{Rep}
use Rattle.code.specs.Spans.{pattern}
use Rattle.cancellation.specs.Cancel.{cancel, span_values}
use Rattle.cancellation.specs.Rules.{size_at}
use Rattle.cancellation.specs.Cost.{Cheapest}

-- every value of a word of 2 ^ n positions is what some byte reads as, or the fill
pub record Received {S : Type 0} (kind : Kind S) (n : ℕ) (values : List S) : Type 0 where
  pub long : length values ≡ 2 ^ n
  pub comes : (i : ℕ) → i < 2 ^ n → ((byte : ℕ) × (kind.read byte ≡ Some (slice_index_or values i kind.fill))) ⊎ (slice_index_or values i kind.fill ≡ kind.fill)

-- no value on which a span of 2 ^ e positions is decoded is larger than 127 for each of the values that it comes from
abbrev pub SizesBounded : Type 0
SizesBounded = (n : ℕ) (marks : List ℕ) (values : List Whole) → Received whole n values → (e s i : ℕ) → size_at whole (span_values whole n marks values e s) i ≤ 127 * 2 ^ (n - e)

-- up to 1024 positions a higher stop would change no word
abbrev pub NeverStops : Type 0
NeverStops = (n : ℕ) (marks : List ℕ) (values : List Whole) → n ≤ 10 → Received whole n values → (higher : ℕ) → stop ≤ higher → cancel (whole_up_to higher) n marks values ≡ cancel whole n marks values

-- up to 1024 positions the word of a span that is a repetition is the cheapest that its pattern allows
abbrev pub RepCheapest : Type 0
RepCheapest =
    (n : ℕ) (marks : List ℕ) (values : List Whole) → n ≤ 10 → length marks ≡ 2 ^ n → Received whole n values → (e s : ℕ) → e ≤ n →
    (let span = span_values whole n marks values e s in Cheapest whole e (pattern Rep (2 ^ e)) span (cancel whole e (pattern Rep (2 ^ e)) span))

-- in erasures no value on which a span is decoded is larger than 1
abbrev pub ErasuresKept : Type 0
ErasuresKept = (n : ℕ) (marks : List ℕ) (values : List Erasure) → Received erasure n values → (e s i : ℕ) → size_at erasure (span_values erasure n marks values e s) i ≤ 1
