-- What a word costs, and which words a pattern allows: cited by the promise that settled words are the cheapest. Assumes nothing.
use Rattle.std.specs.Prelude.{◌≡◌, ℕ, ◌+◌, ◌^◌, ◌≤◌, Bool, true, false, cond, List, [], ◌∷◌, length, ◌==◌, slice_index}
use Rattle.soft.specs.Kind.{Kind, apart}
use Rattle.code.specs.declared.kinds.SpanKind.{SpanKind}
use Rattle.code.specs.declared.kinds.SpanKind.TheVariants.{Rate0, Rate1, Rep, Spc}
use Rattle.code.specs.Spans.{pattern}
use Rattle.code.specs.Transform.{transform}
use Rattle.cancellation.specs.Rows.{bit}

-- the sum of the sizes where bit and sign differ
abbrev pub cost : {S : Type 0} → Kind S → List S → List ℕ → ℕ
cost kind [] word = 0
cost kind (v ∷ values) [] = 0
cost kind (v ∷ values) (b ∷ word) = cond (b == bit (kind.sign v)) 0 (kind.size v) + cost kind values word

-- the transform of the word is 0 at each frozen position
abbrev pub Allows : ℕ → List ℕ → List ℕ → Type 0
Allows e marks word = (i : ℕ) → slice_index marks i ≡ 0 → slice_index (transform e word) i ≡ 0

-- a word of a span costs no more than any that its marks allow
abbrev pub Cheapest : {S : Type 0} → Kind S → ℕ → List ℕ → List S → List ℕ → Type 0
Cheapest kind e marks values word = (other : List ℕ) → length other ≡ 2 ^ e → Allows e marks other → cost kind values word ≤ cost kind values other

-- the sum of the sizes
abbrev pub total : {S : Type 0} → Kind S → List S → ℕ
total kind [] = 0
total kind (v ∷ values) = kind.size v + total kind values

-- a size rule that adds up to a limit: sizes add where the signs agree and their sum is within the limit, and subtract otherwise
abbrev pub Adds : ℕ → (Bool → ℕ → ℕ → ℕ) → Type 0
Adds limit rule = ((a b : ℕ) → a + b ≤ limit → rule true a b ≡ a + b) × ((a b : ℕ) → rule false a b ≡ apart a b)

-- which settled words are the cheapest: those of Rate-1 and SPC, and those of Rep where sizes add and stay within the limit
abbrev pub Cheap : {S : Type 0} → Kind S → SpanKind → ℕ → List S → List ℕ → Type 0
Cheap kind Rate0 e values word = Unit {0}
Cheap kind Rate1 e values word = Cheapest kind e (pattern Rate1 (2 ^ e)) values word
Cheap kind Rep e values word = (limit : ℕ) → Adds limit kind.size_rule → total kind values ≤ limit → Cheapest kind e (pattern Rep (2 ^ e)) values word
Cheap kind Spc e values word = Cheapest kind e (pattern Spc (2 ^ e)) values word
