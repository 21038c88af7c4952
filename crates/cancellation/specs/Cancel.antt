-- Cancellation one position at a time: cited by every promise about a decoded word. Assumes nothing.
use Rattle.std.specs.Prelude.{ℕ, zero, suc, ◌-◌, ◌^◌, cond, List, [], ◌∷◌, take, drop, ◌==◌, nat_le, nat_lt}
use Rattle.soft.specs.Kind.{Kind}
use Rattle.code.specs.Spans.{part}
use Rattle.code.specs.Transform.{join_halves}
use Rattle.cancellation.specs.Rows.{bit, left_values, right_values}

-- a single position gets 0 if it is frozen, else its value's sign
abbrev pub decided : {S : Type 0} → Kind S → List ℕ → List S → List ℕ
decided kind [] values = []
decided kind (m ∷ marks) [] = []
decided kind (m ∷ marks) (v ∷ values) = cond (m == 1) (bit (kind.sign v)) 0 ∷ []

-- the word that cancellation gives a span of 2 ^ e positions, from its marks and its values
unfoldable pub cancel : {S : Type 0} → Kind S → ℕ → List ℕ → List S → List ℕ
cancel kind zero marks values = decided kind marks values
cancel kind (suc e) marks values =
    let left = cancel kind e (take (2 ^ e) marks) (left_values kind e values) in
    join_halves left (cancel kind e (drop (2 ^ e) marks) (right_values kind e values left))

-- the values on which cancellation decodes the span of 2 ^ e positions from s on, within a span of 2 ^ n that has these marks and values
unfoldable pub span_values : {S : Type 0} → Kind S → ℕ → List ℕ → List S → ℕ → ℕ → List S
span_values kind zero marks values e s = values
span_values kind (suc n) marks values e s =
    cond (nat_le (suc n) e) values
    (cond (nat_lt s (2 ^ n))
    (span_values kind n (take (2 ^ n) marks) (left_values kind n values) e s)
    (span_values kind n (drop (2 ^ n) marks) (right_values kind n values (cancel kind n (take (2 ^ n) marks) (left_values kind n values))) e (s - 2 ^ n)))

-- the word that cancellation gives that span
abbrev pub span_word : {S : Type 0} → Kind S → ℕ → List ℕ → List S → ℕ → ℕ → List ℕ
span_word kind n marks values e s = cancel kind e (part marks s (2 ^ e)) (span_values kind n marks values e s)
