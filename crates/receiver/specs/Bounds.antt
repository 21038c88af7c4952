-- How many steps can remain at most: cited by the contract that ties a receiver to its model. Assumes nothing.
use Rattle.std.specs.Prelude.{ℕ, ◌+◌, ◌-◌, ◌*◌, ◌^◌, List, [], ◌∷◌}
use Rattle.soft.specs.Kind.{Kind}
use Rattle.receiver.specs.Work.{Span, Side, left, right, first, second, final, Place, at, finished, right_of, span_at}

-- at most as many steps as this are made for a span
abbrev pub most : {S : Type 0} → Span S → ℕ
most span = 4 * 2 ^ span.e - 3

-- at most as many steps as this remain when the span at a path is done
abbrev pub up : {S : Type 0} → Kind S → Span S → List Side → ℕ
up kind root [] = 0
up kind root (left ∷ path) = 1 + most (right_of kind (span_at kind root path)) + 1 + up kind root path
up kind root (right ∷ path) = 1 + up kind root path

-- at most as many steps as this remain
abbrev pub remaining : {S : Type 0} → Kind S → Span S → Place → ℕ
remaining kind root (at first path) = most (span_at kind root path) + up kind root path
remaining kind root (at second path) = 1 + most (right_of kind (span_at kind root path)) + 1 + up kind root path
remaining kind root (at final path) = 1 + up kind root path
remaining kind root finished = 0
