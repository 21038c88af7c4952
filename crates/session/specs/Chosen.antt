-- The map in force, of either make: cited by `Chosen`. Assumes nothing.
use Rattle.std.specs.Prelude.{ℕ, List}
use Rattle.code.specs.Orders.{ranks_of, ranked_marks}
use Rattle.session.specs.declared.chosen.Chosen.{Chosen}
use Rattle.session.specs.declared.chosen.Chosen.TheVariants.{Ranked, Listed}

-- n
abbrev pub exponent_of : Chosen → ℕ
exponent_of (Ranked map) = map.order.n
exponent_of (Listed map) = map.n

-- the marks
abbrev pub marks_of : Chosen → List ℕ
marks_of (Ranked map) = ranked_marks (ranks_of map.order.ranks.now) map.k
marks_of (Listed map) = map.marks.now
