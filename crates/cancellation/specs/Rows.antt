-- Rows of soft numbers and of bits: cited by the contracts of the functions that combine them. Assumes nothing.
use Rattle.std.specs.Prelude.{◌≡◌, ℕ, ◌*◌, ◌^◌, Bool, true, false, List, [], ◌∷◌, ◌++◌, take, drop, Ok, Err, Result, ◌==◌}
use Rattle.soft.specs.Kind.{Kind}
use Rattle.code.specs.Transform.{join_halves}
use Rattle.cancellation.specs.declared.faults.RowFault.{RowFault}
use Rattle.cancellation.specs.declared.faults.RowFault.TheVariants.{Length}

-- a sign as a bit
abbrev pub bit : Bool → ℕ
bit true = 1
bit false = 0

-- the signs of a row
abbrev pub signs : {S : Type 0} → Kind S → List S → List ℕ
signs kind [] = []
signs kind (v ∷ vs) = bit (kind.sign v) ∷ signs kind vs

-- check(a, b), place by place
abbrev pub check_row : {S : Type 0} → Kind S → List S → List S → List S
check_row kind [] bs = []
check_row kind (a ∷ xs) [] = []
check_row kind (a ∷ xs) (b ∷ bs) = kind.check a b ∷ check_row kind xs bs

-- join(a, b, β), place by place
abbrev pub join_row : {S : Type 0} → Kind S → List S → List S → List ℕ → List S
join_row kind [] bs βs = []
join_row kind (a ∷ xs) [] βs = []
join_row kind (a ∷ xs) (b ∷ bs) [] = []
join_row kind (a ∷ xs) (b ∷ bs) (β ∷ βs) = kind.join a b (β == 1) ∷ join_row kind xs bs βs

-- the values on which the left half of a span of 2 ^ suc e is decoded
abbrev pub left_values : {S : Type 0} → Kind S → ℕ → List S → List S
left_values kind e values = check_row kind (take (2 ^ e) values) (drop (2 ^ e) values)

-- the values on which the right half is decoded, once the left half has these bits
abbrev pub right_values : {S : Type 0} → Kind S → ℕ → List S → List ℕ → List S
right_values kind e values left = join_row kind (take (2 ^ e) values) (drop (2 ^ e) values) left

-- a row of two halves with room for a third behind it, once the check of both is written there
abbrev pub with_check : {S : Type 0} → Kind S → List S → ℕ → List S
with_check kind rows h = take (2 * h) rows ++ check_row kind (take h rows) (take h (drop h rows))

-- the same, with the join of both by these bits
abbrev pub with_join : {S : Type 0} → Kind S → List S → List ℕ → ℕ → List S
with_join kind rows βs h = take (2 * h) rows ++ join_row kind (take h rows) (take h (drop h rows)) βs

-- a row of bits once its right half is XORed onto its left
abbrev pub with_xor : List ℕ → ℕ → List ℕ
with_xor bits h = join_halves (take h bits) (drop h bits)

-- what a call answers that needs rows of certain lengths, told by a number, and what its row then holds; refused, it is as it was
pub record Rowed {X : Type 0} (asked : ℕ → Type 0) (made : ℕ → List X) (before after : List X) (answer : Result (Unit {0}) RowFault) : Type 0 where
  pub done : (h : ℕ) → asked h → (answer ≡ Ok tt) × (after ≡ made h)
  pub refused : ((h : ℕ) → asked h → ⊥) → (answer ≡ Err Length) × (after ≡ before)
