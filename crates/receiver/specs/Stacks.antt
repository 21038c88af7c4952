-- Lent memory as a list: what is on a stack, and what a write leaves. Cited by `Stack` and by the functions that write rows. Assumes nothing.
use Rattle.std.specs.Prelude.{ℕ, zero, suc, ◌+◌, List, [], ◌∷◌, ◌++◌, length, take, drop, Some, None, Option}

-- what stands at a place of a list, or nothing
abbrev pub nth : {X : Type 0} → List X → ℕ → Option X
nth [] i = None
nth (x ∷ xs) zero = Some x
nth (x ∷ xs) (suc i) = nth xs i

-- the top of a stack of `len` elements, if it is there
abbrev pub top_of : {X : Type 0} → ℕ → List X → Option X
top_of zero slots = None
top_of (suc len) slots = nth slots len

-- a list after some of its entries, from a place on, were overwritten
unfoldable pub overwritten : {X : Type 0} → List X → ℕ → List X → List X
overwritten xs at ys = take at xs ++ (ys ++ drop (at + length ys) xs)
