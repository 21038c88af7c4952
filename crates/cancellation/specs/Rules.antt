-- The span rules: cited by the functions that settle a span. Assumes nothing.
use Rattle.std.specs.Prelude.{◌≡◌, ℕ, zero, suc, ◌+◌, ◌*◌, ◌/◌, ◌%◌, ◌^◌, ◌<◌, ◌≤◌, cond, List, [], ◌∷◌, ◌++◌, take, drop, replicate, ◌==◌, bit_xor, slice_index, slice_index_or, slice_set}
use Rattle.soft.specs.Kind.{Kind}
use Rattle.code.specs.declared.kinds.SpanKind.{SpanKind}
use Rattle.code.specs.declared.kinds.SpanKind.TheVariants.{Rate0, Rate1, Rep, Spc}
use Rattle.cancellation.specs.Rows.{bit, signs, join_row}

-- the size at a place of a row
abbrev pub size_at : {S : Type 0} → Kind S → List S → ℕ → ℕ
size_at kind values i = kind.size (slice_index_or values i kind.fill)

-- Rep: a row of 2 ^ e halved by join with β = 0 until one value is left
abbrev pub last_left : {S : Type 0} → Kind S → ℕ → List S → List S
last_left kind zero values = values
last_left kind (suc e) values = last_left kind e (join_row kind (take (2 ^ e) values) (drop (2 ^ e) values) (replicate (2 ^ e) 0))

-- Rep: all bits are the sign of the value left
abbrev pub repeated : {S : Type 0} → Kind S → ℕ → List S → List ℕ
repeated kind e values = replicate (2 ^ e) (bit (kind.sign (slice_index_or (last_left kind e values) 0 kind.fill)))

-- SPC: the XOR of a row of bits
abbrev pub parity : List ℕ → ℕ
parity [] = 0
parity (b ∷ bits) = bit_xor b (parity bits)

-- SPC: a number of e bits, its bits read in reverse
abbrev pub reversed : ℕ → ℕ → ℕ
reversed zero i = 0
reversed (suc e) i = (i % 2) * 2 ^ e + reversed e (i / 2)

-- SPC: the place to turn in a span of 2 ^ e: of least size, and among equals the one whose number, read in reverse, is smallest
pub record Turns (e : ℕ) (size : ℕ → ℕ) (count place : ℕ) : Type 0 where
  pub within : place < count
  pub least : (q : ℕ) → q < count → size place ≤ size q
  pub first : (q : ℕ) → q < count → size q ≡ size place → reversed e place ≤ reversed e q

-- a row with one bit turned
abbrev pub turned_at : ℕ → List ℕ → List ℕ
turned_at p bits = slice_set bits p (bit_xor (slice_index bits p) 1)

-- SPC: the signs if their XOR is 0, else the signs with the bit at this place turned
abbrev pub evened : {S : Type 0} → Kind S → List S → ℕ → List ℕ
evened kind values p = cond (parity (signs kind values) == 0) (signs kind values) (turned_at p (signs kind values))

-- the word of each rule
abbrev pub Rule : {S : Type 0} → Kind S → SpanKind → ℕ → List S → List ℕ → Type 0
Rule kind Rate0 e values word = word ≡ replicate (2 ^ e) 0
Rule kind Rate1 e values word = word ≡ signs kind values
Rule kind Rep e values word = word ≡ repeated kind e values
Rule kind Spc e values word = (p : ℕ) × Turns e (size_at kind values) (2 ^ e) p × (word ≡ evened kind values p)

-- the row after it was halved in place: each half that was joined onto the one before it stays
abbrev pub folded : {S : Type 0} → Kind S → ℕ → List S → List S
folded kind zero values = values
folded kind (suc e) values =
    folded kind e (join_row kind (take (2 ^ e) values) (drop (2 ^ e) values) (replicate (2 ^ e) 0)) ++ drop (2 ^ e) values
